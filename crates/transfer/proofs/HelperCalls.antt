-- Calls: if the facts permit a call, the machine has a result, and the facts after the call admit its state.
use Rattle.std.proofs.Common.{◌≡◌, ℕ, ◌+◌, ◌-◌, ◌%◌, ◌<◌, ◌≤◌, ◌^◌, ◌==◌, leb, ℤ, pos, ◌≤ℤ◌, Bool, true, false, ◌||◌, List, length}
use Rattle.std.proofs.Common.{replicate, inl, inr, eq-eqb, drop, Option, Some, None, Result, Ok, Err, refl, sym, ap, subst, ◌∙◌, arith}
use Rattle.std.proofs.lemmas.Bool.{cond_both, cond-true, cond-false, and_parts, eqb-false, leb-true, ne_eqb}
use Rattle.std.proofs.lemmas.Int.{ints}
use Rattle.std.proofs.lemmas.Option.{cond_some}
use Rattle.std.proofs.lemmas.List.{length-take, length-drop, length-replicate, get_or-replicate}
use Rattle.std.proofs.lemmas.List.Elements.{All-take, All-drop}
use Rattle.interval.specs.declared.range.Range.{Range}
use Rattle.interval.specs.Ranges.{IsMember}
use Rattle.words.specs.Bytes.{bytes_at, AreBytes}
use Rattle.words.specs.Stack.{is_in_stack, byte_index}
use Rattle.reg_kinds.specs.declared.kind.ValuePointer.{ValuePointer}
use Rattle.reg_kinds.specs.declared.kind.Kind.{Kind}
use Rattle.reg_kinds.specs.declared.kind.Kind.TheVariants as kind
use Rattle.reg_kinds.specs.declared.facts.Facts.{Facts}
use Rattle.reg_kinds.specs.declared.reason.Reason.{Reason}
use Rattle.reg_kinds.specs.declared.reason.Reason.TheVariants.{LengthUnbounded}
use Rattle.reg_kinds.specs.Reason.{and_then_ok}
use Rattle.reg_kinds.specs.Kinds.{kind_at}
use Rattle.reg_kinds.specs.Many.{stack_input, stack_filled, called_facts}
use Rattle.tagged_model.specs.declared.fault.MapFault.{MapFault}
use Rattle.tagged_model.specs.declared.fault.MapFault.TheVariants.{NoEntry, TooBig, Memory, Exists, Invalid, NoSpace}
use Rattle.tagged_model.specs.declared.helper.Helper.{Helper}
use Rattle.tagged_model.specs.declared.helper.Helper.TheVariants.{LookUp, Update, Delete, LoadBytes}
use Rattle.tagged_model.specs.declared.shape.MapShape.{MapShape}
use Rattle.tagged_model.specs.declared.value.Object.TheVariants as object
use Rattle.tagged_model.specs.declared.value.Tagged.{Tagged}
use Rattle.tagged_model.specs.declared.value.Tagged.TheVariants.{Scalar, Map, Pointer}
use Rattle.tagged_model.specs.Table.{look_up, verdict, Verdict, Refused, Present, New, removal}
use Rattle.tagged_model.specs.Cells.{and_then, cell_over}
use Rattle.tagged_model.specs.State.{RunState, RunMap, with_map, with_cells, stack_bytes, stack_written, object_bytes, object_written, input, output}
use Rattle.tagged_model.specs.Helpers.{GivenMap, map_given, number_given, length_given, context_given, argument}
use Rattle.tagged_model.specs.Helpers.{map_argument, looked_up, MapReply, put, updated, taken_out, removed, errno}
use Rattle.tagged_model.specs.Helpers.{packet_bytes, packet_result, is_in_packet, negative, outside, returns, replies, called}
use Rattle.tagged_model.specs.StateInvariant.{IsMapOf, HasMaps}
use Rattle.abstraction.specs.Admits.{Witness, IsOfKind, IsLookup, HasKind, AdmitsBy, objects_of, AreBelow, witness_at}
use Rattle.abstraction.specs.Laws.{StackInputAdmits, StackOutputAdmits, ObjectReadAdmits, ObjectWriteAdmits}
use Rattle.abstraction.specs.Laws.{MapCallsKeep, KeepsShapeAndObjects, Describes, MapChangeAdmits, CallAdmits, SiteAdmits}
use Rattle.transfer.specs.Arithmetic.{check_readable}
use Rattle.tagged_model.specs.Named.{Shapes}
use Rattle.transfer.specs.declared.calls.ShapedMap.{ShapedMap}
use Rattle.transfer.specs.Calls.{shaped, argument_map, check_in_value, input_kind, output_facts, number_range, lengths_end}
use Rattle.transfer.specs.Calls.{length_range, context_kind, readable_two, readable_four, any_number, call_facts}
use Rattle.transfer.specs.Sound.{CallIsAdmitted, CallsAreSound}
use Rattle.transfer.proofs.Rooms.{owned, room_here}
use Rattle.transfer.proofs.Parts.{Agree, by_law, refused, same_ok, IsReadable}

-- ---- steps in sequence

also_agree : {A B C D : Type 0} (P : A → B → Type 0) (Q : C → D → Type 0) (r : Result A Reason)
    (o : Option B) (go : A → Result C Reason) (on : B → Option D)
    → Agree P r o
    → ((x : A) (y : B) → P x y → Agree Q (go x) (on y))
    → Agree Q (and_then_ok r go) (and_then o on)
also_agree P Q (Err e) o go on h further = tt
also_agree P Q (Ok x) None go on h further = absurd h
also_agree P Q (Ok x) (Some y) go on h further = further x y h

-- the facts test whether a register is readable; the machine has no such step
readable_agree : {C D : Type 0} (Q : C → D → Type 0) (k : Kind) (go : Kind → Result C Reason) (o : Option D)
    → (IsReadable k → Agree Q (go k) o) → Agree Q (and_then_ok (check_readable k) go) o
readable_agree Q kind.Unreadable go o h = tt
readable_agree Q k go o h = h tt

-- an argument by its value
at_argument : {A B : Type 0} (Q : A → B → Type 0) (r : Result A Reason) (s : RunState) (n : ℕ)
    (on : Tagged → Option B) (v w : Tagged)
    → s.registers n ≡ Some v → v ≡ w
    → Agree Q r (on w)
    → Agree Q r (argument s n on)
at_argument Q r s n on v w e same h =
    subst (λ o. Agree Q r (and_then o on)) (sym (e ∙ ap (λ (x : Tagged). Some x) same)) h

from_agree : {A B : Type 0} (P : A → B → Type 0) (r : Result A Reason) (o : Option B) (x : A)
    → Agree P r o → r ≡ Ok x → (y : B) × (o ≡ Some y) × P x y
from_agree P (Err e) o x h q = absurd (refused e x q)
from_agree P (Ok y) None x h q = absurd h
from_agree P (Ok y) (Some z) x h q = let same : y ≡ x = cc in (z, refl, subst (λ a. P a z) same h)

-- the premises of the calls
pub record Laws : Type 0 where
  -- bytes of the stack that the facts let a helper read are present
  pub stack_input : StackInputAdmits
  -- the facts after a helper's write into the stack, which the facts allow, admit the state after it
  pub stack_output : StackOutputAdmits
  -- the bytes at offsets within an object are present
  pub object_read : ObjectReadAdmits
  -- a write of bytes within an object changes no fact
  pub object_write : ObjectWriteAdmits
  -- the calls of a map keep its shape and its objects, and a look-up gives one of its objects
  pub map_calls : MapCallsKeep
  -- if a map changes to one that keeps its shape and its objects, the facts still describe the state
  pub map_change : MapChangeAdmits
  -- if a call returns a value of a kind, the facts after it describe the state after it
  pub call : CallAdmits
  -- for a site that no fact mentions, the witness may record what the look-up there gave
  pub site : SiteAdmits

any_is : (witness : Witness) (n : ℕ) → n < 2 ^ 64 → IsOfKind witness any_number (Scalar n)
any_is witness n h = (n, refl, record { from = omega arith; to = omega arith }, h)

-- ---- results are words

fault_small : (fault : MapFault) → negative (errno fault) < 2 ^ 64
fault_small NoEntry = omega arith
fault_small TooBig = omega arith
fault_small Memory = omega arith
fault_small Exists = omega arith
fault_small Invalid = omega arith
fault_small NoSpace = omega arith

put_small : (t : RunMap) (key value : List ℕ) (v : Verdict ℕ) → (put t key value v).answer < 2 ^ 64
put_small t key value (Refused fault) = fault_small fault
put_small t key value (Present number) = omega arith
put_small t key value New = omega arith

taken_small : (t : RunMap) (key : List ℕ) (r : Result ℕ MapFault) → (taken_out t key r).answer < 2 ^ 64
taken_small t key (Err fault) = fault_small fault
taken_small t key (Ok number) = omega arith

answer_small : (packet : List ℕ) (offset n : ℕ) → packet_result packet offset n < 2 ^ 64
answer_small packet offset n =
    cond_both (is_in_packet packet offset n) 0 (negative outside) (λ a. a < 2 ^ 64)
    (λ _. omega arith) (λ _. omega arith)

packet_read : (packet : List ℕ) (offset n : ℕ)
    → AreBytes packet
    → (length (packet_bytes packet offset n) ≡ n) × AreBytes (packet_bytes packet offset n)
packet_read packet offset n small =
    cond_both (is_in_packet packet offset n) (bytes_at packet (offset % 2 ^ 32) n) (replicate n 0)
    (λ bs. (length bs ≡ n) × AreBytes bs)
    (λ e. let h = and_parts (leb (offset % 2 ^ 32) (2 ^ 31 - 1)) (leb (offset % 2 ^ 32 + n) (length packet)) e in
    let fits : offset % 2 ^ 32 + n ≤ length packet = leb-true (offset % 2 ^ 32 + n) (length packet) h.1 in (
      omega (arith, length-take n (drop (offset % 2 ^ 32) packet), length-drop (offset % 2 ^ 32) packet),
      All-take (λ b. b < 256) n (drop (offset % 2 ^ 32) packet)
          (All-drop (λ b. b < 256) (offset % 2 ^ 32) packet small),
    ))
    (λ _. (length-replicate n 0, zeros n))
  where
    among : (k l n : ℕ) → l ≡ n → k < l → k < n
    among k l n e lt = omega arith

    zeros : (n : ℕ) → AreBytes (replicate n 0)
    zeros n k d lt =
        subst (λ b. b < 256)
        (sym (get_or-replicate n k 0 d (among k (length (replicate n 0)) n (length-replicate n 0) lt)))
        (omega arith)

module _ (laws : Laws) {witness : Witness} {shapes : Shapes} {f : Facts} {s : RunState}
    (still : Describes witness f shapes s) where
  -- ---- arguments

  record IsMap (x : ShapedMap) (g : GivenMap) : Type 0 where
    named : x.descriptor ≡ g.descriptor
    shape_is : shapes x.descriptor ≡ Some x.shape
    there : s.maps g.descriptor ≡ Some g.map
    is : IsMapOf x.shape g.map

  map_found : (n m : ℕ) (o : Option MapShape)
      → shapes m ≡ o → s.registers n ≡ Some (Map m)
      → Agree IsMap (shaped m o) (map_argument s n)
  map_found n m None e register = tt
  map_found n m (Some shape) e register =
      let h = still.maps m shape e in
      let at : map_argument s n ≡ Some (record { descriptor = m; map = h.0 }) =
      ap (λ o.
      and_then (and_then o map_given) (λ m. and_then (s.maps m) (λ t. Some (record { descriptor = m; map = t }))))
      register
      ∙ ap (λ o. and_then o (λ t. Some (record { descriptor = m; map = t }))) h.1 in
      subst (Agree IsMap (shaped m (Some shape))) (sym at)
      (record { named = refl; shape_is = e; there = h.1; is = h.2 })

  map_agrees : (n : ℕ) (k : Kind)
      → IsReadable k → HasKind witness k (s.registers n)
      → Agree IsMap (argument_map shapes k) (map_argument s n)
  map_agrees n (kind.MapRef m) r h = map_found n m (shapes m) refl (h.1 ∙ ap (λ (v : Tagged). Some v) h.2)
  map_agrees n k r h = tt

  abbrev AreRead : ℕ → Unit {0} → List ℕ → Type 0
  AreRead n _ bs = (length bs ≡ n) × AreBytes bs

  value_found : (p : ValuePointer) (n number : ℕ) (x : ℤ) (o : Option MapShape)
      → shapes p.map ≡ o → p.lo ≤ℤ x
      → x ≤ℤ p.hi → number < witness.objects p.map
      → Agree (AreRead n) (check_in_value p (pos 0) n o) (object_bytes s p.map number x n)
  value_found p n number x None e from to lt = tt
  value_found p n number x (Some shape) e from to lt =
      by_law (AreRead n) (check_in_value p (pos 0) n (Some shape)) (object_bytes s p.map number x n)
      (λ _ ok.
      let room = room_here p n x shape from to ok in
      let h =
      laws.object_read s p.map number shape x n still.proper (owned still p.map number shape e lt) room.low room.high in
      (h.0, h.1, (h.2, h.3)))

  input_agrees : (n r : ℕ) (k : Kind)
      → IsReadable k → HasKind witness k (s.registers r)
      → Agree (AreRead n) (input_kind shapes f n k) (argument s r (λ p. input s p n))
  input_agrees n r (kind.Stack x) _ h =
      at_argument (AreRead n) (stack_input f x n) s r (λ p. input s p n) h.0 (Pointer object.Stack x) h.1 h.2
      (by_law (AreRead n) (stack_input f x n) (stack_bytes s x n)
      (λ _ ok. let h = laws.stack_input witness f s x n still.proper still.admits ok in (h.0, h.1, (h.2, h.3))))
  input_agrees n r (kind.Value p) _ h =
      let v = h.2 in
      at_argument (AreRead n) (check_in_value p (pos 0) n (shapes p.map)) s r (λ p. input s p n) h.0
      (Pointer (object.Value p.map v.0) v.1) h.1 v.2
      (value_found p n v.0 v.1 (shapes p.map) refl v.3 v.4 v.5)
  input_agrees n r k _ h = tt

  -- an input of the map's key or value size
  sized_agrees : (n m r : ℕ) (k : Kind)
      → n ≡ m → IsReadable k
      → HasKind witness k (s.registers r)
      → Agree (AreRead n) (input_kind shapes f n k) (argument s r (λ p. input s p m))
  sized_agrees n m r k e read h =
      subst (λ x. Agree (AreRead n) (input_kind shapes f n k) (argument s r (λ p. input s p x))) e
      (input_agrees n r k read h)

  abbrev InRange : Range → ℕ → Type 0
  InRange r n = IsMember n r

  number_agrees : (r : ℕ) (k : Kind)
      → IsReadable k → HasKind witness k (s.registers r)
      → Agree InRange (number_range k) (argument s r number_given)
  number_agrees r (kind.Scalar range) _ h =
      at_argument InRange (Ok range) s r number_given h.0 (Scalar h.2.0) h.1 h.2.1 h.2.2
  number_agrees r k _ h = tt

  length_agrees : (r : ℕ) (k : Kind)
      → IsReadable k → HasKind witness k (s.registers r)
      → Agree InRange (length_range k) (argument s r length_given)
  length_agrees r (kind.Scalar range) _ h =
      at_argument InRange (length_range (kind.Scalar range)) s r length_given h.0 (Scalar h.2.0) h.1 h.2.1
      (cond_both (range.lo == 0 || leb lengths_end range.hi) (Err LengthUnbounded) (Ok range)
      (λ a. Agree InRange a (length_given (Scalar h.2.0)))
      (λ _. tt)
      (λ e.
      let from = h.2.2.from in
      let some = first (range.lo == 0) (leb lengths_end range.hi) e in
      let not_zero = eqb-false range.lo 0 some in
      subst (Agree InRange (Ok range))
      (sym (cond-false (h.2.0 == 0) None (Some h.2.0) (ne_eqb h.2.0 0 (λ z. not_zero (omega arith)))))
      h.2.2))
    where
      first : (a b : Bool) → (a || b) ≡ false → a ≡ false
      first true b e = e
      first false b e = refl
  length_agrees r k _ h = tt

  abbrev Anything : Unit {0} → Unit {0} → Type 0
  Anything x y = Unit {0}

  context_agrees : (r : ℕ) (k : Kind)
      → IsReadable k → HasKind witness k (s.registers r)
      → Agree Anything (context_kind k) (argument s r context_given)
  context_agrees r kind.Ctx _ h =
      at_argument Anything (Ok tt) s r context_given h.0 (Pointer object.Context (pos 0)) h.1 h.2 tt
  context_agrees r k _ h = tt

  -- ---- bytes that a helper writes

  record IsFilled (bs : List ℕ) (g : Facts) (u : RunState) : Type 0 where
    known : Describes witness g shapes u
    same_at : u.at ≡ s.at

  stack_filled_agrees : (x : ℤ) (r : Range) (bs : List ℕ)
      → AreBytes bs → IsMember (length bs) r
      → Agree (IsFilled bs) (stack_filled f x r.lo r.hi) (stack_written s x bs)
  stack_filled_agrees x r bs small m =
      by_law (IsFilled bs) (stack_filled f x r.lo r.hi) (stack_written s x bs)
      (λ g ok. let h = laws.stack_output witness f g s x r.lo r.hi bs still.proper still.admits small m.from m.to ok in
      let c =
      cond_some (is_in_stack x (length bs)) (with_cells s (λ i. cell_over i (s.cells i) (byte_index x) bs)) h.0 h.1 in (
        h.0,
        h.1,
        record {
          known = record { admits = h.2; proper = h.3; maps = subst (λ u. HasMaps shapes u) c.1 still.maps };
          same_at = ap (λ (u : RunState). u.at) (sym c.1);
        },
      ))

  given_room : (r : Result (Unit {0}) Reason) (g : Facts) → and_then_ok r (λ _. Ok f) ≡ Ok g → (r ≡ Ok tt) × (f ≡ g)
  given_room (Ok x) g e = (refl, same_ok f g e)
  given_room (Err reason) g e = absurd (refused reason g e)

  value_filled_agrees : (p : ValuePointer) (r : Range) (number : ℕ) (x : ℤ) (bs : List ℕ)
      (o : Option MapShape)
      → shapes p.map ≡ o → p.lo ≤ℤ x
      → x ≤ℤ p.hi → number < witness.objects p.map
      → AreBytes bs → IsMember (length bs) r
      → Agree (IsFilled bs) (and_then_ok (check_in_value p (pos 0) r.hi o) (λ _. Ok f)) (object_written s p.map number x bs)
  value_filled_agrees p r number x bs None e from to lt small m = tt
  value_filled_agrees p r number x bs (Some shape) e from to lt small m =
      by_law (IsFilled bs)
      (and_then_ok (check_in_value p (pos 0) r.hi (Some shape)) (λ _. Ok f))
      (object_written s p.map number x bs)
      (λ g ok. let c = given_room (check_in_value p (pos 0) r.hi (Some shape)) g ok in
      let room = room_here p r.hi x shape from to c.0 in
      let high = room.high in let most = m.to in
      let h =
      laws.object_write witness f shapes s p.map number shape x bs still.proper still.admits
      still.maps (owned still p.map number shape e lt) small
      room.low (omega (arith, ints)) in (
        h.0,
        h.1,
        record {
          known = record { admits = subst (λ k. AdmitsBy witness k h.0) c.1 h.2; proper = h.3; maps = h.4 };
          same_at = h.5;
        },
      ))

  output_agrees : (n : ℕ) (r : Range) (k : Kind) (bs : List ℕ)
      → IsReadable k → HasKind witness k (s.registers n)
      → AreBytes bs → IsMember (length bs) r
      → Agree (IsFilled bs) (output_facts shapes f r k) (argument s n (λ p. output s p bs))
  output_agrees n r (kind.Stack x) bs _ h small m =
      at_argument (IsFilled bs) (stack_filled f x r.lo r.hi) s n (λ p. output s p bs) h.0
      (Pointer object.Stack x) h.1 h.2 (stack_filled_agrees x r bs small m)
  output_agrees n r (kind.Value p) bs _ h small m =
      let v = h.2 in
      at_argument (IsFilled bs)
      (and_then_ok (check_in_value p (pos 0) r.hi (shapes p.map)) (λ _. Ok f))
      s n (λ p. output s p bs) h.0 (Pointer (object.Value p.map v.0) v.1)
      h.1 v.2
      (value_filled_agrees p r v.0 v.1 bs (shapes p.map) refl v.3 v.4 v.5 small m)
  output_agrees n r k bs _ h small m = tt

  -- ---- the calls

  kinds : (r : ℕ) → HasKind witness (kind_at f r) (s.registers r)
  kinds r = still.admits.registers r

  module _ (below : AreBelow s.at f) where
    found_is : (x : ShapedMap) (g : GivenMap)
        → IsMap x g
        → (o : Option ℕ) → ((number : ℕ) → o ≡ Some number → number < g.map.count)
        → IsLookup (witness_at witness s s.at (looked_up g.descriptor o)) x.descriptor (looked_up g.descriptor o)
    found_is x g is None lt = inl refl
    found_is x g is (Some number) lt =
        inr (
          number,
          ap (λ (m : ℕ). Pointer (object.Value m number) (pos 0)) (sym is.named),
          subst (λ m. number < objects_of (s.maps m)) (sym is.named)
              (subst (λ o. number < objects_of o) (sym is.there) (lt number refl)),
        )

    looked : (x : ShapedMap) (g : GivenMap) (key : List ℕ)
        → IsMap x g
        → CallIsAdmitted (called_facts f (kind.MaybeValue x.descriptor s.at)) shapes s
        (returns s (looked_up g.descriptor (look_up g.map.table key)))
    looked x g key is =
        let v = looked_up g.descriptor (look_up g.map.table key) in
        record {
          witness = witness_at witness s s.at v;
          still =
              laws.call (witness_at witness s s.at v) f shapes s (kind.MaybeValue x.descriptor s.at)
              v (laws.site witness f shapes s s.at v below still) (
                sym (cond-true (s.at == s.at) v (witness.gave s.at) (eq-eqb s.at s.at refl)),
                found_is x g is (look_up g.map.table key)
                    (λ number e. laws.map_calls.owned x.shape g.map key number is.is e),
              );
          at = refl;
        }

    -- the state with a changed map
    replied : (x : ShapedMap) (g : GivenMap) (reply : MapReply)
        → IsMap x g → KeepsShapeAndObjects x.shape g.map reply.map
        → reply.answer < 2 ^ 64
        → CallIsAdmitted (called_facts f any_number) shapes s (replies s g.descriptor reply)
    replied x g reply is keeps small =
        let changed = with_map s g.descriptor reply.map in
        let known =
        laws.map_change witness f shapes s g.descriptor x.shape g.map reply.map still is.there
        (subst (λ m. shapes m ≡ Some x.shape) is.named is.shape_is)
        keeps in
        record {
          witness = witness;
          still =
              laws.call witness f shapes changed any_number (Scalar reply.answer) known
              (any_is witness reply.answer small);
          at = refl;
        }

    bytes_of_map : (x : ShapedMap) (g : GivenMap) → IsMap x g → (number : ℕ) → AreBytes (g.map.values number)
    bytes_of_map x g is = still.proper.values g.descriptor g.map is.there

    key_size : (x : ShapedMap) (g : GivenMap) → IsMap x g → x.shape.key_size ≡ g.map.table.shape.key_size
    key_size x g is = ap (λ (t : MapShape). t.key_size) (sym is.is.shaped)

    value_size : (x : ShapedMap) (g : GivenMap) → IsMap x g → x.shape.value_size ≡ g.map.table.shape.value_size
    value_size x g is = ap (λ (t : MapShape). t.value_size) (sym is.is.shaped)

    abbrev IsAdmitted : Facts → RunState → Type 0
    IsAdmitted g u = CallIsAdmitted g shapes s u

    abbrev Read : ℕ → Type 0
    Read r = IsReadable (kind_at f r)

    -- the facts test whether registers are readable; the machine has no such step
    two_read : (go : Kind → Kind → Result Facts Reason) (o : Option RunState)
        → (Read 1 → Read 2 → Agree IsAdmitted (go (kind_at f 1) (kind_at f 2)) o)
        → Agree IsAdmitted (readable_two f go) o
    two_read go o h =
        readable_agree IsAdmitted (kind_at f 1) _ o (λ r1. readable_agree IsAdmitted (kind_at f 2) _ o (h r1))

    four_read : (go : Kind → Kind → Kind → Kind → Result Facts Reason) (o : Option RunState)
        → (Read 1 → Read 2 → Read 3 → Read 4
        → Agree IsAdmitted (go (kind_at f 1) (kind_at f 2) (kind_at f 3) (kind_at f 4)) o)
        → Agree IsAdmitted (readable_four f go) o
    four_read go o h =
        two_read _ o
        (λ r1 r2.
        readable_agree IsAdmitted (kind_at f 3) _ o (λ r3. readable_agree IsAdmitted (kind_at f 4) _ o (h r1 r2 r3)))

    -- a map and one of its keys
    key_given : (go : ShapedMap → Result Facts Reason) (on : GivenMap → List ℕ → Option RunState)
        → Read 1 → Read 2
        → ((x : ShapedMap) (g : GivenMap) (key : List ℕ) → IsMap x g → Agree IsAdmitted (go x) (on g key))
        → Agree IsAdmitted
        (and_then_ok (argument_map shapes (kind_at f 1))
        (λ x. and_then_ok (input_kind shapes f x.shape.key_size (kind_at f 2)) (λ _. go x)))
        (and_then (map_argument s 1) (λ g. and_then (argument s 2 (λ p. input s p g.map.table.shape.key_size)) (on g)))
    key_given go on r1 r2 next =
        also_agree IsMap IsAdmitted _ _ _ _ (map_agrees 1 (kind_at f 1) r1 (kinds 1))
        (λ x g is.
        also_agree (AreRead x.shape.key_size) IsAdmitted _ _ _ _
        (sized_agrees x.shape.key_size g.map.table.shape.key_size 2 (kind_at f 2) (key_size x g is) r2 (kinds 2))
        (λ _ key read. next x g key is))

    all_covered : (h : Helper) → Agree IsAdmitted (call_facts shapes s.at h f) (called h s)
    all_covered LookUp = two_read _ _ (λ r1 r2. key_given _ _ r1 r2 (λ x g key is. looked x g key is))
    all_covered Update =
        four_read _ _ (λ r1 r2 r3 r4. key_given _ _ r1 r2 (λ x g key is.
        also_agree (AreRead x.shape.value_size) IsAdmitted _ _ _ _
        (sized_agrees x.shape.value_size g.map.table.shape.value_size 3 (kind_at f 3)
        (value_size x g is) r3 (kinds 3)) (λ _ value got.
        also_agree InRange IsAdmitted _ _ _ _ (number_agrees 4 (kind_at f 4) r4 (kinds 4)) (λ range flags within.
        replied x g (updated g.map key value flags) is
        (laws.map_calls.updated x.shape g.map key value flags is.is (bytes_of_map x g is) got.0 got.1)
        (put_small g.map key value (verdict g.map.table key flags))))))
    all_covered Delete =
        two_read _ _ (λ r1 r2. key_given _ _ r1 r2 (λ x g key is.
        replied x g (removed g.map key) is
        (laws.map_calls.removed x.shape g.map key is.is (bytes_of_map x g is))
        (taken_small g.map key (removal g.map.table key))))
    all_covered LoadBytes =
        four_read _ _ (λ r1 r2 r3 r4.
        also_agree Anything IsAdmitted _ _ _ _ (context_agrees 1 (kind_at f 1) r1 (kinds 1)) (λ _ _ _.
        also_agree InRange IsAdmitted _ _ _ _ (number_agrees 2 (kind_at f 2) r2 (kinds 2)) (λ _ offset _.
        also_agree InRange IsAdmitted _ _ _ _ (length_agrees 4 (kind_at f 4) r4 (kinds 4)) (λ range n within.
        let bs = packet_bytes s.packet offset n in let read = packet_read s.packet offset n still.proper.packet in
        also_agree (IsFilled bs) IsAdmitted _ _ _ _
        (output_agrees 3 range (kind_at f 3) bs r3 (kinds 3) read.1
        (subst (λ k. IsMember k range) (sym read.0) within)) (λ g u filled.
        record {
          witness = witness;
          still =
              laws.call witness g shapes u any_number (Scalar (packet_result s.packet offset n))
              filled.known
              (any_is witness (packet_result s.packet offset n) (answer_small s.packet offset n));
          at = filled.same_at;
        })))))

pub calls_are_sound : Laws → CallsAreSound
calls_are_sound laws witness shapes h f g s below still e =
    from_agree (λ g u. CallIsAdmitted g shapes s u) (call_facts shapes s.at h f) (called h s) g
    (all_covered laws still below h) e
