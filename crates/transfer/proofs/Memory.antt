-- Loads and stores: if the facts permit one, the machine has a result, and the facts after it admit its state.
use Rattle.std.proofs.Common.{◌≡◌, ℕ, ◌*◌, ◌/◌, ◌%◌, ◌<◌, ◌^◌, ◌==◌, ℤ, pos, negsuc, ◌+ℤ◌, ◌≤ℤ◌, Bool, true, false, ◌&&◌}
use Rattle.std.proofs.Common.{length, get_or, Option, Some, None, Result, Ok, Err, refl, sym, ap, subst, ◌∙◌, arith, inl, inr}
use Rattle.std.specs.Prelude.{◌≢◌, ◌⊎◌, if◌then◌else◌, nat_lt, slice_get, unsigned_abs}
use Rattle.std.specs.Option.{option_map}
use Rattle.std.specs.Ordering.{int_eq}
use Rattle.std.proofs.lemmas.Int.{ints}
use Rattle.std.proofs.lemmas.Bool.Decides.{Decides-int_eq, eqb_tells}
use Rattle.std.proofs.lemmas.Bool.{cond_both, cond-true, and_parts, eqb-true, ltb-true, false≢true}
use Rattle.std.proofs.lemmas.Option.{slice_get-get_or}
use Rattle.interval.specs.declared.range.Range.{Range}
use Rattle.interval.specs.Ranges.{full}
use Rattle.words.specs.declared.operator.Operator.{Operator}
use Rattle.words.specs.declared.stack.AccessSize.{AccessSize}
use Rattle.words.specs.declared.stack.AccessSize.TheVariants.{Byte, Half, Word, Double}
use Rattle.words.specs.Stack.{bytes_of, is_in_stack, byte_index, is_aligned}
use Rattle.insn_set.specs.declared.atomic.AtomicSize.{AtomicSize}
use Rattle.insn_set.specs.declared.atomic.AtomicOp.{AtomicOp}
use Rattle.reg_kinds.specs.declared.kind.Kind.{Kind}
use Rattle.reg_kinds.specs.declared.kind.Kind.TheVariants as kind
use Rattle.reg_kinds.specs.declared.facts.Facts.{Facts}
use Rattle.reg_kinds.specs.declared.reason.Reason.TheVariants.{PartOfSpill, ContextAccess, PointerStored, UnalignedAtomic}
use Rattle.reg_kinds.specs.Stack.{loaded, stack_read, stack_write}
use Rattle.tagged_model.specs.StateInvariant.{HasMaps}
use Rattle.tagged_model.specs.declared.shape.MapShape.{MapShape}
use Rattle.reg_kinds.specs.declared.kind.ValuePointer.{ValuePointer}
use Rattle.reg_kinds.specs.declared.reason.Reason.{Reason}
use Rattle.reg_kinds.specs.Reason.{and_then_ok}
use Rattle.tagged_model.specs.declared.value.Tagged.{Tagged}
use Rattle.tagged_model.specs.declared.value.Tagged.TheVariants.{Scalar}
use Rattle.tagged_model.specs.Cells.{and_then, number_from, read_cell, write_cell}
use Rattle.tagged_model.specs.State.{RunState, with_cell, is_multiple, access_start, stack_load}
use Rattle.tagged_model.specs.State.{stack_store, word_at, context_load, object_bytes, object_stored, load, store}
use Rattle.insn_set.specs.Atomic.{atomic_operator, is_wide_atomic, access_size}
use Rattle.tagged_model.specs.Values.{of_numbers}
use Rattle.tagged_model.specs.Step.{changed}
use Rattle.abstraction.specs.Laws.{StackReadAdmits, StackWriteAdmits, ValueLoadAdmits, ValueStoreAdmits}
use Rattle.transfer.specs.Effects.{is_word, context_read, load_kind, stored_outside, store_facts}
use Rattle.transfer.specs.Effects.{number_or, stack_changed, is_known_multiple, value_changed, atomic_facts}
use Rattle.transfer.specs.Calls.{check_in_value, any_number}
use Rattle.transfer.specs.Sound.{IsKindAt, AreWellFormedAt}
use Rattle.transfer.proofs.Parts.{Here, SomeIs, Agree, Gives, by_law, ok_is, refused, IsKindOf, IsReadable, IsKnown, still_of}
use Rattle.transfer.proofs.Rooms.{owned, room_at}
use Rattle.transfer.proofs.Values.{Results, by_number, number_made}
use Rattle.transfer.proofs.States.{scalar_of}
use Rattle.transfer.proofs.Words.{loaded_words, read_words, written_words}

-- ---- the context

from_zero : (z : ℤ) → z ≡ pos 0 +ℤ z
from_zero z = omega (arith, ints)

-- the premises of loads and stores
pub record Accesses : Type 0 where
  -- a load from the stack that the facts allow gives a value of the kind that they predict
  pub reads : StackReadAdmits
  -- the facts after a store into the stack that the facts allow admit the state after it
  pub writes : StackWriteAdmits
  -- a load within an object gives a value of the predicted kind
  pub loads : ValueLoadAdmits
  -- a store of a number within an object changes no fact
  pub stores : ValueStoreAdmits

given_ok : {B : Type 0} (r : Result (Unit {0}) Reason) (x y : B)
    → and_then_ok r (λ _. Ok x) ≡ Ok y → (r ≡ Ok tt) × (x ≡ y)
given_ok (Ok u) x y e = (refl, cc)
given_ok (Err reason) x y e = absurd (refused reason y e)

-- two steps in sequence
then_agree : {A B C D : Type 0} (P : A → B → Type 0) (Q : C → D → Type 0) (r : Result A Reason)
    (o : Option B) (go : A → Result C Reason) (on : B → Option D)
    → Agree P r o
    → ((x : A) (y : B) → P x y → Agree Q (go x) (on y))
    → Agree Q (and_then_ok r go) (and_then o on)
then_agree P Q (Err e) o go on h further = tt
then_agree P Q (Ok x) None go on h further = absurd h
then_agree P Q (Ok x) (Some y) go on h further = further x y h

-- if the machine has no result, the facts reject the instruction
none_agrees : {A B C D : Type 0} (P : A → B → Type 0) (Q : C → D → Type 0) (r : Result A Reason)
    (go : A → Result C Reason)
    → Agree P r None → Agree Q (and_then_ok r go) None
none_agrees P Q (Err e) go h = tt
none_agrees P Q (Ok x) go h = absurd h

-- ---- alignment: the stack's size is a multiple of each access size

zero_alike : (a b : ℕ) → (a ≡ 0 → b ≡ 0) → (b ≡ 0 → a ≡ 0) → (a == 0) ≡ (b == 0)
zero_alike a b to from = by (eqb_tells a 0) (eqb_tells b 0)
  where
    by : ((a == 0) ≡ true) × (a ≡ 0) ⊎ ((a == 0) ≡ false) × (a ≢ 0)
        → ((b == 0) ≡ true) × (b ≡ 0) ⊎ ((b == 0) ≡ false) × (b ≢ 0) → (a == 0) ≡ (b == 0)
    by (inl x) (inl y) = x.0 ∙ sym y.0
    by (inl x) (inr y) = absurd (y.1 (to x.1))
    by (inr x) (inl y) = absurd (x.1 (from y.1))
    by (inr x) (inr y) = x.0 ∙ sym y.0

index_divides : (y : ℤ) (size : AccessSize) → unsigned_abs y % bytes_of size ≡ 0 → byte_index y % bytes_of size ≡ 0
index_divides y Byte e = omega (arith, ints)
index_divides y Half e = omega (arith, ints)
index_divides y Word e = omega (arith, ints)
index_divides y Double e = omega (arith, ints)

divides_index : (y : ℤ) (size : AccessSize) → byte_index y % bytes_of size ≡ 0 → unsigned_abs y % bytes_of size ≡ 0
divides_index y Byte e = omega (arith, ints)
divides_index y Half e = omega (arith, ints)
divides_index y Word e = omega (arith, ints)
divides_index y Double e = omega (arith, ints)

aligned_as_index : (y : ℤ) (size : AccessSize) → is_multiple y (bytes_of size) ≡ is_aligned y (bytes_of size)
aligned_as_index y size =
    zero_alike (unsigned_abs y % bytes_of size) (byte_index y % bytes_of size)
    (index_divides y size) (divides_index y size)

unaligned_access : (y : ℤ) (size : AccessSize) → is_multiple y (bytes_of size) ≡ false → access_start y size ≡ None
unaligned_access y size not_multiple =
    no_start (is_in_stack y (bytes_of size)) (is_aligned y (bytes_of size)) (byte_index y)
    (sym (aligned_as_index y size) ∙ not_multiple)
  where
    no_start : (inside aligned : Bool) (p : ℕ) → aligned ≡ false → (if inside && aligned then Some p else None) ≡ None
    no_start true aligned p e = ap (λ b. if b then Some p else None) e
    no_start false aligned p e = refl

-- the facts after a store admit the state, which is still at the same slot
pub record IsStored (here : Here) (s : RunState) (g : Facts) (t : RunState) : Type 0 where
  -- the facts after the store hold of the state after it
  pub known : IsKnown here g t
  -- the state after the store is at the same slot
  pub at : t.at ≡ s.at

module _ {here : Here} {f : Facts} {s : RunState} (known : IsKnown here f s) where
  word_of : (w : ℕ) → w < 2 ^ 32 → IsKindOf here (kind.Scalar (full 32)) (Scalar w)
  word_of w h = scalar_of here (full 32) w (record { from = omega arith; to = omega arith }) (omega arith)

  word_agrees : (y : ℕ)
      → y % 4 ≡ 0 → y < 44
      → Gives here (Ok (kind.Scalar (full 32))) (context_load s (pos y) Word false)
  word_agrees y e l =
      let count = known.proper.count in
      let within : y / 4 < length s.words = omega arith in
      let w = get_or s.words (y / 4) 0 in
      let at : word_at s.words (pos y) ≡ Some w =
      cond-true (y % 4 == 0) (slice_get s.words (y / 4)) None (aligned e) ∙ slice_get-get_or s.words (y / 4) 0 within in
      subst (λ o. Gives here (Ok (kind.Scalar (full 32))) (option_map (λ n. Scalar n) o)) (sym at)
      (word_of w (known.proper.words (y / 4) 0 within))
    where
      aligned : y % 4 ≡ 0 → (y % 4 == 0) ≡ true
      aligned e = ap (λ n. n == 0) e

  word_if : (y : ℤ) → is_word y ≡ true → Gives here (Ok (kind.Scalar (full 32))) (context_load s y Word false)
  word_if (pos y) t =
      let h = and_parts (y % 4 == 0) (nat_lt y 44) t in word_agrees y (eqb-true (y % 4) 0 h.0) (ltb-true y 44 h.1)
  word_if (negsuc y) t = absurd (false≢true t)

  context_agrees : (y : ℤ) (size : AccessSize) (signed : Bool)
      → Gives here (context_read y size signed) (context_load s y size signed)
  context_agrees y Word false =
      cond_both (is_word y) (Ok (kind.Scalar (full 32))) (Err ContextAccess)
      (λ r. Gives here r (context_load s y Word false)) (word_if y)
      (λ _. tt)
  context_agrees y size signed = tt

  -- ---- loads

  stack_load_agrees : StackReadAdmits
      → (x : ℤ) (size : AccessSize) (signed : Bool)
      → Gives here (stack_read f x size signed) (stack_load s x size signed)
  stack_load_agrees law x size signed =
      by_law (IsKindOf here) (stack_read f x size signed) (stack_load s x size signed)
      (λ k e. let h = law here.witness f s x size signed k known.proper known.admits e in (
        h.0,
        h.1,
        record {
          is = h.2;
          words =
              ok_is (IsKindAt here.slot) (stack_read f x size signed) k
              (read_words here.slot f x size signed known.words) e;
        },
      ))

  value_load_agrees : ValueLoadAdmits
      → (size : AccessSize) (signed : Bool) (off : ℤ) (p : ValuePointer) (number : ℕ) (x : ℤ) (o : Option MapShape)
      → here.shapes p.map ≡ o → p.lo ≤ℤ x
      → x ≤ℤ p.hi → number < here.witness.objects p.map
      → Gives here
      (and_then_ok (check_in_value p off (bytes_of size) o) (λ _. Ok (loaded size signed)))
      (number_from size signed (object_bytes s p.map number (x +ℤ off) (bytes_of size)))
  value_load_agrees law size signed off p number x None e from to lt = tt
  value_load_agrees law size signed off p number x (Some shape) e from to lt =
      by_law (IsKindOf here) (and_then_ok (check_in_value p off (bytes_of size) (Some shape)) (λ _. Ok (loaded size signed))) _
      (λ k ok. let c = given_ok (check_in_value p off (bytes_of size) (Some shape)) (loaded size signed) k ok in
      let room = room_at p off (bytes_of size) x shape from to c.0 in
      let h =
      law here.witness s p.map number shape (x +ℤ off) size signed known.proper
      (owned (still_of known) p.map number shape e lt) room.low
      room.high in
      (h.0, h.1, subst (λ k. IsKindOf here k h.0) c.1 (record { is = h.2; words = loaded_words here.slot size signed })))

  -- if the facts give a load a kind, the machine loads a value of this kind
  pub load_agrees : Accesses
      → (size : AccessSize) (signed : Bool) (off : ℤ) (k : Kind) (v : Tagged) → IsKindOf here k v
      → Gives here (load_kind here.shapes f size signed off k) (load s size signed v off)
  load_agrees laws size signed off (kind.Stack x) v h =
      subst (λ v. Gives here (load_kind here.shapes f size signed off (kind.Stack x)) (load s size signed v off))
      (sym h.is)
      (stack_load_agrees laws.reads (x +ℤ off) size signed)
  load_agrees laws size signed off kind.Ctx v h =
      subst (λ v. Gives here (context_read off size signed) (load s size signed v off)) (sym h.is)
      (subst (λ y. Gives here (context_read off size signed) (context_load s y size signed))
      (from_zero off) (context_agrees off size signed))
  load_agrees laws size signed off (kind.Value p) v h =
      subst (λ v. Gives here (load_kind here.shapes f size signed off (kind.Value p)) (load s size signed v off))
      (sym h.is.2)
      (value_load_agrees laws.loads size signed off p h.is.0 h.is.1 (here.shapes p.map) refl h.is.3 h.is.4 h.is.5)
  load_agrees laws size signed off k v h = tt

  -- ---- stores

  -- a store to the stack changes neither the slot nor the maps
  abbrev Stays : RunState → Type 0
  Stays t = (t.at ≡ s.at) × HasMaps here.shapes t

  stays : (y : ℤ) (size : AccessSize) (v : Tagged) → SomeIs Stays (stack_store s y size v)
  stays y size v =
      also_stays (access_start y size)
      (λ p. and_then (write_cell (s.cells (p / 8)) (p % 8) size v) (λ c. Some (with_cell s (p / 8) c)))
      (λ p.
      also_stays (write_cell (s.cells (p / 8)) (p % 8) size v) (λ c. Some (with_cell s (p / 8) c))
      (λ c. (refl, known.maps)))
    where
      also_stays : {A : Type 0} (o : Option A) (on : A → Option RunState)
          → ((x : A) → SomeIs Stays (on x)) → SomeIs Stays (and_then o on)
      also_stays None on h = tt
      also_stays (Some x) on h = h x

  stack_store_agrees : StackWriteAdmits
      → (x : ℤ) (size : AccessSize) (k : Kind) (v : Tagged) → IsKindOf here k v
      → Agree (IsStored here s) (stack_write f x size k) (stack_store s x size v)
  stack_store_agrees law x size k v is =
      by_law (IsStored here s) (stack_write f x size k) (stack_store s x size v)
      (λ g e. let h = law here.witness f g s x size k v known.proper known.admits is.is e in
      let kept = subst (SomeIs Stays) h.1 (stays x size v) in (
        h.0,
        h.1,
        record {
          known = record {
            admits = h.2;
            words =
                ok_is (AreWellFormedAt here.slot) (stack_write f x size k) g
                (written_words here.slot f x size k known.words is.words)
                e;
            proper = h.3;
            maps = kept.1;
          };
          at = kept.0;
        },
      ))

  value_store_agrees : ValueStoreAdmits
      → (size : AccessSize) (off : ℤ) (p : ValuePointer) (number : ℕ) (x : ℤ) (n : ℕ) (o : Option MapShape)
      → here.shapes p.map ≡ o → p.lo ≤ℤ x
      → x ≤ℤ p.hi → number < here.witness.objects p.map
      → Agree (IsStored here s)
      (and_then_ok (check_in_value p off (bytes_of size) o) (λ _. Ok f))
      (object_stored s size p.map number (x +ℤ off) (Scalar n))
  value_store_agrees law size off p number x n None e from to lt = tt
  value_store_agrees law size off p number x n (Some shape) e from to lt =
      by_law (IsStored here s) (and_then_ok (check_in_value p off (bytes_of size) (Some shape)) (λ _. Ok f)) _
      (λ g ok. let c = given_ok (check_in_value p off (bytes_of size) (Some shape)) f g ok in
      let room = room_at p off (bytes_of size) x shape from to c.0 in
      let still = still_of known in
      let h =
      law here.witness f here.shapes s p.map number shape (x +ℤ off) size n still
      (owned still p.map number shape e lt) room.low room.high in (
        h.0,
        h.1,
        subst (λ g. IsStored here s g h.0) c.1
            (record {
              known = record { admits = h.2.admits; words = known.words; proper = h.2.proper; maps = h.2.maps };
              at = h.3;
            }),
      ))

  -- a number is stored; other values are rejected
  outside_agrees : ValueStoreAdmits
      → (size : AccessSize) (off : ℤ) (p : ValuePointer) (number : ℕ) (x : ℤ) (l : Kind) (v : Tagged)
      → IsKindOf here l v → IsReadable l
      → p.lo ≤ℤ x → x ≤ℤ p.hi
      → number < here.witness.objects p.map
      → Agree (IsStored here s)
      (and_then_ok (check_in_value p off (bytes_of size) (here.shapes p.map)) (λ _. stored_outside f l))
      (object_stored s size p.map number (x +ℤ off) v)
  outside_agrees law size off p number x kind.Unreadable v is r from to lt = absurd r
  outside_agrees law size off p number x (kind.Scalar range) v is r from to lt =
      by_number here range v
      (λ v.
      Agree (IsStored here s)
      (and_then_ok (check_in_value p off (bytes_of size) (here.shapes p.map)) (λ _. Ok f))
      (object_stored s size p.map number (x +ℤ off) v))
      is.is
      (λ n _. value_store_agrees law size off p number x n (here.shapes p.map) refl from to lt)
  outside_agrees law size off p number x l v is r from to lt = never (check_in_value p off (bytes_of size) (here.shapes p.map))
    where
      never : (a : Result (Unit {0}) Reason)
          → Agree (IsStored here s) (and_then_ok a (λ _. Err PointerStored))
          (object_stored s size p.map number (x +ℤ off) v)
      never (Ok u) = tt
      never (Err e) = tt

  -- if the facts allow a store of a readable value, the machine does it, and the facts after it hold of its state
  pub store_agrees : Accesses
      → (size : AccessSize) (off : ℤ) (k l : Kind) (p v : Tagged) → IsKindOf here k p
      → IsKindOf here l v → IsReadable l
      → Agree (IsStored here s) (store_facts here.shapes f size off k l) (store s size p off v)
  store_agrees laws size off (kind.Stack x) l p v h is r =
      subst (λ p. Agree (IsStored here s) (stack_write f (x +ℤ off) size l) (store s size p off v))
      (sym h.is)
      (stack_store_agrees laws.writes (x +ℤ off) size l v is)
  store_agrees laws size off (kind.Value q) l p v h is r =
      subst (λ p. Agree (IsStored here s) (store_facts here.shapes f size off (kind.Value q) l) (store s size p off v))
      (sym h.is.2)
      (outside_agrees laws.stores size off q h.is.0 h.is.1 l v is r h.is.3 h.is.4 h.is.5)
  store_agrees laws size off k l p v h is r = tt

  -- ---- atomic operations

  -- the operand is a number
  module _ (laws : Accesses) (results : Results) (wide : Bool) (op : Operator) (size : AccessSize)
      (b : Range) (w : Tagged) (given : IsKindOf here (kind.Scalar b) w) where
    abbrev made_from : (Tagged → Option RunState) → Tagged → Option RunState
    made_from put old = and_then (of_numbers wide op old w) put

    -- if a number is loaded, the result is a number, which can be stored
    number_agrees : (a : Range) (old : Tagged) (r : Result Facts Reason) (put : Tagged → Option RunState)
        → IsKindOf here (kind.Scalar a) old
        → ((n : ℕ) → IsKindOf here any_number (Scalar n) → Agree (IsStored here s) r (put (Scalar n)))
        → Agree (IsStored here s) r (made_from put old)
    number_agrees a old r put is stores =
        let made = number_made here results wide op a b old w is given in
        subst (λ o. Agree (IsStored here s) r (and_then o put)) (sym made.1) (stores made.0 made.2)

    stack_changed_agrees : (y : ℤ)
        → Agree (IsStored here s) (stack_changed f y size)
        (if is_multiple y (bytes_of size)
        then and_then (stack_load s y size false) (made_from (stack_store s y size))
        else None)
    stack_changed_agrees y =
        let loads = stack_load_agrees laws.reads y size false in
        cond_both (is_multiple y (bytes_of size))
        (and_then (stack_load s y size false) (made_from (stack_store s y size)))
        None (Agree (IsStored here s) (stack_changed f y size))
        (λ _.
        then_agree (IsKindOf here) (IsStored here s) (stack_read f y size false)
        (stack_load s y size false) _ _ loads by)
        (λ not_multiple.
        none_agrees (IsKindOf here) (IsStored here s) (stack_read f y size false) _
        (subst (Gives here (stack_read f y size false)) (nothing_loaded y not_multiple) loads))
      where
        nothing_loaded : (y : ℤ) → is_multiple y (bytes_of size) ≡ false → stack_load s y size false ≡ None
        nothing_loaded y not_multiple =
            ap (λ o. and_then o (λ p. read_cell (s.cells (p / 8)) (p % 8) size false))
            (unaligned_access y size not_multiple)

        by : (k : Kind) (old : Tagged)
            → IsKindOf here k old
            → Agree (IsStored here s)
            (and_then_ok (number_or PartOfSpill k) (λ _. stack_write f y size any_number))
            (made_from (stack_store s y size) old)
        by (kind.Scalar a) old is =
            number_agrees a old (stack_write f y size any_number) (stack_store s y size) is
            (λ n made. stack_store_agrees laws.writes y size any_number (Scalar n) made)
        by k old is = tt

    value_changed_agrees : (off : ℤ) (p : ValuePointer) (number : ℕ) (x : ℤ) (o : Option MapShape)
        → here.shapes p.map ≡ o → p.lo ≤ℤ x
        → x ≤ℤ p.hi → number < here.witness.objects p.map
        → Agree (IsStored here s) (value_changed f p off size o)
        (if is_multiple (x +ℤ off) (bytes_of size)
        then and_then
        (number_from size false (object_bytes s p.map number (x +ℤ off) (bytes_of size)))
        (made_from (object_stored s size p.map number (x +ℤ off)))
        else None)
    value_changed_agrees off p number x o e from to lt = by (check_in_value p off (bytes_of size) o) refl
      where
        put : Tagged → Option RunState
        put = object_stored s size p.map number (x +ℤ off)

        found : Option Tagged
        found = number_from size false (object_bytes s p.map number (x +ℤ off) (bytes_of size))

        in_room : check_in_value p off (bytes_of size) o ≡ Ok tt
            → (old : Option Tagged) → Agree (IsKindOf here) (Ok (loaded size false)) old
            → Agree (IsStored here s) (Ok f) (and_then old (made_from put))
        in_room r None is = absurd is
        in_room r (Some old) is =
            number_agrees (full (8 * bytes_of size)) old (Ok f) put is
            (λ n _.
            subst (λ q. Agree (IsStored here s) (and_then_ok q (λ _. Ok f)) (put (Scalar n))) r
            (value_store_agrees laws.stores size off p number x n o e from to lt))

        -- a pointer with one known offset is aligned if this offset is
        aligned : is_known_multiple p off size ≡ true → is_multiple (x +ℤ off) (bytes_of size) ≡ true
        aligned h =
            let (one, multiple) = and_parts (int_eq p.lo p.hi) (is_multiple (p.lo +ℤ off) (bytes_of size)) h in
            let ends : p.lo ≡ p.hi = (Decides-int_eq p.lo p.hi).0 one in
            let there : p.lo ≡ x = omega (arith, ints, ends, from, to) in
            subst (λ y. is_multiple (y +ℤ off) (bytes_of size) ≡ true) there multiple

        by : (r : Result (Unit {0}) Reason)
            → check_in_value p off (bytes_of size) o ≡ r
            → Agree (IsStored here s)
            (and_then_ok r (λ _. if is_known_multiple p off size then Ok f else Err UnalignedAtomic))
            (if is_multiple (x +ℤ off) (bytes_of size) then and_then found (made_from put) else None)
        by (Err reason) r = tt
        by (Ok u) r =
            let loads =
            subst (λ q. Gives here (and_then_ok q (λ _. Ok (loaded size false))) found) r
            (value_load_agrees laws.loads size false off p number x o e from to lt) in
            cond_both (is_known_multiple p off size) (Ok f) (Err UnalignedAtomic)
            (λ q.
            Agree (IsStored here s) q
            (if is_multiple (x +ℤ off) (bytes_of size) then and_then found (made_from put) else None))
            (λ h.
            subst (λ b. Agree (IsStored here s) (Ok f) (if b then and_then found (made_from put) else None))
            (sym (aligned h)) (in_room r found loads))
            (λ _. tt)

  -- if the facts allow an atomic operation, the machine does it, and the facts after it hold of its state
  pub changed_agrees : Accesses
      → Results
      → (size : AtomicSize) (op : AtomicOp) (off : ℤ) (k l : Kind) (p v : Tagged)
      → IsKindOf here k p → IsKindOf here l v
      → Agree (IsStored here s) (atomic_facts here.shapes f (access_size size) off k l) (changed s size op p off v)
  changed_agrees laws results size op off (kind.Stack x) (kind.Scalar b) p v h is =
      subst (λ p. Agree (IsStored here s) (stack_changed f (x +ℤ off) (access_size size)) (changed s size op p off v))
      (sym h.is)
      (stack_changed_agrees laws results (is_wide_atomic size) (atomic_operator op) (access_size size) b v is (x +ℤ off))
  changed_agrees laws results size op off (kind.Value q) (kind.Scalar b) p v h is =
      subst (λ p.
      Agree (IsStored here s)
      (value_changed f q off (access_size size) (here.shapes q.map))
      (changed s size op p off v))
      (sym h.is.2)
      (value_changed_agrees laws results (is_wide_atomic size) (atomic_operator op)
      (access_size size) b v is off q h.is.0 h.is.1 (here.shapes q.map)
      refl h.is.3 h.is.4 h.is.5)
  changed_agrees laws results size op off k l p v h is = tt
