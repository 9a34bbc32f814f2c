-- Laws of the definitions of `Helpers`: of a helper's number, and of the context words and the maps
-- after a call of any helper. Proved here for the proofs of the crates above. This project's own.
-- No contract cites them, so they are not part of what has to be trusted.
use Rattle.std.proofs.Common.{◌≡◌, ℕ, zero, suc, ◌+◌, ◌==◌, ℤ, pos, negsuc, nat_le, Bool, true, false}
use Rattle.std.proofs.Common.{cond, List, [], ◌∷◌, length, Option, Some, None, refl, sym, ap, subst, ◌∙◌}
use Rattle.std.specs.Prelude.{find}
use Rattle.std.specs.Ordering.{int_eq}
use Rattle.std.specs.Cmp.{signed_Decides}
use Rattle.std.proofs.lemmas.Bool.{cond_both, eqb-true, leb-true}
use Rattle.std.proofs.lemmas.Option.{none-some, same_Some}
use Rattle.words.specs.Bytes.{bytes_at}
use Rattle.words.specs.ByteLaws.{length-bytes_at}
use Rattle.words.specs.Stack.{is_in_stack, byte_index}
use Rattle.tagged_model.specs.declared.helper.Helper.{Helper}
use Rattle.tagged_model.specs.declared.helper.Helper.TheVariants.{LookUp, Update, Delete, LoadBytes}
use Rattle.tagged_model.specs.declared.value.Object.TheVariants as object
use Rattle.tagged_model.specs.declared.value.Tagged.{Tagged}
use Rattle.tagged_model.specs.declared.value.Tagged.TheVariants.{Scalar, Pointer}
use Rattle.tagged_model.specs.Table.{look_up}
use Rattle.tagged_model.specs.Cells.{and_then, gathered, cell_over}
use Rattle.tagged_model.specs.State.{RunState, RunMap, set_at, stack_byte, value_bytes, value_written, with_cells, with_value, with_map, input, output}
use Rattle.tagged_model.specs.Helpers.{id_of, known_helpers, helper_of, MapReply, updated, removed, looked_up, packet_bytes, packet_result}
use Rattle.tagged_model.specs.Helpers.{number_given, length_given, map_given, context_given, argument, GivenMap, map_argument, returns, replies, called}

-- ---- the number

-- `find` returns the first element of xs that passes the test; so if it returns x, x passes it. In
-- `number_of_found`, xs are the known helpers, and the test is whether a helper's number is `id`;
-- so the helper that is found has the number `id`
found_passes : {A : Type 0} (test : A → Bool) (xs : List A) (x : A)
    → find test xs ≡ Some x
    → test x ≡ true
found_passes test [] x e = absurd (none-some x e)
found_passes test (y ∷ ys) x e = by (found_passes test ys x) (test y) refl e
  where
    by : (find test ys ≡ Some x → test x ≡ true)
        → (b : Bool)
        → test y ≡ b
        → cond b (Some y) (find test ys) ≡ Some x
        → test x ≡ true
    by rest true is e = ap test (sym (same_Some y x e)) ∙ is
    by rest false is e = rest e

-- a helper is found only by its own number
pub number_of_found : (id : ℤ) (helper : Helper)
    → helper_of id ≡ Some helper
    → id ≡ pos (id_of helper)
number_of_found id helper e =
    (signed_Decides id (pos (id_of helper))).0
    (found_passes (λ h. int_eq id (pos (id_of h))) known_helpers helper e)

-- ---- what a call leaves

-- a map that a call may leave of map t: t unchanged, t with bytes written into one value, or t
-- after an update or a delete, whether it succeeds or fails
pub data MapAfterCall (t : RunMap) : RunMap → Type 0 where
  unchanged : MapAfterCall t t
  written : (number : ℕ) (offset : ℤ) (bs value : List ℕ)
      → value_written (t.values number) offset bs ≡ Some value
      → MapAfterCall t (with_value t number value)
  after_update : (key value : List ℕ) (flags : ℕ)
      → length key ≡ t.table.shape.key_size
      → length value ≡ t.table.shape.value_size
      → MapAfterCall t (updated t key value flags).map
  after_delete : (key : List ℕ) → MapAfterCall t (removed t key).map

-- what a descriptor names before a call of a helper, and what it names after the call: no map both
-- times (None), or a map t and then u, which is t as a call may leave it (`MapAfterCall`:
-- unchanged, with bytes written into one value, or after an update or a delete). False if only one
-- of them is a map, since a call neither adds nor removes a map
abbrev pub NamedMapAfterCall : Option RunMap → Option RunMap → Type 0
NamedMapAfterCall None None = Unit {0}
NamedMapAfterCall (Some t) (Some u) = MapAfterCall t u
NamedMapAfterCall _ _ = ⊥

-- t can be the state after a call that begins in state s: it has the context words of s, and for
-- each descriptor with a map in s a map that a call may make of that one, for each other descriptor
-- no map (`NamedMapAfterCall`). Registers, stack and packet may be any
pub record IsAfterCall (s t : RunState) : Type 0 where
  pub words : t.words ≡ s.words
  pub maps : (m : ℕ) → NamedMapAfterCall (s.maps m) (t.maps m)

-- the result of a computation in a call that begins in state s: a state that can be the one after
-- the call (`IsAfterCall`), or None, a fault, of which nothing is required
abbrev pub PermitsAfterCall : RunState → Option RunState → Type 0
PermitsAfterCall s None = Unit {0}
PermitsAfterCall s (Some t) = IsAfterCall s t

-- ---- a state and its maps

-- o is what a descriptor names: a map, or None if it names no map. If it names o before a helper's
-- call, it may name o after the call too, which is `NamedMapAfterCall o o`. For None this holds by
-- definition; for a map t, a call may leave t as it was (`unchanged` of `MapAfterCall`)
unchanged_named_map : (o : Option RunMap) → NamedMapAfterCall o o
unchanged_named_map None = tt
unchanged_named_map (Some t) = unchanged

-- s itself can be the state after a call that begins in s (`IsAfterCall`): it has the context words
-- of s, and a call may leave each map unchanged, as a look-up does
state_same : (s : RunState) → IsAfterCall s s
state_same s = record { words = refl; maps = λ m. unchanged_named_map (s.maps m) }

-- if state s has the map t at descriptor m, and a helper's call may leave t as u (`MapAfterCall`),
-- the call may leave the maps of s with u at m (`set_at`). That means: for each descriptor k,
-- `NamedMapAfterCall` holds of what k names in s, before the call, and of what k names after it.
-- These are t and u if k is m. For any other k they are equal: a map of s, or None, no map.
-- `map_changed` and `replied` use this for the state after a call
changed_at : (s : RunState) (m : ℕ) (t u : RunMap)
    → s.maps m ≡ Some t
    → MapAfterCall t u
    → (k : ℕ)
    → NamedMapAfterCall (s.maps k) (set_at s.maps m (Some u) k)
changed_at s m t u there change k =
    cond_both (k == m) (Some u) (s.maps k) (NamedMapAfterCall (s.maps k))
    (λ b.
    subst (λ (o : Option RunMap). NamedMapAfterCall o (Some u))
    (sym (ap s.maps (eqb-true k m b) ∙ there)) change)
    (λ _. unchanged_named_map (s.maps k))

-- let state s have the map t at descriptor m, and let u be a map that a call may make of t
-- (`MapAfterCall`). Then `with_map s m u`, which is s with u at m instead of t, can be the state
-- after a call that begins in s (`IsAfterCall`): its context words and its other maps are those of
-- s. `output_leaves` needs this for a helper that writes into a value
map_changed : (s : RunState) (m : ℕ) (t u : RunMap)
    → s.maps m ≡ Some t
    → MapAfterCall t u
    → IsAfterCall s (with_map s m u)
map_changed s m t u there change = record { words = refl; maps = changed_at s m t u there change }

-- if t can be the state after a call that begins in s, so can `returns t v`: t with the call's
-- result v in register 0, and registers 1 to 5 empty. For `IsAfterCall` requires something only of
-- context words and maps, which the last step of a call, the return of a result, does not change
returned : (s t : RunState) (v : Tagged) → IsAfterCall s t → IsAfterCall s (returns t v)
returned s t v h = record { words = h.words; maps = h.maps }

-- `replies s m reply` is the state to which an update or a delete leads from s: s with the reply's
-- map at descriptor m, the reply's result in register 0, and registers 1 to 5 empty. This can be
-- the state after a call that begins in s (`IsAfterCall`) if s has a map t at m, and the reply's
-- map is one that a call may leave of t (`MapAfterCall`)
replied : (s : RunState) (m : ℕ) (t : RunMap) (reply : MapReply)
    → s.maps m ≡ Some t
    → MapAfterCall t reply.map
    → IsAfterCall s (replies s m reply)
replied s m t reply there change = record {
  words = refl;
  maps = changed_at s m t reply.map there change;
}

-- a computation, in a helper's call that begins in state s, takes the value x of the option o and
-- continues with f. If f x is a result that `PermitsAfterCall` permits, which is a fault (None) or
-- a state to which the call may lead, so is the result of the computation. If o is None, this
-- result is a fault. The proof that each helper's call has such a result (`call_leaves`) uses this
-- for steps that read a register
then_leaves : {A : Type 0} (s : RunState) (o : Option A) (f : A → Option RunState)
    → ((x : A) → o ≡ Some x → PermitsAfterCall s (f x))
    → PermitsAfterCall s (and_then o f)
then_leaves s None f h = tt
then_leaves s (Some x) f h = h x refl

-- a call that begins in state s ends with `returns`, which writes the call's result v to register 0
-- and empties registers 1 to 5; o is the result of the steps before. If `PermitsAfterCall` permits
-- o, it permits the result of the call. It permits a fault (None), and each state that has the
-- context words of s and the maps of s, each as a call may leave it; `returns` changes neither. If
-- o is a fault, so is the call. `call_leaves`, the law of each helper's call, needs this for the
-- helper `LoadBytes`, which writes bytes of the packet, or zeros, at a pointer: o is the result of
-- this write
return_leaves : (s : RunState) (o : Option RunState) (v : Tagged)
    → PermitsAfterCall s o
    → PermitsAfterCall s (and_then o (λ t. Some (returns t v)))
return_leaves s None v h = tt
return_leaves s (Some t) v h = returned s t v h

-- ---- arguments

-- a look-up, an update or a delete that is called in state s first reads the map in register r; f,
-- the rest of the call, gets this map and its descriptor. If the result of f is permitted for each
-- map t of s and its descriptor m, so is the result of the call. `PermitsAfterCall` permits a fault
-- (None), and each state that has the context words of s and the maps of s, each as a call may
-- leave it. If the value of register r is no map, or s has no map at its descriptor, the result is
-- a fault
map_argument_permits : (s : RunState) (r : ℕ) (f : GivenMap → Option RunState)
    → ((m : ℕ) (t : RunMap)
    → s.maps m ≡ Some t
    → PermitsAfterCall s (f (record { descriptor = m; map = t })))
    → PermitsAfterCall s (and_then (map_argument s r) f)
map_argument_permits s r f h = by (argument s r map_given)
  where
    at : (m : ℕ) (o : Option RunMap)
        → s.maps m ≡ o
        → PermitsAfterCall s
        (and_then (and_then o (λ t. Some (record { descriptor = m; map = t }))) f)
    at m None e = tt
    at m (Some t) e = h m t e

    by : (o : Option ℕ)
        → PermitsAfterCall s
        (and_then
        (and_then o
        (λ m. and_then (s.maps m) (λ t. Some (record { descriptor = m; map = t })))) f)
    by None = tt
    by (Some m) = at m (s.maps m) refl

-- a read of n bytes that is no fault gives n bytes: the list in `Some` has length n. Nothing is
-- required of None, a fault. So the key and the value that an update reads have the map's sizes
abbrev HasLength : ℕ → Option (List ℕ) → Type 0
HasLength n None = Unit {0}
HasLength n (Some bs) = length bs ≡ n

-- `gathered byte p n` reads n bytes, those that `byte` gives for the indices from p on. It is a
-- list of n bytes, or None if `byte` gives None for one of them; `HasLength` requires nothing of
-- None. `input_long` uses this law for a helper's read of the stack
gathered_long : (byte : ℕ → Option ℕ) (p n : ℕ) → HasLength n (gathered byte p n)
unfolding gathered
gathered_long byte p zero = refl
gathered_long byte p (suc n) = by (byte p) (gathered byte (suc p) n) (gathered_long byte (suc p) n)
  where
    by : (o : Option ℕ) (rest : Option (List ℕ))
        → HasLength n rest
        → HasLength (suc n) (and_then o (λ b. and_then rest (λ bs. Some (b ∷ bs))))
    by None rest h = tt
    by (Some b) None h = tt
    by (Some b) (Some bs) h = ap suc h

-- a read of n bytes at offset y of a map's value, whose bytes are `value`, gives n bytes, or it is
-- a fault (None): y is negative, or the n bytes do not all lie in the value
value_bytes_length : (value : List ℕ) (y : ℤ) (n : ℕ) → HasLength n (value_bytes value y n)
value_bytes_length value (pos y) n =
    cond_both (nat_le (y + n) (length value)) (Some (bytes_at value y n)) None (HasLength n)
    (λ fits. length-bytes_at value y n (leb-true (y + n) (length value) fits)) (λ _. tt)
value_bytes_length value (negsuc y) n = tt

-- a read of n bytes at offset y of one value of a map gives n bytes, or it is a fault (None). o is
-- the map, and `number` is the number that the value has in this run. If o is None, there is no
-- map, and the read is a fault. `input_long` uses this law for a helper's read at a pointer into a
-- value, with the map, if any, that the state has for the pointer's descriptor
object_read_has_length : (o : Option RunMap) (number : ℕ) (y : ℤ) (n : ℕ)
    → HasLength n (and_then o (λ t. value_bytes (t.values number) y n))
object_read_has_length None number y n = tt
object_read_has_length (Some t) number y n = value_bytes_length (t.values number) y n

-- a law: what a helper reads in state s as n bytes at p (`input`) has n bytes, or the read is a
-- fault (None). So a key or a value that a helper reads has the size that the map gives it. p may
-- point into the stack, or into the value of a map: m is the map's descriptor, and `number` the
-- value's number in the run. x is the pointer's offset. At any other p the read is a fault
input_long : (s : RunState) (p : Tagged) (n : ℕ) → HasLength n (input s p n)
input_long s (Pointer object.Stack x) n =
    cond_both (is_in_stack x n) (gathered (stack_byte s) (byte_index x) n) None (HasLength n)
    (λ _. gathered_long (stack_byte s) (byte_index x) n) (λ _. tt)
input_long s (Pointer (object.Value m number) x) n = object_read_has_length (s.maps m) number x n
input_long s p n = tt

-- a look-up, an update or a delete reads n bytes, a key or a value, at the pointer in register r of
-- s; f, which gets these bytes, is the rest of the call. If what f returns for any n bytes is
-- permitted (h), so is the result of the read followed by f. A result is permitted
-- (`PermitsAfterCall`) if it is a fault (None), or a state that can be the one after a call that
-- begins in s: with the context words of s, and with its maps as a call may change them. If
-- register r has no pointer to n bytes that can be read (`input`), the result is a fault
bytes_permit : (s : RunState) (r n : ℕ) (f : List ℕ → Option RunState)
    → ((bs : List ℕ) → length bs ≡ n → PermitsAfterCall s (f bs))
    → PermitsAfterCall s (and_then (argument s r (λ p. input s p n)) f)
bytes_permit s r n f h = by (s.registers r)
  where
    read : (o : Option (List ℕ)) → HasLength n o → PermitsAfterCall s (and_then o f)
    read None long = tt
    read (Some bs) long = h bs long

    by : (o : Option Tagged) → PermitsAfterCall s (and_then (and_then o (λ p. input s p n)) f)
    by None = tt
    by (Some p) = read (input s p n) (input_long s p n)

-- a helper's write of the bytes bs at p in state s (`output`) is a fault (None), or leads to a
-- state that can be the one after a call that begins in s (`PermitsAfterCall`). A write into the
-- stack changes no map, and a write into a value changes only this value (`written` of
-- `MapAfterCall`); both keep the context words. The write is a fault if p is no pointer into the
-- stack or a value, or the bytes do not all lie in it. `call_leaves` uses this for the write of
-- `LoadBytes`
output_leaves : (s : RunState) (p : Tagged) (bs : List ℕ) → PermitsAfterCall s (output s p bs)
output_leaves s (Pointer object.Stack x) bs =
    cond_both (is_in_stack x (length bs))
    (Some (with_cells s (λ i. cell_over i (s.cells i) (byte_index x) bs))) None
    (PermitsAfterCall s)
    (λ _. record { words = refl; maps = λ m. unchanged_named_map (s.maps m) })
    (λ _. tt)
output_leaves s (Pointer (object.Value m number) x) bs =
    then_leaves s (s.maps m) _
    (λ t there.
    then_leaves s (value_written (t.values number) x bs) _
    (λ value is.
    map_changed s m t (with_value t number value) there (written number x bs value is)))
output_leaves s p bs = tt

-- ---- the calls

-- a call of any helper in state s faults, or leads to a state that has the context words of s, and
-- the maps of s as a call may change them (`IsAfterCall`)
pub call_leaves : (helper : Helper) (s : RunState) → PermitsAfterCall s (called helper s)
call_leaves LookUp s =
    map_argument_permits s 1 _
    (λ m t _.
    bytes_permit s 2 t.table.shape.key_size _
    (λ key _. returned s s (looked_up m (look_up t.table key)) (state_same s)))
call_leaves Update s =
    map_argument_permits s 1 _ (λ m t there.
    bytes_permit s 2 t.table.shape.key_size _ (λ key key_size.
    bytes_permit s 3 t.table.shape.value_size _ (λ value value_size.
    then_leaves s (argument s 4 number_given) _
    (λ flags _.
    replied s m t (updated t key value flags) there
    (after_update key value flags key_size value_size)))))
call_leaves Delete s =
    map_argument_permits s 1 _
    (λ m t there.
    bytes_permit s 2 t.table.shape.key_size _
    (λ key _. replied s m t (removed t key) there (after_delete key)))
call_leaves LoadBytes s =
    then_leaves s (argument s 1 context_given) _ (λ _ _.
    then_leaves s (argument s 2 number_given) _ (λ offset _.
    then_leaves s (argument s 4 length_given) _ (λ n _.
    let bs = packet_bytes s.packet offset n in
    return_leaves s (argument s 3 (λ p. output s p bs)) (Scalar (packet_result s.packet offset n))
    (then_leaves s (s.registers 3) _ (λ p _. output_leaves s p bs)))))
