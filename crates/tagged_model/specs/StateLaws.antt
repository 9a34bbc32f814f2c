-- Laws of the definitions of `Values`, `StateInvariant` and `Table`: of near offsets, of the
-- objects of a map's keys, and of the value that is loaded directly. Proved here for the proofs of
-- the crates above. This project's own. No contract cites them, so they are not part of what has to
-- be trusted.
use Rattle.std.proofs.Common.{◌≡◌, ℕ, ◌<◌, ◌≤◌, ◌==◌, ◌&&◌, nat_lt, ℤ, pos, neg_ℤ, ◌≤ℤ◌, int_le}
use Rattle.std.proofs.Common.{Bool, true, false, cond, List, [], ◌∷◌, Some, None, refl, arith}
use Rattle.std.specs.Prelude.{nat_le}
use Rattle.std.proofs.lemmas.Bool.{and_parts, eqb-true, ltb-true, leb-true, le-leb}
use Rattle.std.proofs.lemmas.Int.{ints}
use Rattle.std.proofs.lemmas.Option.{none-some, same_Some}
use Rattle.tagged_model.specs.Values.{farthest_offset, is_near}
use Rattle.tagged_model.specs.declared.shape.MapShape.{MapShape}
use Rattle.tagged_model.specs.Shape.{has_key, is_from_to, is_valid, fits, longest_value, most_entries}
use Rattle.tagged_model.specs.Table.{Table, is_key, found, without, with_key, index_key, is_array, has_direct_value, direct_object}
use Rattle.tagged_model.specs.StateInvariant.{KeysHaveObjects}

-- ---- offsets

-- an offset that `is_near` accepts is from minus the farthest offset to the farthest offset
pub near_parts : (x : ℤ)
    → is_near x ≡ true
    → (neg_ℤ (pos farthest_offset) ≤ℤ x) × (x ≤ℤ pos farthest_offset)
near_parts x e =
    let h = and_parts (int_le (neg_ℤ (pos farthest_offset)) x) (int_le x (pos farthest_offset)) e in
    let p = h.0 in let q = h.1 in (grind (arith, ints), grind (arith, ints))

-- an offset in a value, which has at most `longest_value` bytes, is near (`is_near`)
pub near_from : (offset : ℕ) → offset < 4096 → is_near (pos offset) ≡ true
near_from offset lt = le-leb offset farthest_offset (omega arith)

-- ---- keys with objects numbered below a count

-- the object of a key that is found is numbered below the count
pub found_owned : (count : ℕ) (key : List ℕ) (es : List (List ℕ × ℕ)) (number : ℕ)
    → KeysHaveObjects count es
    → found key es ≡ Some number
    → number < count
found_owned count key [] number owns e = absurd (none-some number e)
found_owned count key (x ∷ es) number owns e =
    by (λ f. found_owned count key es number owns.1 f) (is_key key x.0) e
  where
    by : (found key es ≡ Some number → number < count)
        → (b : Bool)
        → cond b (Some x.1) (found key es) ≡ Some number
        → number < count
    by rest true e =
        let same : x.1 ≡ number = same_Some x.1 number e in let lt = owns.0 in omega arith
    by rest false e = rest e

-- if the objects of all keys are numbered below n, and m is n or more, they are numbered below m
pub owns_more : (n m : ℕ) (es : List (List ℕ × ℕ))
    → n ≤ m
    → KeysHaveObjects n es
    → KeysHaveObjects m es
owns_more n m [] le h = tt
owns_more n m (e ∷ es) le h = let lt = h.0 in (omega arith, owns_more n m es le h.1)

-- if the objects of all keys are numbered below n, they still are when a key is added whose object
-- is numbered below n
pub owns_with : (n : ℕ) (key : List ℕ) (number : ℕ) (es : List (List ℕ × ℕ))
    → number < n
    → KeysHaveObjects n es
    → KeysHaveObjects n (with_key key number es)
owns_with n key number [] lt h = (lt, tt)
owns_with n key number (e ∷ es) lt h = (h.0, owns_with n key number es lt h.1)

-- if the objects of all keys are numbered below n, they still are when a key is removed
pub owns_without : (n : ℕ) (key : List ℕ) (es : List (List ℕ × ℕ))
    → KeysHaveObjects n es
    → KeysHaveObjects n (without key es)
owns_without n key [] h = tt
owns_without n key (e ∷ es) h = by (is_key key e.0) (owns_without n key es h.1)
  where
    by : (b : Bool)
        → KeysHaveObjects n (without key es)
        → KeysHaveObjects n (cond b es (e ∷ without key es))
    by true g = h.1
    by false g = (h.0, g)

-- ---- the direct value

-- a value of a map has at most as many bytes as `longest_value` says
pub value_short : (shape : MapShape) → shape.value_size ≤ 4096
value_short shape =
    let valid =
    (and_parts (is_valid shape.kind shape.key_size shape.value_size shape.max_entries 0)
    (fits shape.value_size shape.max_entries) shape.listed).0 in
    let sizes =
    and_parts
    (has_key shape.kind shape.key_size && is_from_to 1 longest_value shape.value_size
    && is_from_to 1 most_entries shape.max_entries)
    (0 == 0) valid in
    let sized =
    and_parts (has_key shape.kind shape.key_size && is_from_to 1 longest_value shape.value_size)
    (is_from_to 1 most_entries shape.max_entries) sizes.0 in
    let value =
    and_parts (has_key shape.kind shape.key_size)
    (is_from_to 1 longest_value shape.value_size) sized.0 in
    leb-true shape.value_size longest_value
    (and_parts (nat_le 1 shape.value_size) (nat_le shape.value_size longest_value) value.1).1

-- what is used of a shape whose value can be loaded directly at an offset: its maps have one entry,
-- and the offset is below `longest_value`
pub record IsDirect (shape : MapShape) (offset : ℕ) : Type 0 where
  pub one : shape.max_entries ≡ 1
  pub near : offset < 4096

-- if the value of a map of this shape can be loaded directly at an offset, the map has one entry,
-- and the offset is below `longest_value`
pub is_direct : (shape : MapShape) (offset : ℕ)
    → has_direct_value shape offset ≡ true
    → IsDirect shape offset
is_direct shape offset e =
    let parts =
    and_parts (is_array shape.kind && (shape.max_entries == 1))
    (nat_lt offset shape.value_size) e in
    let front = and_parts (is_array shape.kind) (shape.max_entries == 1) parts.0 in
    let inside = ltb-true offset shape.value_size parts.1 in
    let short = value_short shape in
    record { one = eqb-true shape.max_entries 1 front.1; near = omega arith }

-- if the value of map t can be loaded directly at an offset, its object is that of index 0, the map
-- may have one entry, and the offset is below `longest_value` (`IsDirect`)
pub direct_is : (t : Table ℕ) (offset number : ℕ)
    → direct_object t offset ≡ Some number
    → IsDirect t.shape offset × (found (index_key 0) t.entries ≡ Some number)
direct_is t offset number e = by (has_direct_value t.shape offset) refl e
  where
    by : (b : Bool)
        → has_direct_value t.shape offset ≡ b
        → cond b (found (index_key 0) t.entries) None ≡ Some number
        → IsDirect t.shape offset × (found (index_key 0) t.entries ≡ Some number)
    by true g h = (is_direct t.shape offset g, h)
    by false g h = absurd (none-some number h)
