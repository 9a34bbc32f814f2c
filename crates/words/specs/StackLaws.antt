-- Laws of slots and byte indices of the stack, of the definitions of `Stack`, proved here for the
-- proofs of the crates above. This project's own. No contract cites them, so they are not part of
-- what has to be trusted.
use Rattle.std.proofs.Common.{◌≡◌, ℕ, ◌+◌, ◌-◌, ◌%◌, ◌<◌, ◌≤◌, int_le, ℤ, pos, negsuc, ◌+ℤ◌, ◌≤ℤ◌, unsigned_abs}
use Rattle.std.proofs.Common.{Bool, true, false, get_or, refl, sym, subst, ap, ◌∙◌, arith}
use Rattle.std.specs.List.{range_with_len}
use Rattle.std.proofs.lemmas.Bool.{and_parts, false≢true}
use Rattle.std.proofs.lemmas.List.Elements.{All-from_get_or}
use Rattle.std.proofs.lemmas.List.Folds.{list_any_at, list_any_none}
use Rattle.std.proofs.lemmas.List.FromFn.{length-range_with_len, get_or-range_with_len}
use Rattle.std.proofs.lemmas.Int.{ints}
use Rattle.words.specs.declared.stack.AccessSize.{AccessSize}
use Rattle.words.specs.declared.stack.AccessSize.TheVariants.{Byte, Half, Word, Double}
use Rattle.words.specs.Stack.{stack_slots, any_slot, bytes_of, is_in_stack, byte_index}

-- in the list of the numbers of the stack's 64 slots, 0 to 63 (`range_with_len 0 64`), the item at
-- index i is i. The last argument of `get_or` would be the result past the end of the list.
-- `any_slot` tests the items of this list, so `slot_passes` and `no_slot_passes` need this
number_at : (i : ℕ) → i < stack_slots → get_or (range_with_len 0 64) i 0 ≡ i
number_at i lt = let same : 0 + i ≡ i = omega arith in get_or-range_with_len 0 64 i 0 lt ∙ same

-- if a test holds of the number of a slot, it holds of at least one
pub slot_passes : (test : ℕ → Bool) (i : ℕ) → i < stack_slots → test i ≡ true → any_slot test ≡ true
unfolding any_slot
slot_passes test i lt e =
    list_any_at test (range_with_len 0 64) i 0
    (subst (λ n. i < n) (sym (length-range_with_len 0 64)) lt)
    (ap test (number_at i lt) ∙ e)

-- if a test holds of no number of a slot, it holds of none of them
pub no_slot_passes : (test : ℕ → Bool)
    → ((i : ℕ) → i < stack_slots → test i ≡ false)
    → any_slot test ≡ false
unfolding any_slot
no_slot_passes test none =
    list_any_none test (range_with_len 0 64)
    (All-from_get_or (λ k. test k ≡ false) (range_with_len 0 64) 0
    (λ i lt.
    let within : i < stack_slots = subst (λ n. i < n) (length-range_with_len 0 64) lt in
    ap test (number_at i within) ∙ none i within))

-- if a test holds of none of the numbers of slots, it fails for each
pub each_slot_fails : (test : ℕ → Bool)
    → any_slot test ≡ false
    → (i : ℕ)
    → i < stack_slots
    → test i ≡ false
each_slot_fails test none i lt = by_test (test i) refl
  where
    by_test : (b : Bool) → test i ≡ b → test i ≡ false
    by_test false e = e
    by_test true e = absurd (false≢true (sym none ∙ slot_passes test i lt e))

-- if n bytes at an offset lie in the stack, the byte index of this offset is the offset plus 512,
-- and the n bytes end at byte index 512 or below
pub in_stack : (n : ℕ) (y : ℤ)
    → is_in_stack y n ≡ true
    → (pos (byte_index y) ≡ pos 512 +ℤ y) × (byte_index y + n ≤ 512)
in_stack n (pos y) h =
    let a = and_parts (int_le (negsuc 511) (pos y)) (int_le (pos y +ℤ pos n) (pos 0)) h in
    let p = a.1 in
    let high : (pos y +ℤ pos n) ≤ℤ pos 0 = grind (arith, ints) in
    (omega (arith, ints), omega (arith, ints))
in_stack n (negsuc y) h =
    let a = and_parts (int_le (negsuc 511) (negsuc y)) (int_le (negsuc y +ℤ pos n) (pos 0)) h in
    let p = a.0 in
    let r = a.1 in
    let low : negsuc 511 ≤ℤ negsuc y = grind (arith, ints) in
    let high : (negsuc y +ℤ pos n) ≤ℤ pos 0 = grind (arith, ints) in
    let above : negsuc y +ℤ pos 512 ≡ pos (511 - y) = omega (arith, ints) in
    let same : byte_index (negsuc y) ≡ 511 - y = ap unsigned_abs above in
    (omega (arith, ints), omega (arith, ints))

-- an access at a byte index p that is a multiple of its size ends in the stack slot in which it
-- begins
pub in_one_slot : (size : AccessSize) (p : ℕ) → p % bytes_of size ≡ 0 → p % 8 + bytes_of size ≤ 8
in_one_slot Byte p h = omega arith
in_one_slot Half p h = omega arith
in_one_slot Word p h = omega arith
in_one_slot Double p h = omega arith
