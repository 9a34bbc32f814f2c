-- The bits that represent the bytes of an access.
use Rattle.std.proofs.Common.{◌≡◌, ℕ, ◌+◌, ◌-◌, ◌*◌, ◌%◌, ◌^◌, ◌<◌, ◌≤◌, min, max, bit_and, bit_or, sym, ap, ◌∙◌, ◌⊎◌, ⊎_elim, arith}
use Rattle.std.specs.Int.{bit_at}
use Rattle.std.proofs.lemmas.Bool.{cases_lt}
use Rattle.std.proofs.lemmas.Nat.{pow_pos}
use Rattle.std.proofs.lemmas.Nat.Bits.{bit_at_and, bit_at_or, bit_at-lt, bit_at-zero, bit_at_ones, bit_at_ones_above, bit_at_cat_low, bit_at_cat_high}
use Rattle.reg_kinds.specs.Stack.{byte_bits}
use Rattle.reg_kinds.specs.Many.{bits_in}

-- ---- a number that is shifted left by k bits

and_nothing : (n : ℕ) → n ≡ n + 0
and_nothing n = omega arith

bit_of_shifted : (a k i : ℕ) → k ≤ i → bit_at (a * 2 ^ k) i ≡ bit_at a (i - k)
bit_of_shifted a k i h = ap (λ n. bit_at n i) (and_nothing (a * 2 ^ k)) ∙ bit_at_cat_high a k 0 i (pow_pos k) h

bit_below : (a k i : ℕ) → i < k → bit_at (a * 2 ^ k) i ≡ 0
bit_below a k i h = ap (λ n. bit_at n i) (and_nothing (a * 2 ^ k)) ∙ (bit_at_cat_low a k 0 i h ∙ bit_at-zero i)

-- ---- n bits from the a-th on

-- each of the n bits from bit a on is set in a mask of n ones that is shifted by a
pub shifted_bit : (n a i : ℕ) → i < n → bit_at ((2 ^ n - 1) * 2 ^ a) (a + i) ≡ 1
shifted_bit n a i h =
    let above : a ≤ a + i = omega arith in
    let back : a + i - a ≡ i = omega arith in
    bit_of_shifted (2 ^ n - 1) a (a + i) above ∙ (ap (bit_at (2 ^ n - 1)) back ∙ bit_at_ones n i h)

clash : (x : ℕ) → x ≡ 0 → x ≡ 1 → ⊥
clash x e f = omega arith

-- a bit that is set in a mask of n ones that is shifted by a is one of the n bits from bit a on
pub only_shifted : (n a i : ℕ) → bit_at ((2 ^ n - 1) * 2 ^ a) i ≡ 1 → (a ≤ i) × (i < a + n)
only_shifted n a i one =
    ⊎_elim
    (λ below. absurd (clash (bit_at ((2 ^ n - 1) * 2 ^ a) i) (bit_below (2 ^ n - 1) a i below) one))
    (λ from. (from, within from))
    (cases_lt i a)
  where
    within : a ≤ i → i < a + n
    within from =
        ⊎_elim
        (λ lt. omega arith)
        (λ le.
        absurd (clash (bit_at ((2 ^ n - 1) * 2 ^ a) i)
        (bit_of_shifted (2 ^ n - 1) a i from ∙ bit_at_ones_above n (i - a) le)
        one))
        (cases_lt (i - a) n)

-- ---- the bits of n bytes of a slot

touched_bit : (p n i : ℕ) → i < n → bit_at (byte_bits p n) (p % 8 + i) ≡ 1
touched_bit p n i h = shifted_bit n (p % 8) i h

-- a bit that is set in the mask of an access is that of one of its n bytes, counted within their slot
pub only_touched : (p n i : ℕ) → bit_at (byte_bits p n) i ≡ 1 → (p % 8 ≤ i) × (i < p % 8 + n)
only_touched p n i one = only_shifted n (p % 8) i one

-- ---- the bits of n bytes that lie in slot i

-- in the mask of the bytes of an access that lie in slot i, the bit of each such byte is set
pub bit_in : (p n i j : ℕ) → j < 8 → p ≤ 8 * i + j → 8 * i + j < p + n → bit_at (bits_in p n i) j ≡ 1
bit_in p n i j few from to =
    let a = p - 8 * i in
    let at : a + (j - a) ≡ j = omega arith in
    let within : j - a < min 8 (p + n - 8 * i) - a = omega arith in
    ap (bit_at (bits_in p n i)) (sym at) ∙ shifted_bit (min 8 (p + n - 8 * i) - a) a (j - a) within

-- a bit that is set in the mask of an access for slot i is that of a byte of the access
pub only_in : (p n i j : ℕ) → bit_at (bits_in p n i) j ≡ 1 → (p ≤ 8 * i + j) × (8 * i + j < p + n)
only_in p n i j one =
    let h = only_shifted (min 8 (p + n - 8 * i) - (p - 8 * i)) (p - 8 * i) j one in
    let from = h.0 in let to = h.1 in
    (omega arith, omega arith)

-- ---- masks

both_set : (x y z : ℕ) → z ≡ min x y → z ≡ y → y ≡ 1 → x < 2 → x ≡ 1
both_set x y z e f g h = omega arith

-- if all bits of an access are in a mask, each is
pub in_mask : (mask p n i : ℕ) → i < n → bit_and mask (byte_bits p n) ≡ byte_bits p n → bit_at mask (p % 8 + i) ≡ 1
in_mask mask p n i h e =
    let bits = byte_bits p n in let j = p % 8 + i in
    both_set (bit_at mask j) (bit_at bits j) (bit_at (bit_and mask bits) j) (bit_at_and mask bits j)
    (ap (λ m. bit_at m j) e) (touched_bit p n i h) (bit_at-lt mask j)

one_set : (x y z : ℕ) → z ≡ max x y → z ≡ 1 → x < 2 → y < 2 → (x ≡ 1) ⊎ (y ≡ 1)
one_set x y z e f g h = grind arith

-- a bit that is set in the union of two masks is set in one of them
pub of_either : (x y i : ℕ) → bit_at (bit_or x y) i ≡ 1 → (bit_at x i ≡ 1) ⊎ (bit_at y i ≡ 1)
of_either x y i e =
    one_set (bit_at x i) (bit_at y i) (bit_at (bit_or x y) i) (bit_at_or x y i) e (bit_at-lt x i) (bit_at-lt y i)

-- if all of these bits are in a mask, each of them is
pub each_in_mask : (mask bits j : ℕ) → bit_and mask bits ≡ bits → bit_at bits j ≡ 1 → bit_at mask j ≡ 1
each_in_mask mask bits j e one =
    both_set (bit_at mask j) (bit_at bits j) (bit_at (bit_and mask bits) j) (bit_at_and mask bits j)
    (ap (λ m. bit_at m j) e) one (bit_at-lt mask j)
