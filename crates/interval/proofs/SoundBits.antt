-- The ranges of the bitwise operators, of shifts and of sign extensions include each result.
use Rattle.std.proofs.Common.{◌≡◌, ℕ, ◌-◌, ◌*◌, ◌%◌, ◌^◌, ◌<◌, ◌≤◌, max, bit_and, bit_or, bit_xor, nat_lt, ℤ, pos, negsuc, subst, ap, sym, ◌∙◌, arith}
use Rattle.std.proofs.Math.Nat.{mod-eq_of_lt, mul-le-mul_right, pow-le-pow_right}
use Rattle.std.proofs.Math.Pow.{shr_mono}
use Rattle.std.proofs.lemmas.Bool.{lt-ltb, cond-true}
use Rattle.std.proofs.lemmas.Nat.{and_le_l, and_le_r, or_lt, xor_lt, le_or_l, le_or_r, shr_le, pow_pos}
use Rattle.std.specs.Int.{int_shr}
use Rattle.interval.specs.declared.range.Range.{Range}
use Rattle.words.specs.Words.{signed, unsigned, shift_left, shift_right, signed_shift_right, sign_extend}
use Rattle.interval.specs.Ranges.{IsMember}
use Rattle.interval.specs.Table.{and_range, or_range, xor_range, binary_digits, scaled_range}
use Rattle.interval.specs.Table.{shift_left_range, shift_right_range, signed_shift_right_range, sign_extend_range}
use Rattle.interval.proofs.Members.{in_full, in_span, where_lt, where_constant}
use Rattle.interval.proofs.Numbers.{below_pow}
use Rattle.interval.proofs.Digits.{below_digits}

-- the range of bitwise and includes the result for every two members
pub and_sound : (a b : Range) (x y : ℕ) → IsMember x a → IsMember y b → IsMember (bit_and x y) (and_range a b)
and_sound a b x y h k = in_span _ _ _ (omega arith) (omega (arith, and_le_l x y, and_le_r x y))

-- a member has no more digits than the greater end
few_digits : (a b : Range) (x : ℕ)
    → a.hi < 2 ^ 64 → b.hi < 2 ^ 64
    → x ≤ max a.hi b.hi
    → x < 2 ^ binary_digits (max a.hi b.hi)
few_digits a b x p q h = omega (arith, below_digits (max a.hi b.hi) (omega arith))

-- the range of bitwise or includes the result for every two members of ranges of words
pub or_sound : (a b : Range) (x y : ℕ)
    → a.hi < 2 ^ 64 → b.hi < 2 ^ 64
    → IsMember x a → IsMember y b
    → IsMember (bit_or x y) (or_range a b)
or_sound a b x y p q h k =
    let below : bit_or x y < 2 ^ binary_digits (max a.hi b.hi) =
    or_lt (binary_digits (max a.hi b.hi)) x y (few_digits a b x p q (omega arith))
    (few_digits a b y p q (omega arith)) in
    in_span _ _ _ (omega (arith, le_or_l x y, le_or_r x y)) (omega arith)

-- the range of bitwise exclusive or includes the result for every two members of ranges of words
pub xor_sound : (a b : Range) (x y : ℕ)
    → a.hi < 2 ^ 64 → b.hi < 2 ^ 64
    → IsMember x a → IsMember y b
    → IsMember (bit_xor x y) (xor_range a b)
xor_sound a b x y p q h k =
    let below : bit_xor x y < 2 ^ binary_digits (max a.hi b.hi) =
    xor_lt (binary_digits (max a.hi b.hi)) x y (few_digits a b x p q (omega arith))
    (few_digits a b y p q (omega arith)) in
    in_span _ _ _ (omega arith) (omega arith)

-- ---- shifts

scaled_sound : (n k : ℕ) (a : Range) (x : ℕ) → IsMember x a → IsMember ((x * 2 ^ k) % 2 ^ n) (scaled_range n a k)
scaled_sound n k a x h =
    let least : a.lo * 2 ^ k ≤ x * 2 ^ k = mul-le-mul_right (2 ^ k) h.from in
    let most : x * 2 ^ k ≤ a.hi * 2 ^ k = mul-le-mul_right (2 ^ k) h.to in
    where_lt _ _ _ _ _
    (λ (small : a.hi * 2 ^ k < 2 ^ n).
    let same : (x * 2 ^ k) % 2 ^ n ≡ x * 2 ^ k = mod-eq_of_lt (omega arith) in
    in_span _ _ _ (omega arith) (omega arith))
    (λ large. in_full n _ (below_pow n (x * 2 ^ k)))

-- the range of a left shift on n bits includes the result for every two members
pub shift_left_sound : (n : ℕ) (a b : Range) (x y : ℕ)
    → IsMember x a → IsMember y b
    → IsMember (shift_left n x y) (shift_left_range n a b)
shift_left_sound n a b x y h k =
    where_constant b _ _ _ y k
    (λ (e : y ≡ b.lo).
    subst (λ v. IsMember (shift_left n x v) (scaled_range n a (b.lo % n))) (sym e) (scaled_sound n (b.lo % n) a x h))
    (in_full n _ (below_pow n (x * 2 ^ (y % n))))

-- the range of a right shift on n bits, without sign, includes the result for every two members
pub shift_right_sound : (n : ℕ) (a b : Range) (x y : ℕ)
    → IsMember x a → IsMember y b
    → IsMember (shift_right n x y) (shift_right_range n a b)
shift_right_sound n a b x y h k =
    where_constant b _ _ _ y k
    (λ (e : y ≡ b.lo).
    let same : shift_right n x y ≡ shift_right n x b.lo = ap (shift_right n x) e in
    in_span _ _ _ (omega (arith, shr_mono (b.lo % n) h.from)) (omega (arith, shr_mono (b.lo % n) h.to)))
    (in_span _ _ _ (omega arith) (omega (arith, shr_le x (y % n))))

-- a number whose sign bit is 0 is itself
pub signed_small : (n x : ℕ) → x < 2 ^ (n - 1) → signed n x ≡ pos x
signed_small n x h = cond-true (nat_lt x (2 ^ (n - 1))) (pos x) _ (lt-ltb x (2 ^ (n - 1)) h)

-- the unsigned number of n bits of an integer is below 2 ^ n
pub unsigned_below : (n : ℕ) (z : ℤ) → unsigned n z < 2 ^ n
unsigned_below n (pos m) = below_pow n m
unsigned_below n (negsuc m) = omega (arith, pow_pos n)

-- the range of a signed right shift includes the result for every two members, the first from a range of n bits
pub signed_shift_right_sound : (n : ℕ) (a b : Range) (x y : ℕ)
    → a.hi < 2 ^ n → IsMember x a
    → IsMember y b
    → IsMember (signed_shift_right n x y) (signed_shift_right_range n a b)
signed_shift_right_sound n a b x y p h k =
    where_lt _ _ _ _ _
    (λ (small : a.hi < 2 ^ (n - 1)).
    let plain : signed_shift_right n x y ≡ shift_right n x y =
    ap (λ z. unsigned n (int_shr z (y % n))) (signed_small n x (omega arith))
    ∙ mod-eq_of_lt (omega (arith, shr_le x (y % n))) in
    subst (λ v. IsMember v (shift_right_range n a b)) (sym plain) (shift_right_sound n a b x y h k))
    (λ large. in_full n _ (unsigned_below n (int_shr (signed n x) (y % n))))

-- the range of a sign extension includes the result for each member of a range of n bits
pub sign_extend_sound : (n k : ℕ) (b : Range) (y : ℕ)
    → b.hi < 2 ^ n → IsMember y b
    → IsMember (sign_extend n k y) (sign_extend_range n k b)
sign_extend_sound n k b y q h =
    where_lt _ _ _ _ _
    (λ (small : b.hi < 2 ^ (k - 1)).
    let half : 2 ^ (k - 1) ≤ 2 ^ k = pow-le-pow_right {n = 2} (omega arith) (omega arith) in
    let low : y % 2 ^ k ≡ y = mod-eq_of_lt (omega arith) in
    let plain : sign_extend n k y ≡ y =
    ap (λ v. unsigned n (signed k v)) low
    ∙ (ap (unsigned n) (signed_small k y (omega arith)) ∙ mod-eq_of_lt (omega arith)) in
    subst (λ v. IsMember v b) (sym plain) h)
    (λ large. in_full n _ (unsigned_below n (signed k (y % 2 ^ k))))
