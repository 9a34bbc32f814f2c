-- The ranges of sums, differences, products, quotients and remainders include each result.
use Rattle.std.proofs.Common.{◌≡◌, ℕ, ◌+◌, ◌-◌, ◌*◌, ◌%◌, ◌^◌, ◌<◌, ◌≤◌, ◌==◌, if◌then◌else◌, arith}
use Rattle.std.proofs.Math.Nat.{mod-eq_of_lt, div-le_self, mod-le}
use Rattle.std.proofs.lemmas.Bool.{cond_both, eqb-true, eqb-false}
use Rattle.std.proofs.lemmas.Nat.{mod_below, mul-le}
use Rattle.interval.specs.declared.range.Range.{Range}
use Rattle.words.specs.Words.{add, subtract, multiply, divide, remainder}
use Rattle.interval.specs.Ranges.{IsMember}
use Rattle.interval.specs.Table.{sum_range, difference_range, product_range, quotient_range, remainder_range}
use Rattle.interval.proofs.Members.{in_full, in_span, where_lt, where_le}
use Rattle.interval.proofs.Numbers.{mod_once, below_pow, div_between}

-- the range of sums modulo 2 ^ n includes each sum of members of two ranges of n bits
pub sum_sound : (n : ℕ) (a b : Range) (x y : ℕ)
    → a.hi < 2 ^ n → b.hi < 2 ^ n
    → IsMember x a → IsMember y b
    → IsMember (add n x y) (sum_range n a b)
sum_sound n a b x y p q h k =
    where_lt _ _ _ _ _
    (λ (small : a.hi + b.hi < 2 ^ n).
    let same : (x + y) % 2 ^ n ≡ x + y = mod-eq_of_lt (omega arith) in in_span _ _ _ (omega arith) (omega arith))
    (λ large. where_le _ _ _ _ _
    (λ (wraps : 2 ^ n ≤ a.lo + b.lo).
    let once : (x + y) % 2 ^ n ≡ x + y - 2 ^ n = mod_once (x + y) (2 ^ n) (omega arith) (omega arith) in
    in_span _ _ _ (omega arith) (omega arith))
    (λ either. in_full n _ (below_pow n (x + y))))

-- the range of differences modulo 2 ^ n includes each difference of members of two ranges of n bits
pub difference_sound : (n : ℕ) (a b : Range) (x y : ℕ)
    → a.hi < 2 ^ n → b.hi < 2 ^ n
    → IsMember x a → IsMember y b
    → IsMember (subtract n x y) (difference_range n a b)
difference_sound n a b x y p q h k =
    where_le _ _ _ _ _
    (λ (above : b.hi ≤ a.lo).
    let once : (x + (2 ^ n - y)) % 2 ^ n ≡ x + (2 ^ n - y) - 2 ^ n =
    mod_once (x + (2 ^ n - y)) (2 ^ n) (omega arith) (omega arith) in
    in_span _ _ _ (omega arith) (omega arith))
    (λ rest. where_lt _ _ _ _ _
    (λ (below : a.hi < b.lo).
    let same : (x + (2 ^ n - y)) % 2 ^ n ≡ x + (2 ^ n - y) = mod-eq_of_lt (omega arith) in
    in_span _ _ _ (omega arith) (omega arith))
    (λ either. in_full n _ (below_pow n (x + (2 ^ n - y)))))

-- the range of products modulo 2 ^ n includes each product of members of two ranges
pub product_sound : (n : ℕ) (a b : Range) (x y : ℕ)
    → IsMember x a → IsMember y b → IsMember (multiply n x y) (product_range n a b)
product_sound n a b x y h k =
    let least : a.lo * b.lo ≤ x * y = mul-le a.lo b.lo x y h.from k.from in
    let most : x * y ≤ a.hi * b.hi = mul-le x y a.hi b.hi h.to k.to in
    where_lt _ _ _ _ _
    (λ (small : a.hi * b.hi < 2 ^ n).
    let same : (x * y) % 2 ^ n ≡ x * y = mod-eq_of_lt (omega arith) in in_span _ _ _ (omega arith) (omega arith))
    (λ large. in_full n _ (below_pow n (x * y)))

-- the result by a divisor is in a range if it is so for a divisor of 0 and for one of at least 1
pub by_divisor : (y u v : ℕ) (r : Range)
    → (y ≡ 0 → IsMember u r) → (1 ≤ y → IsMember v r)
    → IsMember (if y == 0 then u else v) r
by_divisor y u v r f g =
    cond_both (y == 0) u v (λ w. IsMember w r) (λ t. f (eqb-true y 0 t)) (λ t. g (omega (arith, eqb-false y 0 t)))

-- the range of unsigned quotients includes each quotient of members of two ranges
pub quotient_sound : (a b : Range) (x y : ℕ) → IsMember x a → IsMember y b → IsMember (divide x y) (quotient_range a b)
quotient_sound a b x y h k =
    where_le _ _ _ _ _
    (λ (some : 1 ≤ b.lo).
    by_divisor y _ _ _ (λ (none : y ≡ 0). absurd (omega arith))
    (λ (one : 1 ≤ y).
    in_span _ _ _ (div_between a.lo x b.hi y h.from one k.to) (div_between x a.hi y b.lo h.to some k.from)))
    (λ (zero : b.lo < 1).
    by_divisor y _ _ _
    (λ (none : y ≡ 0). in_span _ _ _ (omega arith) (omega arith))
    (λ (one : 1 ≤ y). in_span _ _ _ (omega arith) (omega (arith, div-le_self x y))))

-- the range of unsigned remainders includes each remainder of members of two ranges
pub remainder_sound : (a b : Range) (x y : ℕ)
    → IsMember x a → IsMember y b → IsMember (remainder x y) (remainder_range a b)
remainder_sound a b x y h k =
    where_le _ _ _ _ _
    (λ (some : 1 ≤ b.lo).
    by_divisor y _ _ _ (λ (none : y ≡ 0). absurd (omega arith))
    (λ (one : 1 ≤ y). in_span _ _ _ (omega arith) (omega (arith, mod-le x y, mod_below x y one))))
    (λ (zero : b.lo < 1).
    by_divisor y _ _ _
    (λ (none : y ≡ 0). in_span _ _ _ (omega arith) (omega arith))
    (λ (one : 1 ≤ y). in_span _ _ _ (omega arith) (omega (arith, mod-le x y))))
