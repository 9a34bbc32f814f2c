-- Members of the ranges in the table.
use Rattle.std.proofs.Common.{◌≡◌, ℕ, ◌^◌, ◌<◌, ◌≤◌, true, nat_lt, nat_le, if◌then◌else◌, arith}
use Rattle.std.proofs.lemmas.Bool.{cond_both, ltb-true, ltb-false, leb-true, leb-false, eqb-true}
use Rattle.interval.specs.declared.range.Range.{Range}
use Rattle.interval.specs.Ranges.{IsMember, span, full, constant, is_constant}

-- a number below 2 ^ n is a member of the range of all numbers of n bits
pub in_full : (n v : ℕ) → v < 2 ^ n → IsMember v (full n)
in_full n v h = record { from = omega arith; to = omega arith }

-- a number from the low end to the high end is a member of the span
pub in_span : (lo hi v : ℕ) → lo ≤ v → v ≤ hi → IsMember v (span lo hi)
in_span lo hi v h k = record { from = h; to = omega arith }

-- a number is a member of the range of only this number
pub in_constant : (c v : ℕ) → v ≡ c → IsMember v (constant c)
in_constant c v e = record { from = omega arith; to = omega arith }

-- a constant range has one member, its low end
pub only_member : (r : Range) (x : ℕ) → is_constant r ≡ true → IsMember x r → x ≡ r.lo
only_member r x t h = omega (arith, eqb-true r.lo r.hi t, h.from, h.to)

-- ---- a row with a condition

-- if a number is in r when m is below n, and in s when not, it is in the range that this test selects
pub where_lt : (m n : ℕ) (r s : Range) (v : ℕ)
    → (m < n → IsMember v r) → (n ≤ m → IsMember v s)
    → IsMember v (if nat_lt m n then r else s)
where_lt m n r s v f g =
    cond_both (nat_lt m n) r s (λ q. IsMember v q) (λ t. f (ltb-true m n t)) (λ t. g (ltb-false m n t))

-- if a number is in r when m is at most n, and in s when not, it is in the range that this test selects
pub where_le : (m n : ℕ) (r s : Range) (v : ℕ)
    → (m ≤ n → IsMember v r) → (n < m → IsMember v s)
    → IsMember v (if nat_le m n then r else s)
where_le m n r s v f g =
    cond_both (nat_le m n) r s (λ q. IsMember v q) (λ t. f (leb-true m n t)) (λ t. g (leb-false m n t))

-- a number in s, and in r if a member y of b is b's low end, is in the range that the test for a constant selects
pub where_constant : (b r s : Range) (v y : ℕ)
    → IsMember y b → (y ≡ b.lo → IsMember v r)
    → IsMember v s
    → IsMember v (if is_constant b then r else s)
where_constant b r s v y h f g =
    cond_both (is_constant b) r s (λ q. IsMember v q) (λ t. f (only_member b y t h)) (λ t. g)
