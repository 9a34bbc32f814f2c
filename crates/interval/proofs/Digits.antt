-- The binary digits of a word.
use Rattle.std.proofs.Common.{◌≡◌, ℕ, ◌-◌, ◌^◌, ◌<◌, ◌/◌, subst, refl, arith}
use Rattle.std.proofs.lemmas.Nat.{leading_length, leading_le}
use Rattle.std.proofs.lemmas.Nat.Bits.{ones_shr}
use Rattle.std.specs.Int.{w64, leading_zeros}
use lib.Count.{count_leading_zeros}
use Rattle.interval.specs.Table.{binary_digits}

-- a word is below 2 to the number of its digits
pub below_digits : (m : ℕ) → m < 2 ^ 64 → m < 2 ^ binary_digits m
below_digits m h =
    let found = leading_length 64 m h in
    let same : found.0 ≡ binary_digits m = omega (arith, found.1) in
    subst (λ (k : ℕ). m < 2 ^ k) same found.2

-- 2 ^ 64 - 1, shifted right by the leading zeros, has as many ones as the number has digits
pub digits_shifted : (m : ℕ) → (2 ^ 64 - 1) / 2 ^ leading_zeros w64 m ≡ 2 ^ binary_digits m - 1
digits_shifted m = ones_shr 64 (leading_zeros w64 m) (leading_le 64 m)

-- 0 is the greatest number with as many binary digits as 0, none
pub no_digits : 0 ≡ 2 ^ binary_digits 0 - 1
unfolding count_leading_zeros
no_digits = refl
