-- Laws of the masks of bytes of a slot, of the definition `bits_in` of `Many`, proved here for the
-- proofs of the crates above. This project's own. No contract cites them, so they are not part of
-- what has to be trusted.
use Rattle.std.proofs.Common.{◌≡◌, ℕ, zero, suc, ◌+◌, ◌-◌, ◌*◌, ◌^◌, ◌<◌, ◌≤◌, min, sym, ap, subst, ◌∙◌, ⊎_elim, arith}
use Rattle.std.proofs.Math.Nat.{pow-le-pow_right}
use Rattle.std.proofs.lemmas.Bool.{cases_lt}
use Rattle.std.proofs.lemmas.Nat.{pow-add, pow_pos}
use Rattle.reg_kinds.specs.Many.{bits_in}

-- (x - 1) * y + y is x * y, for natural numbers x and y with x above 0 (`h`). For x = 0, which `h`
-- excludes, the left side is y, since 0 - 1 is 0. In `ones_small`, x is 2 ^ a and y is 2 ^ b, and
-- then (x - 1) * y is the mask of `a` bits from bit b on
less_one : (x y : ℕ) → 0 < x → (x - 1) * y + y ≡ x * y
less_one zero y h = absurd (omega arith)
less_one (suc x) y h =
    let back : suc x - 1 ≡ x = omega arith in ap (λ (k : ℕ). k * y + y) back ∙ next x y
  where
    next : (x y : ℕ) → x * y + y ≡ suc x * y
    next x y = grind arith

-- the mask of `a` bits from bit b on, all below bit 8, is below 256
pub ones_small : (a b : ℕ) → a + b ≤ 8 → (2 ^ a - 1) * 2 ^ b < 256
ones_small a b h =
    let some : 0 < 2 = omega arith in
    let most : 2 ^ (a + b) ≤ 2 ^ 8 = pow-le-pow_right some h in
    let sum = pow-add 2 a b in
    let less = less_one (2 ^ a) (2 ^ b) (pow_pos a) in
    let one = pow_pos b in
    omega arith

-- the mask of those of n bytes from byte index p on that lie in stack slot i is below 256
pub bits_in_small : (p n i : ℕ) → bits_in p n i < 256
bits_in_small p n i =
    let a = min 8 (p + n - 8 * i) - (p - 8 * i) in
    let b = p - 8 * i in
    ⊎_elim
    (λ lt. let few : a + b ≤ 8 = omega arith in ones_small a b few)
    (λ le.
    let none : a ≡ 0 = omega arith in
    subst (λ k. (2 ^ k - 1) * 2 ^ b < 256) (sym none) (omega arith))
    (cases_lt b 8)
