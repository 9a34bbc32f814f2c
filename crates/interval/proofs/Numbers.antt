-- Numbers modulo a power of two, and quotients.
use Rattle.std.proofs.Common.{◌≡◌, ℕ, ◌+◌, ◌-◌, ◌*◌, ◌/◌, ◌%◌, ◌^◌, ◌<◌, ◌≤◌, ◌∙◌, ap, arith}
use Rattle.std.proofs.Math.Nat.{mul-le-mul_left}
use Rattle.std.proofs.lemmas.Nat.{pow_pos, mod_below, le-div, mod-mul-add, div-add-mod'}

-- a number from p up to 2p, modulo p, is the number less p
pub mod_once : (s p : ℕ) → p ≤ s → s < p + p → s % p ≡ s - p
mod_once s p h k =
    let split : s ≡ 1 * p + (s - p) = omega arith in ap (λ t. t % p) split ∙ mod-mul-add 1 p (s - p) (omega arith)

-- a number modulo 2 ^ n is below 2 ^ n
pub below_pow : (n v : ℕ) → v % 2 ^ n < 2 ^ n
below_pow n v = mod_below v (2 ^ n) (pow_pos n)

-- a quotient grows with the dividend, and falls as the divisor grows
pub div_between : (a x b y : ℕ) → a ≤ x → 1 ≤ y → y ≤ b → a / b ≤ x / y
div_between a x b y h p k =
    let grown : (a / b) * y ≤ (a / b) * b = mul-le-mul_left (a / b) k in
    le-div (a / b) x y p (omega (arith, grown, div-add-mod' a b))
