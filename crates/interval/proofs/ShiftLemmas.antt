-- Shifts of the ends of ranges.
use Rattle.std.proofs.Common.{ℕ, ◌+◌, ◌*◌, ◌/◌, ◌^◌, ◌<◌, ◌≤◌, arith}
use Rattle.std.proofs.Math.Nat.{mul-le-mul_right}
use Rattle.std.proofs.lemmas.Nat.{pow_pos, div-add-mod', mod_below}

-- if v is above a number shifted right, v shifted left is above the number
pub shifted_back_above : (g k v : ℕ) → g / 2 ^ k < v → g < v * 2 ^ k
shifted_back_above g k v h =
    let least : (g / 2 ^ k + 1) * 2 ^ k ≤ v * 2 ^ k = mul-le-mul_right (2 ^ k) (omega arith) in
    omega (arith, least, div-add-mod' g (2 ^ k), mod_below g (2 ^ k) (pow_pos k))
