-- The bits of aligned bytes lie in one slot.
use Rattle.std.proofs.Common.{◌≡◌, ℕ, ◌-◌, ◌*◌, ◌%◌, ◌^◌, ◌<◌, ◌≤◌, arith}
use Rattle.std.proofs.Math.Nat.{mod-eq_of_lt, pow-le-pow_right}

-- the mask of two aligned bytes, made as an eight-bit number, is that of these bytes in their slot
pub half_bits : (start : ℕ) → start % 2 ≡ 0 → (3 * 2 ^ (start % 8)) % 256 ≡ (2 ^ 2 - 1) * 2 ^ (start % 8)
half_bits start h =
    let few : start % 8 ≤ 6 = omega (arith, h) in
    let some : 0 < 2 = omega arith in
    let most : 2 ^ (start % 8) ≤ 2 ^ 6 = pow-le-pow_right some few in mod-eq_of_lt (omega arith)

-- the mask of four aligned bytes, made as an eight-bit number, is that of these bytes in their slot
pub word_bits : (start : ℕ) → start % 4 ≡ 0 → (15 * 2 ^ (start % 8)) % 256 ≡ (2 ^ 4 - 1) * 2 ^ (start % 8)
word_bits start h =
    let few : start % 8 ≤ 4 = omega (arith, h) in
    let some : 0 < 2 = omega arith in
    let most : 2 ^ (start % 8) ≤ 2 ^ 4 = pow-le-pow_right some few in mod-eq_of_lt (omega arith)
