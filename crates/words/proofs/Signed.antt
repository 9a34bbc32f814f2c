-- Signed numbers: the equations of `Words` agree with std.
use Rattle.std.proofs.Common.{◌≡◌, ℕ, ◌^◌, ◌<◌, ◌≢◌, ◌==◌, false, ℤ, pos, negsuc, ◌+ℤ◌, ◌-ℤ◌, ◌*ℤ◌}
use Rattle.std.proofs.Common.{FitsSigned, int_div, int_rem, ap, ap₂, ◌∙◌, arith, rules, w32, w64}
use Rattle.std.proofs.Math.IntN.{*ℤ_comm}
use Rattle.std.proofs.lemmas.Int.{ints, quot-rem, to_z-of_z}
use Rattle.std.specs.Int.{cast_signed, cast_unsigned}
use lib.Signed.{mag}
use Rattle.words.specs.Words.{signed, unsigned, signed_remainder}

-- the remainder is a minus d times the quotient
pub rem_is_rest : (a d : ℤ) → int_rem a d ≡ a -ℤ d *ℤ int_div a d
rem_is_rest a d =
    let q : int_div a d *ℤ d +ℤ int_rem a d ≡ a = quot-rem a d in
    let turned : int_div a d *ℤ d ≡ d *ℤ int_div a d = *ℤ_comm (int_div a d) d in
    omega (arith, ints, q, turned)

-- ---- 64 bits

-- std reads a word as the same signed number
pub signed_of_64 : (a : ℕ) → a < 2 ^ 64 → cast_signed w64 a ≡ signed 64 a
signed_of_64 a h = grind (arith, ints)

-- std writes a signed number as the same word
pub unsigned_of_64 : (z : ℤ) → FitsSigned w64 z → cast_unsigned w64 z ≡ unsigned 64 z
unsigned_of_64 (pos m) h = omega arith
unsigned_of_64 (negsuc m) h = omega arith

-- a signed remainder as the code computes it is that of `Words`
pub rest_of_64 : (a b u : ℕ) (x y r : ℤ)
    → b ≢ 0 → a < 2 ^ 64
    → b < 2 ^ 64 → x ≡ cast_signed w64 a
    → y ≡ cast_signed w64 b → mag x < 2 ^ 63
    → mag y < 2 ^ 63 → mag r < 2 ^ 63
    → r ≡ int_rem (cast_signed w64 (cast_unsigned w64 x)) (cast_signed w64 (cast_unsigned w64 y))
    → u ≡ cast_unsigned w64 (cast_signed w64 (cast_unsigned w64 r))
    → u ≡ signed_remainder 64 a b
rest_of_64 a b u x y r ne ha hb ex ey fx fy fr er eu =
    let gx : FitsSigned w64 x = record { sfits = fx } in
    let gy : FitsSigned w64 y = record { sfits = fy } in
    let gr : FitsSigned w64 r = record { sfits = fr } in
    let px : cast_signed w64 (cast_unsigned w64 x) ≡ signed 64 a = to_z-of_z w64 x gx ∙ (ex ∙ signed_of_64 a ha) in
    let py : cast_signed w64 (cast_unsigned w64 y) ≡ signed 64 b = to_z-of_z w64 y gy ∙ (ey ∙ signed_of_64 b hb) in
    let pr : r ≡ signed 64 a -ℤ signed 64 b *ℤ int_div (signed 64 a) (signed 64 b) =
    er ∙ (ap₂ int_rem px py ∙ rem_is_rest (signed 64 a) (signed 64 b)) in
    let apart : (b == 0) ≡ false = search rules in
    rw apart (eu ∙ (ap (cast_unsigned w64) (to_z-of_z w64 r gr) ∙ (unsigned_of_64 r gr ∙ ap (unsigned 64) pr)))

-- ---- 32 bits

-- std reads a word as the same signed number
pub signed_of_32 : (a : ℕ) → a < 2 ^ 32 → cast_signed w32 a ≡ signed 32 a
signed_of_32 a h = grind (arith, ints)

-- std writes a signed number as the same word
pub unsigned_of_32 : (z : ℤ) → FitsSigned w32 z → cast_unsigned w32 z ≡ unsigned 32 z
unsigned_of_32 (pos m) h = omega arith
unsigned_of_32 (negsuc m) h = omega arith

-- a signed remainder as the code computes it is that of `Words`
pub rest_of_32 : (a b u : ℕ) (x y r : ℤ)
    → b ≢ 0 → a < 2 ^ 32
    → b < 2 ^ 32 → x ≡ cast_signed w32 a
    → y ≡ cast_signed w32 b → mag x < 2 ^ 31
    → mag y < 2 ^ 31 → mag r < 2 ^ 31
    → r ≡ int_rem (cast_signed w32 (cast_unsigned w32 x)) (cast_signed w32 (cast_unsigned w32 y))
    → u ≡ cast_unsigned w32 (cast_signed w32 (cast_unsigned w32 r))
    → u ≡ signed_remainder 32 a b
rest_of_32 a b u x y r ne ha hb ex ey fx fy fr er eu =
    let gx : FitsSigned w32 x = record { sfits = fx } in
    let gy : FitsSigned w32 y = record { sfits = fy } in
    let gr : FitsSigned w32 r = record { sfits = fr } in
    let px : cast_signed w32 (cast_unsigned w32 x) ≡ signed 32 a = to_z-of_z w32 x gx ∙ (ex ∙ signed_of_32 a ha) in
    let py : cast_signed w32 (cast_unsigned w32 y) ≡ signed 32 b = to_z-of_z w32 y gy ∙ (ey ∙ signed_of_32 b hb) in
    let pr : r ≡ signed 32 a -ℤ signed 32 b *ℤ int_div (signed 32 a) (signed 32 b) =
    er ∙ (ap₂ int_rem px py ∙ rem_is_rest (signed 32 a) (signed 32 b)) in
    let apart : (b == 0) ≡ false = search rules in
    rw apart (eu ∙ (ap (cast_unsigned w32) (to_z-of_z w32 r gr) ∙ (unsigned_of_32 r gr ∙ ap (unsigned 32) pr)))
