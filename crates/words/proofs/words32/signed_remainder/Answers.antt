-- `signed_remainder` of 32 bits: for a divisor other than 0 the remainder is the dividend less the divisor times the quotient, on the low
-- halves, by the contracts of the casts and of `wrapping_rem` (`rest_of_32`).
use Rattle.std.proofs.Common.{ap₂, arith, ◌∙◌}
use Rattle.words.specs.Words.{signed_remainder}
use Rattle.words.proofs.Signed.{rest_of_32}
use Rattle.words.proofs.words32.signed_remainder.Goals as goal

pub returns-else-divisor-eq0 : goal.returns-else-divisor-eq0
returns-else-divisor-eq0 c =
    let a = c.low_word-else-divisor-eq0.result in
    let b = c.low_word-divisor.result in
    c.from-else-divisor-eq0.ensures
    ∙ (rest_of_32 a b _ c.cast_signed.result c.cast_signed-else-divisor-eq0.result
    c.wrapping_rem.result c.if-divisor-eq0.false (omega arith)
    (omega arith) c.cast_signed.ensures c.cast_signed-else-divisor-eq0.ensures
    c.cast_signed.type_inv c.cast_signed-else-divisor-eq0.type_inv
    c.wrapping_rem.type_inv c.wrapping_rem.ensures c.cast_unsigned.ensures
    ∙ ap₂ (signed_remainder 32) c.low_word-else-divisor-eq0.ensures c.low_word-divisor.ensures)
