-- `signed_remainder` of 64 bits: for a divisor other than 0 the remainder is the dividend less the divisor times the quotient, by the
-- contracts of the casts and of `wrapping_rem` (`rest_of_64`).
use Rattle.std.proofs.Common.{arith}
use Rattle.words.proofs.Signed.{rest_of_64}
use Rattle.words.proofs.words64.signed_remainder.Goals as goal

pub returns-else-b-eq0 : goal.returns-else-b-eq0
returns-else-b-eq0 c =
    rest_of_64 c.args.a c.args.b _ c.cast_signed.result c.cast_signed-else-b-eq0.result
    c.wrapping_rem.result c.if-b-eq0.false (omega arith)
    (omega arith) c.cast_signed.ensures c.cast_signed-else-b-eq0.ensures
    c.cast_signed.type_inv c.cast_signed-else-b-eq0.type_inv
    c.wrapping_rem.type_inv c.wrapping_rem.ensures c.cast_unsigned.ensures
