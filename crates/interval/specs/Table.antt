-- The range of each operator's results, of operands in two ranges. The operators are those of RFC
-- 9669, sections 4.1 and 4.2; the ranges are this project's own.
use Rattle.std.specs.Prelude.{ℕ, ◌+◌, ◌-◌, ◌*◌, ◌/◌, ◌%◌, ◌^◌, min, max, nat_lt, nat_le, Bool, ◌&&◌, if◌then◌else◌}
use Rattle.std.specs.Int.{w64, leading_zeros}
use Rattle.interval.specs.declared.range.Range.{Range}
use Rattle.words.specs.declared.operator.Operator.{Operator}
use Rattle.words.specs.declared.operator.AluOp.{AluOp}
use Rattle.words.specs.declared.operator.AluOp.TheVariants.{Add, Sub, Mul, Div, SignedDiv, Or, And, ShiftLeft}
use Rattle.words.specs.declared.operator.AluOp.TheVariants.{ShiftRight, Mod, SignedMod, Xor, Mov, SignedShiftRight}
use Rattle.words.specs.declared.operator.Operator.TheVariants.{Binary, Neg, SignExtend, End}
use Rattle.words.specs.Operate.{bits_read, combined, kept_bits, extended_bits}
use Rattle.interval.specs.Ranges.{span, constant, is_constant, full}

-- ---- one row for each operator, on operands below 2 ^ n

-- the range of the sums of members, modulo 2 ^ n: exact if none wraps or all do, else all numbers
abbrev pub sum_range : ℕ → Range → Range → Range
sum_range n a b =
    if nat_lt (a.hi + b.hi) (2 ^ n) then span (a.lo + b.lo) (a.hi + b.hi) else
    (if nat_le (2 ^ n) (a.lo + b.lo)
    then span (a.lo + b.lo - 2 ^ n) (a.hi + b.hi - 2 ^ n)
    else full n)

-- the range of the differences of members, modulo 2 ^ n: exact if none wraps or all do, else all
-- numbers
abbrev pub difference_range : ℕ → Range → Range → Range
difference_range n a b =
    if nat_le b.hi a.lo then span (a.lo - b.hi) (a.hi - b.lo) else
    (if nat_lt a.hi b.lo then span (a.lo + 2 ^ n - b.hi) (a.hi + 2 ^ n - b.lo) else full n)

-- the range of the products of members, modulo 2 ^ n: all numbers of n bits if the greatest wraps
abbrev pub product_range : ℕ → Range → Range → Range
product_range n a b =
    if nat_lt (a.hi * b.hi) (2 ^ n) then span (a.lo * b.lo) (a.hi * b.hi) else full n

-- the range of the unsigned quotients of members: from 0 to the greatest dividend if the divisor
-- may be 0, since a quotient by 0 is 0 and no quotient is above its dividend
abbrev pub quotient_range : Range → Range → Range
quotient_range a b = if nat_le 1 b.lo then span (a.lo / b.hi) (a.hi / b.lo) else span 0 a.hi

-- the range of the unsigned remainders of members: from 0 to the greatest dividend, and below the
-- greatest divisor if no divisor is 0; a remainder by 0 is the dividend
abbrev pub remainder_range : Range → Range → Range
remainder_range a b = if nat_le 1 b.lo then span 0 (min a.hi (b.hi - 1)) else span 0 a.hi

-- the range of the bitwise AND of members: from 0 to the lesser high end
abbrev pub and_range : Range → Range → Range
and_range a b = span 0 (min a.hi b.hi)

-- how many binary digits a word has: 0 has none
abbrev pub binary_digits : ℕ → ℕ
binary_digits v = 64 - leading_zeros w64 v

-- the greatest number with as many binary digits as the greater high end of the two ranges
abbrev pub most_with_digits : Range → Range → ℕ
most_with_digits a b = 2 ^ binary_digits (max a.hi b.hi) - 1

-- the range of the bitwise OR of members: at least each low end, with no more binary digits than
-- the greater high end
abbrev pub or_range : Range → Range → Range
or_range a b = span (max a.lo b.lo) (most_with_digits a b)

-- the range of the bitwise XOR of members: from 0, with no more binary digits than the greater high
-- end
abbrev pub xor_range : Range → Range → Range
xor_range a b = span 0 (most_with_digits a b)

-- the range of the members of a times 2 ^ k, that is, shifted left by k bits; all numbers of n bits
-- if the greatest is no longer below 2 ^ n
abbrev pub scaled_range : ℕ → Range → ℕ → Range
scaled_range n a k =
    if nat_lt (a.hi * 2 ^ k) (2 ^ n) then span (a.lo * 2 ^ k) (a.hi * 2 ^ k) else full n

-- the range of the members of a shifted left by members of b: all numbers of n bits unless b is one
-- number and no member loses a bit
abbrev pub shift_left_range : ℕ → Range → Range → Range
shift_left_range n a b = if is_constant b then scaled_range n a (b.lo % n) else full n

-- the range of the members of a shifted right by members of b, modulo n, with zeros from the left;
-- from 0 to the greatest member of a if b is not one number, as a shift by 0 changes no member
abbrev pub shift_right_range : ℕ → Range → Range → Range
shift_right_range n a b =
    if is_constant b then span (a.lo / 2 ^ (b.lo % n)) (a.hi / 2 ^ (b.lo % n)) else span 0 a.hi

-- the range of the members of a shifted right by members of b, as words of n bits, with the sign
-- bit copied: all numbers of n bits if the sign bit of a member may be 1, else as for a shift with
-- zeros
abbrev pub signed_shift_right_range : ℕ → Range → Range → Range
signed_shift_right_range n a b =
    if nat_lt a.hi (2 ^ (n - 1)) then shift_right_range n a b else full n

-- the range of the members of b extended by the sign of their low k bits: b itself if all fit into
-- these bits with sign bit 0, else all numbers of n bits
abbrev pub sign_extend_range : ℕ → ℕ → Range → Range
sign_extend_range n k b = if nat_lt b.hi (2 ^ (k - 1)) then b else full n

-- the range of the results of an operator of two operands on n bits, by the ends of their ranges:
-- all numbers for signed quotients and remainders; that of the second operand for a move
abbrev pub alu_range : ℕ → AluOp → Range → Range → Range
alu_range n Add a b = sum_range n a b
alu_range n Sub a b = difference_range n a b
alu_range n Mul a b = product_range n a b
alu_range n Div a b = quotient_range a b
alu_range n SignedDiv a b = full n
alu_range n Or a b = or_range a b
alu_range n And a b = and_range a b
alu_range n ShiftLeft a b = shift_left_range n a b
alu_range n ShiftRight a b = shift_right_range n a b
alu_range n Mod a b = remainder_range a b
alu_range n SignedMod a b = full n
alu_range n Xor a b = xor_range a b
alu_range n Mov a b = b
alu_range n SignedShiftRight a b = signed_shift_right_range n a b

-- the range of the results of an operator on n bits, by the ends of its operands' ranges: for a
-- change of sign all numbers of n bits, for a byte-order conversion all numbers of as many bits as
-- it keeps
abbrev pub general_range : ℕ → Operator → Range → Range → Range
general_range n (Binary op) a b = alu_range n op a b
general_range n Neg a b = full n
general_range n (SignExtend from) a b = sign_extend_range n (extended_bits from) b
general_range n (End how kept) a b = full (kept_bits kept)

-- ---- the table

-- whether each operand that an operator of two operands reads is one number: a move only reads the
-- second
abbrev pub are_alu_constants : AluOp → Range → Range → Bool
are_alu_constants Mov a b = is_constant b
are_alu_constants op a b = is_constant a && is_constant b

-- whether the range of each operand that the operator reads has only one member; then the range of
-- the result has one member too (`result_range`). a is the range of the destination, b that of the
-- source. An operator of two operands (Binary) reads both, except a move, which reads only the
-- source (`are_alu_constants`). A change of sign (Neg) and a byte-order conversion (End) read only
-- the destination, a sign extension only the source
abbrev pub are_constants : Operator → Range → Range → Bool
are_constants (Binary op) a b = are_alu_constants op a b
are_constants Neg a b = is_constant a
are_constants (SignExtend from) a b = is_constant b
are_constants (End how kept) a b = is_constant a

-- the range of the results on n bits, for operands in a and b, which have as many bits as the
-- operator reads. If each operand that it reads is one number, it has only their result; else it is
-- computed from the ends of a and b (`general_range`)
abbrev pub result_range : ℕ → Operator → Range → Range → Range
result_range n op a b =
    if are_constants op a b then constant (combined n op a.lo b.lo) else general_range n op a b

-- the range of the members modulo 2 ^ n: all numbers of n bits if a member is truncated, unless
-- there is only one member
abbrev pub range_modulo : ℕ → Range → Range
range_modulo n r =
    if nat_lt r.hi (2 ^ n) then r else (if is_constant r then constant (r.lo % 2 ^ n) else full n)

-- the range of what an operation on n bits reads of the members: their low n bits, or on 64 bits
-- the members themselves, as words are below 2 ^ 64
abbrev pub operand_range : ℕ → Range → Range
operand_range n r = if nat_lt n 64 then range_modulo n r else r

-- the range of the results of an operator on n bits, for words in the ranges a and b; a byte-order
-- conversion reads 64 bits, whatever n
abbrev pub range_of : ℕ → Operator → Range → Range → Range
range_of n op a b =
    result_range n op (operand_range (bits_read n op) a) (operand_range (bits_read n op) b)
