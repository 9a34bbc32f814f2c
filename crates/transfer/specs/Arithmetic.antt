-- The kind that an operator leaves in its destination: a number in the range of its results, or a
-- moved pointer. The operators are those of RFC 9669, section 4.1; the rules are this project's
-- own.
use Rattle.std.specs.Prelude.{ℕ, ◌^◌, ℤ, pos, ◌+ℤ◌, ◌-ℤ◌, Bool, true, false, ◌||◌, nat_lt, nat_le, if◌then◌else◌, Option, Some, None, Result, Ok, Err}
use Rattle.interval.specs.declared.range.Range.{Range}
use Rattle.words.specs.declared.operator.Operator.{Operator}
use Rattle.interval.specs.Ranges.{is_constant}
use Rattle.interval.specs.Table.{range_of}
use Rattle.words.specs.declared.operator.AluOp.{AluOp}
use Rattle.words.specs.declared.operator.AluOp.TheVariants as alu
use Rattle.reg_kinds.specs.declared.kind.ValuePointer.{ValuePointer}
use Rattle.reg_kinds.specs.declared.kind.Kind.{Kind}
use Rattle.reg_kinds.specs.declared.kind.Kind.TheVariants.{Unreadable, Scalar, Stack, Value, MaybeValue}
use Rattle.transfer.specs.declared.arithmetic.Direction.{Direction}
use Rattle.transfer.specs.declared.arithmetic.Direction.TheVariants.{Forwards, Backwards}
use Rattle.reg_kinds.specs.declared.reason.Reason.{Reason}
use Rattle.reg_kinds.specs.declared.reason.Reason.TheVariants.{UnreadableRegister, PointerArithmetic, OffsetTooLarge, MaybeNull}
use Rattle.reg_kinds.specs.Reason.{and_then_ok}
use Rattle.reg_kinds.specs.Pointers.{value_span}
use Rattle.words.specs.declared.operator.Operator.TheVariants.{Binary}
use Rattle.words.specs.Widths.{width}
use Rattle.tagged_model.specs.Values.{is_near}
use Rattle.tagged_model.specs.Cells.{and_then}

-- the kind of a register, if it may be read; else the reason
abbrev pub check_readable : Kind → Result Kind Reason
check_readable Unreadable = Err UnreadableRegister
check_readable k = Ok k

-- ---- the distance by which a number moves a pointer: its range, read as signed; None unless all
-- of it has one sign

-- the least and the greatest number of bytes by which a number of a range moves a pointer: the ends
-- of the range, read as signed
abbrev pub Distance : Type 0
Distance = ℤ × ℤ

-- the least and the greatest number of a range, read as signed; None unless all have one sign
abbrev pub distance : Range → Option Distance
distance r =
    if nat_lt r.hi (2 ^ 63) then Some (pos r.lo, pos r.hi) else
    (if nat_le (2 ^ 63) r.lo
    then Some (pos r.lo -ℤ pos (2 ^ 64), pos r.hi -ℤ pos (2 ^ 64))
    else None)

-- ---- moved pointers: forwards by a sum, backwards by a difference

-- the offset; None if it is farther than `farthest_offset` from 0
abbrev pub near_offset : ℤ → Option ℤ
near_offset x = if is_near x then Some x else None

-- offset x moved by d bytes; None if it is then farther than `farthest_offset` from 0
abbrev pub moved_offset : Direction → ℤ → ℤ → Option ℤ
moved_offset Forwards x d = near_offset (x +ℤ d)
moved_offset Backwards x d = near_offset (x -ℤ d)

-- the result of moving a pointer: Ok of x, the new offset of a stack pointer or a moved pointer
-- into a value; OffsetTooLarge for None: the new offset may be more than `farthest_offset` bytes
-- from 0, or the range of the number by which the pointer moves has numbers of both signs, read as
-- signed, and so contains 2 ^ 63 - 1, which is too far
abbrev pub or_too_large : {A : Type 0} → Option A → Result A Reason
or_too_large None = Err OffsetTooLarge
or_too_large (Some x) = Ok x

-- the kind of the stack pointer at offset x, moved by the number of r, a range of one number;
-- OffsetTooLarge if the new offset is more than `farthest_offset` from 0
abbrev pub stack_moved : Direction → ℤ → Range → Result Kind Reason
stack_moved way x r =
    and_then_ok (or_too_large (and_then (distance r) (λ d. moved_offset way x d.0)))
    (λ y. Ok (Stack y))

-- a pointer into a value of this map, at an offset from `low` to `high`; None if `low` or `high` is
-- None, since that offset is too far from 0
abbrev pub spanned : ℕ → Option ℤ → Option ℤ → Option ValuePointer
spanned map low high = and_then low (λ lo. and_then high (λ hi. Some (value_span map lo hi)))

-- pointer p into a value, moved by a number from d.0 to d.1; None if it may be too far from 0 then.
-- Backwards the greatest number leads to the least offset
abbrev pub value_by : Direction → ValuePointer → Distance → Option ValuePointer
value_by Forwards p d =
    spanned p.map (moved_offset Forwards p.lo d.0) (moved_offset Forwards p.hi d.1)
value_by Backwards p d =
    spanned p.map (moved_offset Backwards p.lo d.1) (moved_offset Backwards p.hi d.0)

-- the kind of pointer p into a value after it is moved, forwards or backwards (`way`), by a number
-- of range r; OffsetTooLarge if its offset may then be too far from 0, or if the range has numbers
-- of both signs
abbrev pub value_moved : Direction → ValuePointer → Range → Result Kind Reason
value_moved way p r =
    and_then_ok (or_too_large (and_then (distance r) (value_by way p))) (λ q. Ok (Value q))

-- the kind of a pointer, moved by a number of a range: a stack pointer by a constant, a pointer
-- into a value by any number. PointerArithmetic for any other pointer or number; OffsetTooLarge if
-- the new offset may be too far from 0, or if the range has numbers of both signs
abbrev pub pointer_moved : Direction → Kind → Range → Result Kind Reason
pointer_moved way (Stack x) r = if is_constant r then stack_moved way x r else Err PointerArithmetic
pointer_moved way (Value p) r = value_moved way p r
pointer_moved way k r = Err PointerArithmetic

-- ---- two operands

-- whether the kind is that of the result of a look-up that may be null, since no null test has
-- settled it; a sum or a difference may not move such a pointer (`unless_maybe`)
abbrev pub is_maybe_value : Kind → Bool
is_maybe_value (MaybeValue m site) = true
is_maybe_value k = false

-- the kind of an operator's result on two numbers, of 64 bits (true) or 32; PointerArithmetic if
-- one of them is no number
abbrev pub of_scalars : Bool → Operator → Kind → Kind → Result Kind Reason
of_scalars wide op (Scalar a) (Scalar b) = Ok (Scalar (range_of (width wide) op a b))
of_scalars wide op a b = Err PointerArithmetic

-- the kind of a 64-bit sum, by the kinds of its operands. Two numbers (Scalar) give a number, of
-- the range that `of_scalars` gives for 64 bits (true). A pointer and a number, in either order,
-- give the pointer moved forwards by the number, which is read as signed (`pointer_moved`). Only a
-- pointer into a value may be moved and, if the range of the number has only one number, a pointer
-- to the stack: PointerArithmetic for any other operands. OffsetTooLarge if the pointer's new
-- offset may be over `farthest_offset` bytes from 0. A pointer into a value and a range with
-- numbers of both signs give OffsetTooLarge too, since such a range contains 2 ^ 63 - 1
abbrev pub sum_kind : Kind → Kind → Result Kind Reason
sum_kind (Scalar a) (Scalar b) = of_scalars true (Binary alu.Add) (Scalar a) (Scalar b)
sum_kind (Scalar a) b = pointer_moved Forwards b a
sum_kind a (Scalar b) = pointer_moved Forwards a b
sum_kind a b = Err PointerArithmetic

-- the kind of a 64-bit difference, the first operand minus the second, by their kinds. Two numbers
-- (Scalar) give a number, of the range that `of_scalars` gives for 64 bits (true). A pointer minus
-- a number of range b gives the pointer moved backwards by the number, which is read as signed
-- (`pointer_moved`). Only a pointer into a value may be moved and, if b has only one number, a
-- pointer to the stack: PointerArithmetic for any other operands, such as a number minus a pointer,
-- or two pointers. OffsetTooLarge if the pointer's new offset may be more than `farthest_offset`
-- bytes from 0. A pointer into a value and a b with numbers of both signs give OffsetTooLarge too,
-- since b then contains 2 ^ 63 - 1
abbrev pub difference_kind : Kind → Kind → Result Kind Reason
difference_kind (Scalar a) (Scalar b) = of_scalars true (Binary alu.Sub) (Scalar a) (Scalar b)
difference_kind (Scalar a) b = Err PointerArithmetic
difference_kind a (Scalar b) = pointer_moved Backwards a b
difference_kind a b = Err PointerArithmetic

-- the result r of a sum or a difference of kinds a and b; MaybeNull if a or b is the result of a
-- look-up that may be null, since such a pointer may not be moved
abbrev pub unless_maybe : Kind → Kind → Result Kind Reason → Result Kind Reason
unless_maybe a b r = if is_maybe_value a || is_maybe_value b then Err MaybeNull else r

-- the kind of an operator's result on two operands, of 64 bits (true) or 32: a 64-bit move copies
-- any value; 64-bit sums and differences move pointers; everything else is only for numbers
abbrev pub arithmetic_kind : Bool → AluOp → Kind → Kind → Result Kind Reason
arithmetic_kind true alu.Mov a b = Ok b
arithmetic_kind true alu.Add a b = unless_maybe a b (sum_kind a b)
arithmetic_kind true alu.Sub a b = unless_maybe a b (difference_kind a b)
arithmetic_kind wide op a b = of_scalars wide (Binary op) a b

-- the kind of an operator's result on one number, of 64 bits (true) or 32; the operator has one
-- operand, which is passed as the first and as the second
abbrev pub of_scalar : Bool → Operator → Kind → Result Kind Reason
of_scalar wide op k = of_scalars wide op k k
