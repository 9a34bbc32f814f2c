-- Why a program is rejected, and the number of each reason. The rules and their numbers are this
-- project's own.
use Rattle.std.specs.Prelude.{ℕ, Result, Ok, Err}
use Rattle.reg_kinds.specs.declared.reason.Reason.{Reason}
use Rattle.reg_kinds.specs.declared.reason.Reason.TheVariants.{JumpOutside, JumpBackward, FallsOff, Unreachable, UnknownHelper}
use Rattle.reg_kinds.specs.declared.reason.Reason.TheVariants.{FramePointerWritten, DescriptorNotOpen, DescriptorNotMap, NoDirectValue}
use Rattle.reg_kinds.specs.declared.reason.Reason.TheVariants.{UnreadableRegister, ResultNotScalar, NotPointer, PointerArithmetic, OffsetTooLarge}
use Rattle.reg_kinds.specs.declared.reason.Reason.TheVariants.{OutsideStack, UnalignedStack, UnwrittenStack, PartOfSpill, OutsideValue, MaybeNull}
use Rattle.reg_kinds.specs.declared.reason.Reason.TheVariants.{ContextAccess, PointerStored, PointerComparison, HelperArgument, LengthUnbounded}
use Rattle.reg_kinds.specs.declared.reason.Reason.TheVariants.{UnalignedAtomic, Memory}

-- the number of a reason: 1 to 9 for the shape of a program, 20 to 36 for its safety, 40 if the
-- verifier is out of memory
abbrev pub number : Reason → ℕ
number JumpOutside = 1
number JumpBackward = 2
number FallsOff = 3
number Unreachable = 4
number UnknownHelper = 5
number FramePointerWritten = 6
number DescriptorNotOpen = 7
number DescriptorNotMap = 8
number NoDirectValue = 9
number UnreadableRegister = 20
number ResultNotScalar = 21
number NotPointer = 22
number PointerArithmetic = 23
number OffsetTooLarge = 24
number OutsideStack = 25
number UnalignedStack = 26
number UnwrittenStack = 27
number PartOfSpill = 28
number OutsideValue = 29
number MaybeNull = 30
number ContextAccess = 31
number PointerStored = 32
number PointerComparison = 33
number HelperArgument = 34
number LengthUnbounded = 35
number UnalignedAtomic = 36
number Memory = 40

-- the result of two steps, one after another, each of which may fail for a reason. If the first has
-- a value a (Ok), the result is that of the second step, f, for a. If the first fails for a reason
-- e (Err), the result is Err e, and f is not used
abbrev pub and_then_ok : {A B : Type 0} → Result A Reason → (A → Result B Reason) → Result B Reason
and_then_ok (Ok a) f = f a
and_then_ok (Err e) f = Err e
