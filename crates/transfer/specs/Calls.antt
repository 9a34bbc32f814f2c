-- The conditions of a call on the facts, and the facts after it. The conditions are tried in the
-- order in which they are written. The arguments are those of linux/bpf.h (bpf_func_id); the rules
-- are this project's own.
use Rattle.std.specs.Prelude.{ℕ, ◌^◌, ◌==◌, ℤ, pos, ◌+ℤ◌, int_le, nat_le, ◌&&◌, ◌||◌, if◌then◌else◌, Option, Some, None, Result, Ok, Err}
use Rattle.interval.specs.declared.range.Range.{Range}
use Rattle.interval.specs.Ranges.{full}
use Rattle.reg_kinds.specs.declared.kind.ValuePointer.{ValuePointer}
use Rattle.reg_kinds.specs.declared.kind.Kind.{Kind}
use Rattle.reg_kinds.specs.declared.kind.Kind.TheVariants as kind
use Rattle.reg_kinds.specs.declared.facts.Facts.{Facts}
use Rattle.reg_kinds.specs.declared.reason.Reason.{Reason}
use Rattle.reg_kinds.specs.declared.reason.Reason.TheVariants.{OutsideValue, MaybeNull, HelperArgument, LengthUnbounded}
use Rattle.reg_kinds.specs.Reason.{and_then_ok}
use Rattle.reg_kinds.specs.Kinds.{kind_at}
use Rattle.reg_kinds.specs.Many.{stack_input, stack_filled, called_facts}
use Rattle.tagged_model.specs.declared.helper.Helper.{Helper}
use Rattle.tagged_model.specs.declared.helper.Helper.TheVariants.{LookUp, Update, Delete, LoadBytes}
use Rattle.tagged_model.specs.declared.shape.MapShape.{MapShape}
use Rattle.tagged_model.specs.Named.{Shapes}
use Rattle.transfer.specs.declared.calls.ShapedMap.{ShapedMap}
use Rattle.transfer.specs.Arithmetic.{check_readable}

-- the map of descriptor m with its shape; HelperArgument if the descriptor has no shape (None)
abbrev pub shaped : ℕ → Option MapShape → Result ShapedMap Reason
shaped m None = Err HelperArgument
shaped m (Some shape) = Ok (record { descriptor = m; shape = shape })

-- the map, with its shape, that an argument of this kind is; HelperArgument if the kind is not that
-- of a map, or its descriptor has no shape
abbrev pub argument_map : Shapes → Kind → Result ShapedMap Reason
argument_map shapes (kind.MapRef m) = shaped m (shapes m)
argument_map shapes k = Err HelperArgument

-- Ok if the n bytes that start `off` bytes from a pointer lie in its value, for each offset that it
-- may have; else OutsideValue, also if its descriptor has no shape (None)
abbrev pub check_in_value : ValuePointer → ℤ → ℕ → Option MapShape → Result (Unit {0}) Reason
check_in_value p off n None = Err OutsideValue
check_in_value p off n (Some shape) =
    if int_le (pos 0) (p.lo +ℤ off) && int_le ((p.hi +ℤ off) +ℤ pos n) (pos shape.value_size)
    then Ok tt
    else Err OutsideValue

-- Ok if a helper may read n bytes at an argument of this kind; or the first reason against it
abbrev pub input_kind : Shapes → Facts → ℕ → Kind → Result (Unit {0}) Reason
input_kind shapes f n (kind.Stack x) = stack_input f x n
input_kind shapes f n (kind.Value p) = check_in_value p (pos 0) n (shapes p.map)
input_kind shapes f n (kind.MaybeValue m site) = Err MaybeNull
input_kind shapes f n k = Err HelperArgument

-- the facts after a write of r.lo to r.hi bytes at an argument of this kind, or the first reason
-- against it; a write into the value of a map changes no fact
abbrev pub output_facts : Shapes → Facts → Range → Kind → Result Facts Reason
output_facts shapes f r (kind.Stack x) = stack_filled f x r.lo r.hi
output_facts shapes f r (kind.Value p) =
    and_then_ok (check_in_value p (pos 0) r.hi (shapes p.map)) (λ _. Ok f)
output_facts shapes f r (kind.MaybeValue m site) = Err MaybeNull
output_facts shapes f r k = Err HelperArgument

-- the range of an argument that a helper requires to be a number, from the kind of the argument. If
-- the kind is not that of a number, the error is HelperArgument, the reason to reject the program
abbrev pub number_range : Kind → Result Range Reason
number_range (kind.Scalar r) = Ok r
number_range k = Err HelperArgument

-- a length that is passed to a helper is below this, in bytes; the stack and values are much
-- shorter
abbrev pub lengths_end : ℕ
lengths_end = 2 ^ 29

-- the range of an argument that a helper requires to be a length, in bytes, from the argument's
-- kind. The error is HelperArgument if the kind is not that of a number. It is LengthUnbounded if a
-- number of the range is 0, since a call with that length is a fault (`length_given`), or is not
-- below `lengths_end`, 2 ^ 29. So an accepted length fits in 32 bits, as the code requires
abbrev pub length_range : Kind → Result Range Reason
length_range (kind.Scalar r) =
    if r.lo == 0 || nat_le lengths_end r.hi then Err LengthUnbounded else Ok r
length_range k = Err HelperArgument

-- Ok if the argument is the context, else HelperArgument
abbrev pub context_kind : Kind → Result (Unit {0}) Reason
context_kind kind.Ctx = Ok tt
context_kind k = Err HelperArgument

-- what `go` gives for the kinds of registers 1 and 2; UnreadableRegister if one may not be read
abbrev pub readable_two : Facts → (Kind → Kind → Result Facts Reason) → Result Facts Reason
readable_two f go =
    and_then_ok (check_readable (kind_at f 1))
    (λ a. and_then_ok (check_readable (kind_at f 2)) (λ b. go a b))

-- what `go` gives for the kinds of registers 1 to 4; UnreadableRegister if one may not be read
abbrev pub readable_four : Facts → (Kind → Kind → Kind → Kind → Result Facts Reason)
    → Result Facts Reason
readable_four f go =
    readable_two f
    (λ a b.
    and_then_ok (check_readable (kind_at f 3))
    (λ c. and_then_ok (check_readable (kind_at f 4)) (λ d. go a b c d)))

-- the kind of all 64-bit numbers
abbrev pub any_number : Kind
any_number = kind.Scalar (full 64)

-- the facts after a call at slot `at`, which is the site of a look-up, or the reason of the first
-- condition that fails. The arguments a to d, in registers 1 to 4, are a map, a key, and for Update
-- a value and flags; for LoadBytes the context, an offset in the packet, which may be any number,
-- the target and the length
abbrev pub call_facts : Shapes → ℕ → Helper → Facts → Result Facts Reason
call_facts shapes at LookUp f =
    readable_two f (λ a b.
    and_then_ok (argument_map shapes a) (λ m.
    and_then_ok (input_kind shapes f m.shape.key_size b) (λ _.
    Ok (called_facts f (kind.MaybeValue m.descriptor at)))))
call_facts shapes at Update f =
    readable_four f (λ a b c d.
    and_then_ok (argument_map shapes a) (λ m.
    and_then_ok (input_kind shapes f m.shape.key_size b) (λ _.
    and_then_ok (input_kind shapes f m.shape.value_size c) (λ _.
    and_then_ok (number_range d) (λ _.
    Ok (called_facts f any_number))))))
call_facts shapes at Delete f =
    readable_two f (λ a b.
    and_then_ok (argument_map shapes a) (λ m.
    and_then_ok (input_kind shapes f m.shape.key_size b) (λ _.
    Ok (called_facts f any_number))))
call_facts shapes at LoadBytes f =
    readable_four f (λ a b c d.
    and_then_ok (context_kind a) (λ _.
    and_then_ok (number_range b) (λ _.
    and_then_ok (length_range d) (λ r.
    and_then_ok (output_facts shapes f r c) (λ g.
    Ok (called_facts g any_number))))))
