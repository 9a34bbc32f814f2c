-- The ranges of numbers, and the labels as numbers. A number's range is that
-- of its field (RFC 9669, section 3.1); a label's distance is this project's own.
use Rattle.std.specs.Prelude.{ℕ, Bool, true, false, ◌&&◌, not, ℤ, Option, Some, None, is_some, nat_le, ◌==◌, if◌then◌else◌}
use Rattle.text_line.specs.declared.form.Number.{Number}
use Rattle.text_line.specs.declared.form.SourceOperand.{SourceOperand}
use Rattle.text_line.specs.declared.form.SourceOperand.TheVariants as source
use Rattle.text_line.specs.declared.form.JumpTarget.{JumpTarget}
use Rattle.text_line.specs.declared.form.JumpTarget.TheVariants as target
use Rattle.text_line.specs.declared.form.Operation.TheVariants as operation
use Rattle.text_line.specs.declared.form.Access.TheVariants as access
use Rattle.text_line.specs.declared.form.Address.{Address}
use Rattle.text_line.specs.declared.form.WideValue.TheVariants as value
use Rattle.text_line.specs.declared.form.Form.{Form}
use Rattle.text_line.specs.declared.form.Form.TheVariants as form
use Rattle.text_line.specs.Written.{number_of}

-- ---- ranges

-- the magnitude is at most the bound `most`; None is 2 ^ 64 or more, which no bound allows
abbrev pub is_at_most : ℕ → Option ℕ → Bool
is_at_most most None = false
is_at_most most (Some n) = nat_le n most

-- the number is in the range of a signed field of 32 bits, -2 ^ 31 to 2 ^ 31 - 1
abbrev pub imm_fits : Number → Bool
imm_fits n = is_at_most (if n.negative then 2147483648 else 2147483647) n.magnitude

-- the number is in the range of a signed field of 16 bits, -2 ^ 15 to 2 ^ 15 - 1
abbrev pub offset_fits : Number → Bool
offset_fits n = is_at_most (if n.negative then 32768 else 32767) n.magnitude

-- the number fits the unsigned field of 32 bits, 0 to 2 ^ 32 - 1, that has a wide load's offset in
-- a map's value; None, a number of 2 ^ 64 or more, does not
abbrev pub next_imm_fits : Option ℕ → Bool
next_imm_fits n = is_at_most 4294967295 n

-- whether the second operand of an instruction, or what a store writes, as a line of text has it,
-- fits its field in a slot. A constant n fits if it is -2 ^ 31 to 2 ^ 31 - 1, the range of a signed
-- field of 32 bits (`imm_fits`). A register r always fits (true): that its number is 0 to 10 is not
-- tested here, but required by `IsSource`
abbrev pub source_fits : SourceOperand → Bool
source_fits (source.Number n) = imm_fits n
source_fits (source.Reg r) = true

-- the number of a jump's target fits 16 bits, that of a long jump (`true`) 32; a label, which has
-- no number, fits
abbrev pub target_fits : Bool → JumpTarget → Bool
target_fits long (target.Number n) = if long then imm_fits n else offset_fits n
target_fits long target.Label = true

-- whether each number of a form is in the range of its field: 32 bits, signed, for a constant
-- operand, a descriptor, a helper's number, and the distance of a long jump; 16 bits, signed, for
-- any other distance and for the offset of an access; 32 bits, unsigned, for the offset in a map's
-- value. A label is no number, so it fits. The constant of a wide load fits unless it is 2 ^ 64 or
-- more (None). The last equation is for a negation, a sign extension, a byte-order conversion and
-- an exit, which have no number to test: the bits of an extension or a conversion are part of a
-- name, as `s32` or `le64`
abbrev pub form_fits : Form → Bool
form_fits (form.Operation wide dst (operation.Binary op src)) = source_fits src
form_fits (form.Jump long to) = target_fits long to
form_fits (form.Branch wide cond dst src to) = source_fits src && target_fits false to
form_fits (form.Access (access.Store size src) at) = source_fits src && offset_fits at.offset
form_fits (form.Access a at) = offset_fits at.offset
form_fits (form.WideLoad dst (value.Number n)) = is_some n
form_fits (form.WideLoad dst (value.MapFd fd)) = imm_fits fd
form_fits (form.WideLoad dst (value.MapValue fd off)) = imm_fits fd && next_imm_fits off
form_fits (form.Call id) = imm_fits id
form_fits _ = true

-- ---- labels, as numbers

-- whether a magnitude, the value of a number's digits without its sign, is 0: `normal` drops the
-- minus of such a number. None is 2 ^ 64 or more, so it is not 0
abbrev pub is_zero : Option ℕ → Bool
is_zero None = false
is_zero (Some n) = n == 0

-- the number without a minus before 0: -0 is 0, and an instruction is written without this minus
abbrev pub normal : Number → Number
normal n = record { negative = n.negative && not (is_zero n.magnitude); magnitude = n.magnitude }

-- the source operand of a form, with a constant -0 replaced by 0 (`normal`); any other constant,
-- and a register, is unchanged. A line may have -0, but no instruction has one: in that to which
-- the line assembles, the constant is 0
abbrev pub normal_source : SourceOperand → SourceOperand
normal_source (source.Number n) = source.Number (normal n)
normal_source (source.Reg r) = source.Reg r

-- the address, with 0 for the offset -0
abbrev pub normal_address : Address → Address
normal_address at = record { base = at.base; offset = normal at.offset }

-- the form with 0 for each number -0, which a text may have and a printed instruction has not. In
-- the order of the equations, -0 is replaced as the constant operand of an operation; as a constant
-- that is stored, and as the offset of this store; as the offset of any other access; as the
-- descriptor of a wide load of a map, or of an address in a map's value, whose offset `off` has no
-- sign; and as the number of a called helper. The last equation leaves every other form unchanged:
-- a jump and a conditional jump, in which `resolved` replaces both -0 and labels, and forms without
-- a signed number, such as an exit
abbrev pub normal_form : Form → Form
normal_form (form.Operation wide dst (operation.Binary op src)) =
    form.Operation wide dst (operation.Binary op (normal_source src))
normal_form (form.Access (access.Store size src) at) =
    form.Access (access.Store size (normal_source src)) (normal_address at)
normal_form (form.Access a at) = form.Access a (normal_address at)
normal_form (form.WideLoad dst (value.MapFd fd)) = form.WideLoad dst (value.MapFd (normal fd))
normal_form (form.WideLoad dst (value.MapValue fd off)) =
    form.WideLoad dst (value.MapValue (normal fd) off)
normal_form (form.Call id) = form.Call (normal id)
normal_form f = f

-- the target of a jump as a number: its own, without a minus before 0, or for a label the label's
-- distance in slots from the next slot
abbrev pub placed : ℤ → JumpTarget → JumpTarget
placed distance (target.Number n) = target.Number (normal n)
placed distance target.Label = target.Number (number_of distance)

-- the form with 0 for each number -0, and with this distance, in slots from the next slot, for its
-- label
abbrev pub resolved : ℤ → Form → Form
resolved distance (form.Jump long to) = form.Jump long (placed distance to)
resolved distance (form.Branch wide cond dst src to) =
    form.Branch wide cond dst (normal_source src) (placed distance to)
resolved distance f = normal_form f
