-- The fault at the front of bytes, in the order in which the code looks for it. That it is the
-- fault of the grammar (`HasFault`) is proved. The fields are those of RFC 9669, sections 3 to 5;
-- the order is this project's own.
use Rattle.std.specs.Prelude.{◌≡◌, ℕ, Bool, ◌&&◌, ◌||◌, not, List, length, drop, Option, Some, None, nat_lt, nat_le, ◌==◌, if◌then◌else◌}
use Rattle.insn_set.specs.declared.slot.SlotFields.{SlotFields}
use Rattle.insn_codec.specs.inside.OpcodeForm.{OpcodeForm}
use Rattle.insn_codec.specs.inside.OpcodeForm as form
use Rattle.insn_codec.specs.declared.fault.FaultKind.{FaultKind}
use Rattle.insn_codec.specs.declared.fault.FaultKind.TheVariants.{Opcode, Reserved, Register, SecondSlot, Ragged}
use Rattle.insn_set.specs.Slot.{slot_of}
use Rattle.insn_codec.specs.inside.Form.{form_at, fields_allowed}

-- ---- the second slot of a wide instruction: RFC 9669, sections 3.2 and 5.4

-- whether this is the second slot of a wide load whose first slot has the source field `src`: all
-- fields are zero, but the immediate may be any number unless the load is of a map (source 1)
abbrev pub is_second : ℕ → SlotFields → Bool
is_second src next =
    next.opcode == 0 && (next.dst == 0 && next.src == 0) && next.offset == 0
    && (not (src == 1) || next.imm == 0)

-- the fault of the second slot, after a first slot of this form and source field. The second slot
-- is at the front of `rest`, the bytes after the first. None if it is allowed, or the form has one
-- slot
abbrev pub second_fault : OpcodeForm → ℕ → List ℕ → Option FaultKind
second_fault form.Wide src rest =
    if nat_lt (length rest) 8
    then Some SecondSlot
    else (if is_second src (slot_of rest) then None else Some SecondSlot)
second_fault _ src rest = None

-- ---- the first slot

-- the fault of a first slot of this form, with the bytes after it; None if an instruction begins
-- there
unfoldable pub fault_in_form : OpcodeForm → SlotFields → List ℕ → Option FaultKind
fault_in_form f s rest =
    if fields_allowed f s
    then (if nat_le s.dst 10 && nat_le s.src 10 then second_fault f s.src rest else Some Register)
    else Some Reserved

-- a first slot of this form has the fault, whatever bytes follow it
abbrev pub IsFaultOf : OpcodeForm → SlotFields → FaultKind → Type 0
IsFaultOf f s kind = (rest : List ℕ) → fault_in_form f s rest ≡ Some kind

-- the fault of an instruction's first slot s. The first argument is the form of its opcode, and
-- `rest` has the bytes after s. The fault is Opcode if the opcode has no form (None), else the
-- first of these that applies: Reserved (a field has a value that the form does not allow),
-- Register (a register is above 10), SecondSlot (the second slot of a wide instruction is missing,
-- or a field of it is not allowed). The result is None if an instruction begins at s
abbrev pub fault_by_form : Option OpcodeForm → SlotFields → List ℕ → Option FaultKind
fault_by_form None s rest = Some Opcode
fault_by_form (Some f) s rest = fault_in_form f s rest

-- a first slot whose opcode has this form has the fault, whatever bytes follow it; the fault is
-- Opcode if the opcode has no form (None)
abbrev pub IsFaultAt : Option OpcodeForm → SlotFields → FaultKind → Type 0
IsFaultAt o s kind = (rest : List ℕ) → fault_by_form o s rest ≡ Some kind

-- the fault at the front of the bytes; None if an instruction begins there
unfoldable pub first_fault : List ℕ → Option FaultKind
first_fault bytes =
    if nat_lt (length bytes) 8
    then Some Ragged
    else fault_by_form (form_at (slot_of bytes).opcode) (slot_of bytes) (drop 8 bytes)
