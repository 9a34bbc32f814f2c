-- The form of each opcode, and the values that its fields may have: RFC 9669, sections 4 and 5.
use Rattle.std.specs.Prelude.{ℕ, ◌/◌, ◌%◌, Bool, true, false, ◌&&◌, ◌||◌, Option, Some, None, is_some, nat_le, not, ◌==◌, if◌then◌else◌, option_and_then}
use Rattle.insn_set.specs.declared.slot.SlotFields.{SlotFields}
use Rattle.words.specs.declared.operator.AluOp.{AluOp}
use Rattle.words.specs.declared.operator.AluOp.TheVariants.{Div, Mod, Mov}
use Rattle.words.specs.Stack.{is_double}
use Rattle.insn_set.specs.Operator.{alu_offset}
use Rattle.insn_set.specs.OperatorRows.{alu_by_number}
use Rattle.insn_set.specs.LoadRows.{load_by_opcode}
use Rattle.words.specs.declared.operator.ByteOrder.TheVariants.{Little, Big, Swap}
use Rattle.words.specs.declared.stack.AccessSize.{AccessSize}
use Rattle.words.specs.declared.stack.AccessSize.TheVariants as size
use Rattle.insn_set.specs.declared.atomic.AtomicSize.TheVariants as atomic_size
use Rattle.insn_set.specs.ConditionRows.{condition_by_number}
use Rattle.insn_set.specs.AtomicRows.{atomic_by_number}
use Rattle.insn_codec.specs.declared.opcode.SourceBit.{SourceBit}
use Rattle.insn_codec.specs.declared.opcode.SourceBit.TheVariants.{Imm, Reg}
use Rattle.insn_codec.specs.inside.OpcodeForm.{OpcodeForm}
use Rattle.insn_codec.specs.inside.OpcodeForm as form

-- whether some opcode has this form; `read_operation` requires it of a form of arithmetic. No
-- opcode has the form of a signed division or remainder (`alu_offset` is 1, not 0): in a slot,
-- these have the opcode of the unsigned operator, and the offset field makes it signed (section
-- 4.1). No opcode has the form of a load of a double word that extends the sign (`signed`), since
-- there is no such instruction (section 5.2). Every other form has an opcode
abbrev pub is_form : OpcodeForm → Bool
is_form (form.Alu wide op source) = alu_offset op == 0
is_form (form.Load size signed) = not (signed && is_double size)
is_form _ = true

-- the access size with this code, two bits of an opcode: section 5
abbrev pub size_at : ℕ → AccessSize
size_at code =
    if code == 0
    then size.Word
    else (if code == 1 then size.Half else (if code == 2 then size.Byte else size.Double))

-- the form with code 8, a negation of 64 bits (wide) or 32, which has only source bit 0; None with
-- source bit 1: section 4.1
abbrev pub neg_at : Bool → SourceBit → Option OpcodeForm
neg_at wide Imm = Some (form.Neg wide)
neg_at wide Reg = None

-- the form with code 13, a byte-order conversion, in class ALU64 (true) or ALU (false): in ALU the
-- source bit selects the order; in ALU64 source bit 0 swaps, and source bit 1 has no form (None):
-- section 4.2
abbrev pub end_at : Bool → SourceBit → Option OpcodeForm
end_at false Imm = Some (form.End Little)
end_at false Reg = Some (form.End Big)
end_at true Imm = Some (form.End Swap)
end_at true Reg = None

-- the form with this source bit and code in class ALU64 (wide) or ALU; None if no instruction has
-- it
abbrev pub alu_at : Bool → SourceBit → ℕ → Option OpcodeForm
alu_at wide source code =
    if code == 8 then neg_at wide source else
    (if code == 13 then end_at wide source else
    option_and_then (λ op. Some (form.Alu wide op source)) (alu_by_number code))

-- the conditional jump whose condition has this code, on 64 bits (wide) or 32; None if no condition
-- has it: section 4.3
abbrev pub jump_by_condition : Bool → SourceBit → ℕ → Option OpcodeForm
jump_by_condition wide source code =
    option_and_then (λ c. Some (form.Jump wide c source)) (condition_by_number code)

-- the form with this source bit and code in class JMP (wide) or JMP32; None if no instruction has
-- it
abbrev pub jump_at : Bool → SourceBit → ℕ → Option OpcodeForm
jump_at wide Reg code = jump_by_condition wide Reg code
jump_at true Imm code =
    if code == 0 then Some form.Ja else
    (if code == 8 then Some form.Call else
    (if code == 9 then Some form.Exit else jump_by_condition true Imm code))
jump_at false Imm code = if code == 0 then Some form.Jal else jump_by_condition false Imm code

-- the form of a load with this opcode of class LDX; None if no load has it (sections 5.1 and 5.2).
-- The table has for an opcode whether the load extends the sign, and its size
abbrev pub load_at : ℕ → Option OpcodeForm
load_at opcode = option_and_then (λ l. Some (form.Load l.1 l.0)) (load_by_opcode opcode)

-- the form of a store with this opcode of class ST (`source` is Imm) or STX (Reg); None if no store
-- has it. The upper three bits are the mode MEM, 3, and the next two the size (section 5.1). The
-- class is not read from the opcode
abbrev pub store_at : ℕ → SourceBit → Option OpcodeForm
store_at opcode source =
    if opcode / 32 == 3 then Some (form.Store (size_at (opcode / 8 % 4)) source) else None

-- the form of an opcode of class STX: an atomic operation on four or eight bytes, or a store of a
-- register; None if no instruction has this opcode (sections 5.1 and 5.3)
abbrev pub register_store_at : ℕ → Option OpcodeForm
register_store_at opcode =
    if opcode == 0xc3 then Some (form.Atomic atomic_size.Word) else
    (if opcode == 0xdb then Some (form.Atomic atomic_size.Double) else store_at opcode Reg)

-- the source bit of an opcode of arithmetic or of a jump: section 4
abbrev pub source_at : ℕ → SourceBit
source_at opcode = if opcode / 8 % 2 == 0 then Imm else Reg

-- the form of an opcode, by its class, the low three bits (section 3.3); None if no instruction has
-- this opcode
unfoldable pub form_at : ℕ → Option OpcodeForm
form_at opcode =
    if opcode % 8 == 0 then (if opcode == 0x18 then Some form.Wide else None) else
    (if opcode % 8 == 1 then load_at opcode else
    (if opcode % 8 == 2 then store_at opcode Imm else
    (if opcode % 8 == 3 then register_store_at opcode else
    (if opcode % 8 == 4 then alu_at false (source_at opcode) (opcode / 16) else
    (if opcode % 8 == 5 then jump_at true (source_at opcode) (opcode / 16) else
    (if opcode % 8 == 6 then jump_at false (source_at opcode) (opcode / 16) else
    alu_at true (source_at opcode) (opcode / 16)))))))

-- whether the operand field that is not used is zero (section 4): the source register with source
-- bit Imm, the immediate with Reg
abbrev pub one_operand : SourceBit → SlotFields → Bool
one_operand Imm s = s.src == 0
one_operand Reg s = s.imm == 0

-- whether an operation of 64 bits (wide) or 32 with this operator's opcode may have this offset
-- (section 4.1). Of two operators with one opcode, the unsigned one is given. 0 is always allowed;
-- at 1 a division or a remainder is signed; 8, 16 or, if wide, 32 are the bits from which a move of
-- a register extends the sign
abbrev pub offset_listed : Bool → AluOp → SourceBit → ℕ → Bool
offset_listed wide Div source offset = nat_le offset 1
offset_listed wide Mod source offset = nat_le offset 1
offset_listed wide Mov Reg offset =
    offset == 0 || offset == 8 || offset == 16 || (wide && offset == 32)
offset_listed wide op source offset = offset == 0

-- whether each field of a first slot s has a value that its form allows; if not, the fault is
-- `Reserved`. A field that the form does not use is 0 (section 3.1); of the source register and the
-- immediate, `source` says which is used (`one_operand`). The offset of an operation (`Alu`) is 0;
-- or 1, by which a division or a remainder is signed; or 8, 16 or (on 64 bits) 32, by which a move
-- of a register extends the sign. The immediate of a byte-order conversion is 16, 32 or 64, that of
-- an atomic operation 0x00, 0x40, 0x50 or 0xa0. A register that is used is not tested here: above
-- 10 it has a fault of its own, `Register`. This project's own choice: of calls only those of
-- helpers by number (src 0), of wide loads only those of numbers, maps and values of maps (src 0 to
-- 2), of atomic operations only those without a fetch
abbrev pub fields_allowed : OpcodeForm → SlotFields → Bool
fields_allowed (form.Alu wide op source) s =
    one_operand source s && offset_listed wide op source s.offset
fields_allowed (form.Neg wide) s = s.src == 0 && s.offset == 0 && s.imm == 0
fields_allowed (form.End how) s =
    s.src == 0 && s.offset == 0 && (s.imm == 16 || s.imm == 32 || s.imm == 64)
fields_allowed form.Ja s = (s.dst == 0 && s.src == 0) && s.imm == 0
fields_allowed form.Jal s = (s.dst == 0 && s.src == 0) && s.offset == 0
fields_allowed (form.Jump wide cond source) s = one_operand source s
fields_allowed form.Call s = (s.dst == 0 && s.src == 0) && s.offset == 0
fields_allowed form.Exit s = (s.dst == 0 && s.src == 0) && s.offset == 0 && s.imm == 0
fields_allowed (form.Load size signed) s = s.imm == 0
fields_allowed (form.Store size source) s = one_operand source s
fields_allowed (form.Atomic size) s = is_some (atomic_by_number s.imm)
fields_allowed form.Wide s = s.offset == 0 && nat_le s.src 2
