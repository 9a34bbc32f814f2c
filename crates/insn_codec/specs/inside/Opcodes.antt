-- The numbers of opcodes by the bit fields that a decoder takes apart: RFC 9669, sections 4 and 5.
use Rattle.std.specs.Prelude.{ℕ, ◌+◌}
use Rattle.insn_codec.specs.inside.OpcodeForm.{OpcodeForm}
use Rattle.insn_codec.specs.inside.OpcodeForm as form
use Rattle.insn_set.specs.Atomic.{access_size}
use Rattle.insn_set.specs.Numbers.{opcode, alu_class, jump_class, end_opcode, memory_opcode}
use Rattle.insn_set.specs.Operator.{alu_number}
use Rattle.insn_set.specs.Load.{load_opcode}
use Rattle.insn_set.specs.Condition.{condition_number}
use Rattle.insn_codec.specs.Spelled.{source_number}

-- the opcode of instructions of this form, computed by `opcode` from a code, a source bit and a
-- class, or by `memory_opcode` from a mode, a size and a class. Codes: 0 a jump without a
-- condition, 8 a negation or, in class JMP, a call, 9 the exit. Classes: 5 JMP, 6 JMP32, 2 a store
-- of a constant, 3 a store of a register or an atomic operation. Modes: 3 MEM, 6 ATOMIC. 0x18 is
-- the wide load. If `is_form` is false, no opcode has the form, and the result means nothing.
-- Functions that read one form, as `read_operation` of `by_class.rt`, require that the slot has
-- this opcode
abbrev pub opcode_of : OpcodeForm → ℕ
opcode_of (form.Alu wide op s) = opcode (alu_number op) (source_number s) (alu_class wide)
opcode_of (form.Neg wide) = opcode 8 0 (alu_class wide)
opcode_of (form.End how) = end_opcode how
opcode_of form.Ja = opcode 0 0 5
opcode_of form.Jal = opcode 0 0 6
opcode_of (form.Jump wide cond s) =
    opcode (condition_number cond) (source_number s) (jump_class wide)
opcode_of form.Call = opcode 8 0 5
opcode_of form.Exit = opcode 9 0 5
opcode_of (form.Load size signed) = load_opcode signed size
opcode_of (form.Store z s) = memory_opcode 3 z (2 + source_number s)
opcode_of (form.Atomic z) = memory_opcode 6 (access_size z) 3
opcode_of form.Wide = 0x18
