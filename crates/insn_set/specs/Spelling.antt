-- The bytes that spell an instruction: its one or two slots, RFC 9669, sections 3.1 and 3.2; its
-- fields, sections 4 and 5.
use Rattle.std.specs.Prelude.{◌≡◌, ℕ, ◌+◌, ◌/◌, ◌%◌, ◌^◌, ◌==◌, ◌<◌, ◌≤◌, Bool, List, [], ◌∷◌, length, take, FitsSigned}
use Rattle.std.specs.List.{flat_map}
use Rattle.std.specs.Int.{w16, w32}
use Rattle.insn_set.specs.declared.slot.SlotFields.{SlotFields}
use Rattle.insn_set.specs.declared.insn.Operand.{Operand}
use Rattle.insn_set.specs.declared.insn.Operand.TheVariants.{Imm, Reg}
use Rattle.insn_set.specs.declared.insn.Insn.{Insn}
use Rattle.insn_set.specs.declared.insn.Insn.TheVariants.{Alu, Movsx, Neg, End, Ja, Jal, Jump, Call, Exit, Load, Store, Atomic, Const, MapFd, MapValue}
use Rattle.insn_set.specs.Slot.{slot, slot_bytes}
use Rattle.insn_set.specs.Atomic.{access_size, atomic_number}
use Rattle.insn_set.specs.Numbers.{opcode, alu_class, jump_class, end_opcode, load_mode, memory_opcode, offset_bits, imm_bits}
use Rattle.insn_set.specs.Condition.{condition_number}
use Rattle.insn_set.specs.Operator.{alu_number, alu_offset}
use Rattle.words.specs.Operate.{extended_bits, kept_bits}

-- ---- the second operand, section 4: the source bit, and the field that it selects

-- the source bit that an instruction has for its source operand: 0 for a constant n, 1 for a
-- register r. It is a bit of the opcode of arithmetic and of a conditional jump (section 4). The
-- opcode of a store has no such bit, but its class is 2 plus this number: 2 is ST, 3 is STX
-- (section 3.3)
abbrev pub source_bit : Operand → ℕ
source_bit (Imm n) = 0
source_bit (Reg r) = 1

-- the source field of an instruction's first slot, by this operand, the second of arithmetic or of
-- a conditional jump, or what a store stores: 0 if the operand is a constant (`Imm n`), which is in
-- the immediate field, or the number r of the register (`Reg r`) (section 3.1)
abbrev pub src_field : Operand → ℕ
src_field (Imm n) = 0
src_field (Reg r) = r

-- the immediate field of the slot of an operation, a conditional jump or a store, by its operand:
-- the second one, or what the store writes. For a constant n it is the 32 bits of n in two's
-- complement, as an unsigned number (`imm_bits`). For a register r it is 0, since r is in the
-- source field (section 3.1)
abbrev pub imm_field : Operand → ℕ
imm_field (Imm n) = imm_bits n
imm_field (Reg r) = 0

-- ---- the grammar: one case for each form, section 4 (arithmetic, jumps) and section 5 (loads,
-- stores, atomic operations)

-- an instruction's first slot, by the arguments of `slot`: opcode, destination, source, offset and
-- immediate; a field that is not used is 0. `opcode` makes an opcode from a code, a source bit (0
-- for a constant, 1 for a register) and a class (`alu_class`: ALU or ALU64; 5 is JMP, 6 is JMP32).
-- In ALU and ALU64, code 11 is a move, also one with sign extension, whose number of bits is in the
-- offset, and 8 a negation. In JMP, 8 is a call, and 9 the exit. In JMP and JMP32, 0 is a jump
-- without a condition, its distance in the offset (JMP) or immediate (JMP32). A signed division or
-- remainder has 1 in the offset (`alu_offset`). A byte-order conversion has its number of bits in
-- the immediate.
-- `memory_opcode` makes an opcode from a mode (3 is MEM, 6 is ATOMIC; `load_mode`: MEM, or MEMSX
-- with sign extension), a size and a class (1 is LDX; 2 is ST, of a constant; 3 is STX, of a
-- register). An atomic operation has its operator in the immediate. A wide load (0x18) has source 0
-- for a number, whose low half is the immediate; 1 for a map, 2 for the address of a byte in a
-- map's first value, both with the map's descriptor as immediate
abbrev pub first : Insn → SlotFields
first (Alu wide op dst src) =
    slot (opcode (alu_number op) (source_bit src) (alu_class wide)) dst (src_field src)
    (alu_offset op) (imm_field src)
first (Movsx m) = slot (opcode 11 1 (alu_class m.wide)) m.dst m.src (extended_bits m.bits) 0
first (Neg wide dst) = slot (opcode 8 0 (alu_class wide)) dst 0 0 0
first (End how width dst) = slot (end_opcode how) dst 0 0 (kept_bits width)
first (Ja off) = slot (opcode 0 0 5) 0 0 (offset_bits off) 0
first (Jal off) = slot (opcode 0 0 6) 0 0 0 (imm_bits off)
first (Jump wide cond dst src off) =
    slot (opcode (condition_number cond) (source_bit src) (jump_class wide)) dst (src_field src)
    (offset_bits off) (imm_field src)
first (Call id) = slot (opcode 8 0 5) 0 0 0 (imm_bits id)
first Exit = slot (opcode 9 0 5) 0 0 0 0
first (Load l) =
    slot (memory_opcode (load_mode l.signed) l.size 1) l.dst l.src (offset_bits l.off) 0
first (Store s dst src off) =
    slot (memory_opcode 3 s (2 + source_bit src)) dst (src_field src) (offset_bits off)
    (imm_field src)
first (Atomic size op dst src off) =
    slot (memory_opcode 6 (access_size size) 3) dst src (offset_bits off) (atomic_number op)
first (Const dst value) = slot 0x18 dst 0 0 (value % 2 ^ 32)
first (MapFd dst fd) = slot 0x18 dst 1 0 (imm_bits fd)
first (MapValue dst fd off) = slot 0x18 dst 2 0 (imm_bits fd)

-- an instruction's second slot, in a list of one, if the instruction is a wide load (RFC 9669,
-- section 5.4). The arguments of `slot` are opcode, destination, source, offset and immediate. All
-- are 0 except the immediate: it is the high 32 bits of a number `value`; 0 for a map; for the
-- address of a byte in a map's first value, the byte's offset `off`. The list is empty for any
-- other instruction (`_`), which has one slot
abbrev pub second : Insn → List SlotFields
second (Const dst value) = slot 0 0 0 0 (value / 2 ^ 32) ∷ []
second (MapFd dst fd) = slot 0 0 0 0 0 ∷ []
second (MapValue dst fd off) = slot 0 0 0 0 off ∷ []
second _ = []

-- an instruction's one or two slots
abbrev pub slots : Insn → List SlotFields
slots i = first i ∷ second i

-- whether an instruction takes two slots: section 3.2
abbrev pub has_two_slots : Insn → Bool
has_two_slots i = length (slots i) == 2

-- an instruction's bytes: eight, or sixteen if it takes two slots
unfoldable pub spelling : Insn → List ℕ
spelling i = flat_map slot_bytes (slots i)

-- ---- the values of the type: numbers in the ranges of their fields, section 3.1

-- the operand fits its field, with registers from 0 to `top`: there are eleven (top 10), and a
-- field of four bits has room for sixteen (top 15)
abbrev pub IsOperandUpTo : ℕ → Operand → Type 0
IsOperandUpTo top (Imm n) = FitsSigned w32 n
IsOperandUpTo top (Reg r) = r ≤ top

-- the numbers of an instruction fit their fields, with registers from 0 to `top`: 10, the last
-- register, or 15, the most that a field of four bits has room for
abbrev pub IsInsnUpTo : ℕ → Insn → Type 0
IsInsnUpTo top (Alu wide op dst src) = (dst ≤ top) × IsOperandUpTo top src
IsInsnUpTo top (Movsx m) = (m.dst ≤ top) × (m.src ≤ top)
IsInsnUpTo top (Neg wide dst) = dst ≤ top
IsInsnUpTo top (End how width dst) = dst ≤ top
IsInsnUpTo top (Ja off) = FitsSigned w16 off
IsInsnUpTo top (Jal off) = FitsSigned w32 off
IsInsnUpTo top (Jump wide cond dst src off) =
    (dst ≤ top) × IsOperandUpTo top src × FitsSigned w16 off
IsInsnUpTo top (Call id) = FitsSigned w32 id
IsInsnUpTo top Exit = Unit {0}
IsInsnUpTo top (Load l) = (l.dst ≤ top) × (l.src ≤ top) × FitsSigned w16 l.off
IsInsnUpTo top (Store s dst src off) = (dst ≤ top) × IsOperandUpTo top src × FitsSigned w16 off
IsInsnUpTo top (Atomic size op dst src off) = (dst ≤ top) × (src ≤ top) × FitsSigned w16 off
IsInsnUpTo top (Const dst value) = (dst ≤ top) × (value < 2 ^ 64)
IsInsnUpTo top (MapFd dst fd) = (dst ≤ top) × FitsSigned w32 fd
IsInsnUpTo top (MapValue dst fd off) = (dst ≤ top) × FitsSigned w32 fd × (off < 2 ^ 32)

-- the operand fits its field, with the registers that exist: 0 to 10, section 3.1
abbrev pub IsOperand : Operand → Type 0
IsOperand o = IsOperandUpTo 10 o

-- the numbers of an instruction fit their fields, with the registers that exist: 0 to 10
abbrev pub IsInsn : Insn → Type 0
IsInsn i = IsInsnUpTo 10 i

-- the bytes begin with the bytes of the instruction (`spelling`)
abbrev pub Begins : Insn → List ℕ → Type 0
Begins i bytes = take (length (spelling i)) bytes ≡ spelling i
