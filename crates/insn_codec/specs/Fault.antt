-- The fault of bytes that begin with no instruction: the lowest kind that applies, defined by the
-- grammar. RFC 9669 leaves it open what a machine does with such bytes; the kinds and their order
-- are this project's own.
use Rattle.std.specs.Prelude.{◌≡◌, ℕ, ◌≤◌, ◌<◌, List, slice_index, length, take}
use Rattle.insn_codec.specs.declared.fault.FaultKind.{FaultKind}
use Rattle.insn_codec.specs.declared.fault.FaultKind.TheVariants.{Opcode, Reserved, Register, SecondSlot, Ragged, Empty, TooLong, Memory}
use Rattle.insn_set.specs.declared.insn.Insn.{Insn}
use Rattle.insn_set.specs.Slot.{slot_bytes}
use Rattle.insn_set.specs.Spelling.{first, spelling, IsInsn, IsInsnUpTo, Begins}

-- the first byte is the opcode of an instruction
abbrev pub HasOpcode : List ℕ → Type 0
HasOpcode bytes = (i : Insn) × IsInsn i × (slice_index bytes 0 ≡ slice_index (spelling i) 0)

-- the first eight bytes are the first slot of an instruction, with registers from 0 to `top`
abbrev pub HasFirstSlot : ℕ → List ℕ → Type 0
HasFirstSlot top bytes = (i : Insn) × IsInsnUpTo top i × (take 8 bytes ≡ slot_bytes (first i))

-- the bytes begin with an instruction
abbrev pub HasInsn : List ℕ → Type 0
HasInsn bytes = (i : Insn) × IsInsn i × Begins i bytes

-- the bytes begin with no instruction, and this is the lowest kind of fault that applies. Reserved:
-- even with registers up to 15, the most that a field of four bits has room for (section 3.1), they
-- do not begin with a first slot. Register: they do, but not with registers up to 10. Empty,
-- TooLong and Memory are faults of whole programs, and never this one
abbrev pub HasFault : List ℕ → FaultKind → Type 0
HasFault bytes Ragged = length bytes < 8
HasFault bytes Opcode = (8 ≤ length bytes) × ¬ HasOpcode bytes
HasFault bytes Reserved = (8 ≤ length bytes) × HasOpcode bytes × ¬ HasFirstSlot 15 bytes
HasFault bytes Register = HasFirstSlot 15 bytes × ¬ HasFirstSlot 10 bytes
HasFault bytes SecondSlot = HasFirstSlot 10 bytes × ¬ HasInsn bytes
HasFault bytes _ = ⊥

-- ---- the kinds' numbers

-- the number of a kind of fault; the reason in the reply to a PROG_LOAD that has it is 100 more
abbrev pub fault_number : FaultKind → ℕ
fault_number Opcode = 1
fault_number Reserved = 2
fault_number Register = 3
fault_number SecondSlot = 4
fault_number Ragged = 5
fault_number Empty = 6
fault_number TooLong = 7
fault_number Memory = 8
