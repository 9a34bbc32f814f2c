-- The failure of the program for each fault of the codec. This project's own.
use Rattle.std.specs.Prelude.{ℕ}
use Rattle.insn_codec.specs.Fault.{fault_number}
use Rattle.insn_codec.specs.declared.fault.CodecFault.{CodecFault}
use Rattle.insn_codec.specs.declared.fault.FaultKind.{FaultKind}
use Rattle.insn_codec.specs.declared.fault.FaultKind.TheVariants as codec
use Rattle.host.specs.declared.program.failure.Failure.{Failure}
use Rattle.host.specs.declared.program.failure.Failure.TheVariants.{Slot, Memory}

-- the failure for a kind of fault at a slot of a program; that of out of memory has no slot
abbrev pub failure_at : ℕ → FaultKind → Failure
failure_at slot codec.Opcode = Slot slot (fault_number codec.Opcode)
failure_at slot codec.Reserved = Slot slot (fault_number codec.Reserved)
failure_at slot codec.Register = Slot slot (fault_number codec.Register)
failure_at slot codec.SecondSlot = Slot slot (fault_number codec.SecondSlot)
failure_at slot codec.Ragged = Slot slot (fault_number codec.Ragged)
failure_at slot codec.Empty = Slot slot (fault_number codec.Empty)
failure_at slot codec.TooLong = Slot slot (fault_number codec.TooLong)
failure_at slot codec.Memory = Memory

-- the failure for a fault of the codec, which has a slot and a kind
abbrev pub codec_failure : CodecFault → Failure
codec_failure found = failure_at found.slot found.kind
