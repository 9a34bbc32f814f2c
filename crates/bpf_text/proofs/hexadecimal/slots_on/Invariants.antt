-- `slots_on`: the bytes are those of the slots on the lines so far, none of these lines has a fault, and a program may have so many bytes.
use Rattle.std.proofs.Common.{◌≡◌, ◌*◌, ◌≤◌, length, take, map}
use Rattle.insn_set.specs.declared.TheConstants.{MAX_SLOTS}
use Rattle.bpf_text.specs.Fault.{NoneBelow}
use Rattle.bpf_text.specs.HexText.{hex_bytes, hex_fault_at}
use Rattle.bpf_text.proofs.hexadecimal.slots_on.Given as goal

abbrev pub invariant-loop-index : goal.invariant-loop-index
invariant-loop-index l = let lines = map (λ line. line.now) l.lines in record {
  below : NoneBelow (hex_fault_at lines) l.index;
  bytes : l.bytes.items ≡ hex_bytes (take l.index lines);
  room : length l.bytes.items ≤ 8 * MAX_SLOTS;
}
