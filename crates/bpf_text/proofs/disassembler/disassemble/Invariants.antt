-- `disassemble`: the text has the lines of the instructions that begin at the slots so far.
use Rattle.std.proofs.Common.{◌≡◌}
use Rattle.std.specs.String.{string_bytes}
use Rattle.insn_set.specs.Program.{begun_below}
use Rattle.bpf_text.specs.Printed.{printed}
use Rattle.bpf_text.proofs.disassembler.disassemble.Given as goal

abbrev pub invariant-loop-slot : goal.invariant-loop-slot
invariant-loop-slot l = string_bytes l.text ≡ printed (begun_below l.program l.slot)
