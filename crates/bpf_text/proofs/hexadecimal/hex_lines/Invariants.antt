-- `hex_lines`: the text so far and the hex lines of the bytes that are left are together those of the program. Each turn leaves fewer
-- bytes.
use Rattle.std.proofs.Common.{◌≡◌, ◌++◌, length}
use Rattle.std.specs.String.{string_bytes}
use Rattle.insn_set.specs.Program.{program_bytes}
use Rattle.bpf_text.specs.HexText.{hex_text}
use Rattle.bpf_text.proofs.hexadecimal.hex_lines.Given as goal

abbrev pub invariant-loop-rest : goal.invariant-loop-rest
invariant-loop-rest l = string_bytes l.text ++ hex_text l.rest ≡ hex_text (program_bytes l.program)

abbrev pub decreases-loop-rest : goal.decreases-loop-rest
decreases-loop-rest l = length l.rest
