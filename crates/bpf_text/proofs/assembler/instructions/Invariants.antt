-- `instructions`: the instructions and the number of slots are those of the lines so far, no line so far has a fault, and a program may
-- have so many slots.
use Rattle.text_line.specs.Shown.{seen_lines}
use Rattle.bpf_text.proofs.Assembling.{Goes}
use Rattle.bpf_text.proofs.assembler.instructions.Given as goal

abbrev pub invariant-loop-index : goal.invariant-loop-index
invariant-loop-index l = Goes l.labels (seen_lines l.lines) l.index l.slot l.insns.items
