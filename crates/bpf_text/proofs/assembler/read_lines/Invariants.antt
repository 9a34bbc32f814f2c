-- `read_lines`: the result so far has the readings of the lines so far, in order.
use Rattle.std.proofs.Common.{take, map}
use Rattle.text_line.specs.Shown.{seen_lines}
use Rattle.bpf_text.specs.Assembly.{AreRead}
use Rattle.bpf_text.proofs.assembler.read_lines.Given as goal

abbrev pub invariant-loop-line : goal.invariant-loop-line
invariant-loop-line l = AreRead (map (λ line. line.now) (take l.line-index l.text)) (seen_lines l.lines.items)
