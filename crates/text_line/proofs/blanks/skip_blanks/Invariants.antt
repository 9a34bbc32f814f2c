-- `skip_blanks`: the line and the rest are equal without the blanks at their fronts, and each turn makes the rest shorter.
use Rattle.std.proofs.Common.{◌≡◌, length}
use Rattle.text_line.specs.Blanks.{skip_blanks}
use Rattle.text_line.proofs.blanks.skip_blanks.Given as goal

abbrev pub invariant-loop-first : goal.invariant-loop-first
invariant-loop-first l = skip_blanks l.line ≡ skip_blanks l.rest

abbrev pub decreases-loop-first : goal.decreases-loop-first
decreases-loop-first l = length l.rest
