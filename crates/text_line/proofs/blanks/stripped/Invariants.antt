-- `stripped`: the line without the blanks at both ends is the rest without those at its end, and each turn makes the rest shorter.
use Rattle.std.proofs.Common.{◌≡◌, length, reverse}
use Rattle.text_line.specs.Blanks.{skip_blanks, stripped}
use Rattle.text_line.proofs.blanks.stripped.Given as goal

abbrev pub invariant-loop-last : goal.invariant-loop-last
invariant-loop-last l = stripped l.line ≡ reverse (skip_blanks (reverse l.rest))

abbrev pub decreases-loop-last : goal.decreases-loop-last
decreases-loop-last l = length l.rest
