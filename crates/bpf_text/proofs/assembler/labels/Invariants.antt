-- `labels`: `labels` has the first definition of each label on the lines so far, and `slot` is the number of their slots, at most two for
-- each line.
use Rattle.std.proofs.Common.{◌≡◌, ◌*◌, ◌≤◌, take}
use Rattle.text_line.specs.Shown.{seen_lines}
use Rattle.bpf_text.specs.Assembly.{slots_on}
use Rattle.bpf_text.specs.inside.Labels.{FindsLabels}
use Rattle.bpf_text.proofs.assembler.labels.Given as goal

abbrev pub invariant-loop-index : goal.invariant-loop-index
invariant-loop-index l = record {
  finds : FindsLabels (seen_lines l.lines) l.labels l.index;
  slot : l.slot ≡ slots_on (take l.index (seen_lines l.lines));
  bound : l.slot ≤ 2 * l.index;
}
