-- `labels`: without lines no label is defined. Each turn adds the definition on one more line, if it is the first of its label, by `note`
-- (`finds_more`), and the line's slots, at most two, by `line_slots`.
use Rattle.std.proofs.Common.{ℕ, ◌+◌, List, Bor, ap, ◌∙◌, arith}
use Rattle.std.specs.Map.{lookup}
use Rattle.std.specs.Str.{bytes_eq}
use Rattle.text_line.specs.Shown.{seen_option, seen_lines}
use Rattle.bpf_text.proofs.LabelLines.{finds_more, slots_more, none_found, no_slots, take_seen, length_seen}
use Rattle.bpf_text.specs.declared.assembler.LineStart.{LineStart}
use Rattle.bpf_text.proofs.assembler.labels.Goals as goal

abbrev start : ℕ → ℕ → LineStart
start line slot = record { line = line; slot = slot }

pub loop-index-init : goal.loop-index-init
loop-index-init c = record {
  finds = λ q.
      ap (λ (es : List (Bor (List ℕ) × LineStart)). lookup (λ k. bytes_eq q k.now) es) c.new-labels.ensures.empty
      ∙ none_found (seen_lines c.args.lines.now) q;
  slot = no_slots;
  bound = omega arith;
}

pub loop-index-preserved : goal.loop-index-preserved
loop-index-preserved c =
    let l = c.loop-index in
    let line = c.index-lines-index.result in
    let more = take_seen c.args.lines.now l.index line c.loop-index-test.true c.index-lines-index.is in
    let len = length_seen c.args.lines.now l.index c.loop-index-test.true in
    record {
      finds =
          finds_more (seen_lines c.args.lines.now) l.index (seen_option line) l.labels
          c.note.new.labels (record { line = l.index; slot = l.slot })
          more len l.invariant.finds
          (ap (λ (n : ℕ). start l.index n) l.invariant.slot)
          c.in_ok-note.ensures;
      slot =
          ap (λ (n : ℕ). l.slot + n) c.line_slots-slot.ensures.value
          ∙ slots_more (seen_lines c.args.lines.now) l.index (seen_option line) l.slot more l.invariant.slot;
      bound = omega (arith, c.line_slots-slot.ensures.bound);
    }
