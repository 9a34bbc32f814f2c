-- `note`, if the line defines a name without a definition: after `insert` this name has the new one, and each other name what it had
-- (`noted`).
use Rattle.std.proofs.Common.{◌≡◌, sym, ap, ◌∙◌, Some, None, false}
use Rattle.std.specs.Prelude.{is_some, not}
use Rattle.std.proofs.lemmas.Map.Text.{hash_map_updates_str}
use Rattle.text_line.specs.Shown.{seen_option}
use Rattle.bpf_text.specs.inside.Labels.{defined_label, definition_of}
use Rattle.bpf_text.proofs.LabelLines.{noted, none_copied}
use Rattle.bpf_text.proofs.assembler.note.Goals as goal

pub returns-in_ok-insert : goal.returns-in_ok-insert
returns-in_ok-insert c =
    let is : defined_label (seen_option c.args.line.now) ≡ Some c.in-Some.name.now = sym c.in-Some.ensures in
    let absent : is_some c.get.result ≡ false = c.is_none.ensures ∙ ap not c.if-is_none.true in
    let none : definition_of c.args.labels.now c.in-Some.name.now ≡ None =
    sym c.get.ensures.value ∙ none_copied c.get.result absent in
    noted c.args.labels.now c.insert.new.self c.args.definition c.in-Some.name.now (seen_option c.args.line.now) is none
    (λ q.
    hash_map_updates_str c.in-Some.name.now c.args.labels.now c.insert.new.self
    (Some c.args.definition) c.in_ok-insert.ensures.updates
    q)
