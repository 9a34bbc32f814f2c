-- `program_of`: the lines that `read_lines` returns are well formed, as `instructions` requires (`all_formed`). A fault of `program` is
-- `Memory`, or `Empty`, which is the text's own, since no line has a fault and the lines have no slot (`no_slot_fault`).
use Rattle.std.proofs.Common.{◌≡◌, List, ℕ, Option, Bor, map, sym, ap, ◌∙◌, subst}
use Rattle.std.specs.List.{AllByRecursion}
use Rattle.std.proofs.lemmas.Result.{IfErr-weaker}
use Rattle.insn_set.specs.Program.{slot_count}
use Rattle.text_line.specs.declared.form.Line.{Line as CodeLine}
use Rattle.text_line.specs.Shown.{seen_lines}
use Rattle.bpf_text.specs.Assembly.{AreRead}
use Rattle.bpf_text.specs.Lines.{text_lines}
use Rattle.bpf_text.specs.inside.Labels.{IsNoneOrWellFormed}
use Rattle.bpf_text.proofs.Assembling.{all_formed, no_slot_fault}
use Rattle.bpf_text.proofs.assembler.program_of.Goals as goal

pub instructions-requires-clause-formed : goal.instructions-requires-clause-formed
instructions-requires-clause-formed c =
    subst (λ (ls : List (Option CodeLine)). AllByRecursion IsNoneOrWellFormed (seen_lines ls))
    (sym c.deref-3.ensures.value)
    (all_formed (map (λ line. line.now) c.deref.result.now) (seen_lines c.in_ok-lines.lines.items) c.in_ok-lines.ensures)

pub returns-clause-fault : goal.returns-clause-fault
returns-clause-fault c =
    let read : List (List ℕ) = map (λ (line : Bor (List ℕ)). line.now) c.deref.result.now in
    let same : read ≡ text_lines c.args.text.now =
    ap (map (λ (line : Bor (List ℕ)). line.now)) c.deref.ensures.value ∙ c.in_ok-text.ensures in
    let are : AreRead read (seen_lines c.deref-3.result.now) =
    subst (λ (ls : List (Option CodeLine)). AreRead read (seen_lines ls))
    (sym c.deref-3.ensures.value) c.in_ok-lines.ensures in
    IfErr-weaker c.program.result _ _
    (λ fault.
    no_slot_fault c.args.text.now read (seen_lines c.deref-3.result.now) c.deref-4.result.now fault
    same are c.in_ok-insns.ensures.none
    (ap slot_count c.deref-4.ensures.value ∙ c.in_ok-insns.ensures.count))
    c.program.ensures.refused
