-- `instruction`: on a line with an instruction, `resolve` returns the one that is written as the line's form, with the distance to the
-- label in `labels`, which `found` requires (`form_kept`).
use Rattle.std.proofs.Common.{◌≡◌, Some, rules}
use Rattle.text_line.specs.declared.form.Line.TheVariants.{Code}
use Rattle.bpf_text.proofs.Assembling.{form_kept}
use Rattle.bpf_text.proofs.assembler.instruction.Goals as goal

pub returns-in_ok-insn-in-Some-Code-clause-found : goal.returns-in_ok-insn-in-Some-Code-clause-found
returns-in_ok-insn-in-Some-Code-clause-found c =
    let w = c.in-Some-Code in
    let is : c.args.line.now ≡ Some (Code w.form w.label) = search rules in
    form_kept c.args.labels.now c.args.here.slot c.args.line.now w.form w.label
    c.definition_of_label-in-Some-Code.result c.in_ok-insn-in-Some-Code.insn
    is c.definition_of_label-in-Some-Code.ensures c.in_ok-insn-in-Some-Code.ensures.found
