-- `assembled`: by the contract of `assemble` a program of the input's text is the one returned, and a fault of the text is the one
-- returned, unless memory runs out. So an output of the input is the program's hex lines, and a text that is assembled has no fault.
use Rattle.std.proofs.Common.{◌≡◌, ◌⊎◌, ◌∙◌, ap, sym, rules}
use Rattle.bpf_text.specs.HexText.{hex_text}
use Rattle.insn_set.specs.Program.{program_bytes}
use Rattle.host.specs.program.Statuses.{text_failure}
use Rattle.host.specs.declared.program.failure.Failure.TheVariants.{Memory}
use Rattle.host.proofs.Rewriting.{said, refused_by_memory, refused_by_fault, not_refused}
use Rattle.host.proofs.program.texts.assembled.Goals as goal

pub returns-in_err-program-clause-only : goal.returns-in_err-program-clause-only
returns-in_err-program-clause-only c = λ output is.
    let memory : text_failure c.in_err-program.field-0.0 ≡ Memory =
    refused_by_memory c.args.input.now c.in_err-program.field-0.0 c.in_ok-text_in.ensures.0
    c.in_err-program.ensures.only output is in
    search rules

pub returns-in_err-program-clause-faulty : goal.returns-in_err-program-clause-faulty
returns-in_err-program-clause-faulty c = λ refusal refused.
    let seen : (text_failure c.in_err-program.field-0.0 ≡ refusal) ⊎ (text_failure c.in_err-program.field-0.0 ≡ Memory)
    =
    refused_by_fault c.args.input.now c.in_err-program.field-0.0 c.in_ok-text_in.ensures.0
    c.in_ok-text_in.ensures.1 c.in_err-program.ensures.faulty
    refusal refused in
    search rules

pub returns-clause-only : goal.returns-clause-only
returns-clause-only c = λ output is.
    c.in_ok-lines.ensures.text
    ∙ ap (λ insns. hex_text (program_bytes insns))
    (c.in_ok-program.ensures.only is.insns (said c.args.input.now output c.in_ok-text_in.ensures.0 is))
    ∙ sym is.lines

pub returns-clause-faulty : goal.returns-clause-faulty
returns-clause-faulty c = λ refusal refused.
    not_refused c.args.input.now c.in_ok-text_in.ensures.0 c.in_ok-text_in.ensures.1
    c.in_ok-program.ensures.faulty refusal refused
