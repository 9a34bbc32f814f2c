-- `slots_on`: since the input is UTF-8 (`text_in`), a fault of it is one of its lines, which `from_hex_lines` returns unless memory runs
-- out. If it returns slots, the input has no fault.
use Rattle.std.proofs.Common.{◌≡◌, ◌⊎◌, subst, sym, rules, IsUtf8}
use Rattle.host.specs.program.Statuses.{text_failure}
use Rattle.host.specs.inside.program.Rewriting.{IsUnreadable}
use Rattle.host.specs.declared.program.failure.Failure.TheVariants.{Memory}
use Rattle.host.proofs.HexRefusals.{lines_refused, lines_not_refused}
use Rattle.host.proofs.program.texts.slots_on.Goals as goal

pub returns-in_err-slots-clause-faulty : goal.returns-in_err-slots-clause-faulty
returns-in_err-slots-clause-faulty c = λ refusal refused.
    let same = sym c.in_ok-text_in.ensures.0 in
    let fault = c.in_err-slots.field-0.0 in
    let seen : (text_failure fault ≡ refusal) ⊎ (text_failure fault ≡ Memory)
    =
    lines_refused c.in_ok-text_in.field-0.now fault
    (subst IsUtf8 same c.in_ok-text_in.ensures.1) c.in_err-slots.ensures.faulty
    refusal
    (subst (λ text. IsUnreadable text refusal) same refused) in
    search rules

pub returns-clause-faulty : goal.returns-clause-faulty
returns-clause-faulty c = λ refusal refused.
    let same = sym c.in_ok-text_in.ensures.0 in
    lines_not_refused c.in_ok-text_in.field-0.now (subst IsUtf8 same c.in_ok-text_in.ensures.1)
    c.in_ok-slots.ensures.faulty refusal
    (subst (λ text. IsUnreadable text refusal) same refused)
