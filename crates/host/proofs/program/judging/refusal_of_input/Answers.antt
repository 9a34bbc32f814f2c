-- `refusal_of_input`: an input has at most one list of slots (`slots_on`), and slots have at most one judgement (`one_judgement`), so any
-- judgement of the input is the one found. If the input has one and `slots_on` fails, memory ran out.
use Rattle.std.proofs.Common.{◌≡◌, ◌∙◌, Ok, Err, rules}
use Rattle.host.specs.declared.program.failure.Failure.TheVariants.{Memory}
use Rattle.host.proofs.Judgements.{memory_seen, one_verdict}
use Rattle.host.proofs.Results.{of_err, of_ok}
use Rattle.host.proofs.program.judging.refusal_of_input.Goals as goal

pub returns-in_err-slots-clause-only : goal.returns-in_err-slots-clause-only
returns-in_err-slots-clause-only c = λ refusal is.
    let seen : c.in_err-slots.field-0.0 ≡ Memory =
    memory_seen c.args.maps.now c.args.input.now c.in_err-slots.field-0.0 c.in_err-slots.ensures.only refusal is in
    search rules

pub returns-in-Ok-clause-only : goal.returns-in-Ok-clause-only
returns-in-Ok-clause-only c = λ refusal is.
    one_verdict c.one_judgement.ensures c.args.maps.now c.args.input.now c.deref.result.now
    (Ok c.in-Ok.field-0.code)
    (λ other text. c.deref.ensures.value ∙ c.in_ok-slots.ensures.only other text)
    (of_ok _ _ _ c.in-Ok.is c.in_ok-verify_slots.ensures.accepted) refusal is

pub returns-clause-only : goal.returns-clause-only
returns-clause-only c = λ refusal is.
    one_verdict c.one_judgement.ensures c.args.maps.now c.args.input.now c.deref.result.now
    (Err c.in-Err.refusal)
    (λ other text. c.deref.ensures.value ∙ c.in_ok-slots.ensures.only other text)
    (of_err _ _ _ c.in-Err.is c.in_ok-verify_slots.ensures.refused) refusal is
