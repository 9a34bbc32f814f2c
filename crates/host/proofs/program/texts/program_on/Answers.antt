-- `program_on`: a fault of the input is one of its hex lines, which `slots_on` returns, or of their slots, which `read_program` returns,
-- unless memory runs out. If neither fails, the input has no fault.
use Rattle.std.proofs.Common.{◌≡◌, ◌⊎◌, ◌∙◌, rules}
use Rattle.host.specs.program.Failure.{codec_failure}
use Rattle.host.specs.declared.program.failure.Failure.TheVariants.{Memory}
use Rattle.host.proofs.HexRefusals.{input_refused, slots_refused, program_not_refused}
use Rattle.host.proofs.program.texts.program_on.Goals as goal

pub returns-in_err-slots-clause-faulty : goal.returns-in_err-slots-clause-faulty
returns-in_err-slots-clause-faulty c = λ refusal refused.
    let failure = c.in_err-slots.field-0.0 in
    let seen : (failure ≡ refusal) ⊎ (failure ≡ Memory)
    =
    input_refused c.args.input.now failure c.in_err-slots.ensures.faulty
    c.in_err-slots.ensures.only refusal refused in
    search rules

pub returns-in_err-program-clause-faulty : goal.returns-in_err-program-clause-faulty
returns-in_err-program-clause-faulty c = λ refusal refused.
    let fault = c.in_err-program.field-0.0 in
    let seen : (codec_failure fault ≡ refusal) ⊎ (codec_failure fault ≡ Memory)
    = slots_refused c.args.input.now c.deref.result.now fault c.in_ok-slots.ensures.faulty
    (λ other is. c.deref.ensures.value ∙ c.in_ok-slots.ensures.only other is) c.in_err-program.ensures.faulty
    refusal refused in
    search rules

pub returns-clause-faulty : goal.returns-clause-faulty
returns-clause-faulty c = λ refusal refused.
    program_not_refused c.args.input.now c.deref.result.now c.in_ok-slots.ensures.faulty
    (λ other is. c.deref.ensures.value ∙ c.in_ok-slots.ensures.only other is) c.in_ok-program.ensures.faulty
    refusal refused
