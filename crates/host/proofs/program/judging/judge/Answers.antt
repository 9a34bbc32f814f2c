-- `judge`: if `refusal_of_input` fails, its failure is one of the input, which was read whole, and nothing is written. If the write fails,
-- the line is, by the contracts of `refusal_of_input` and `verdict_line`, that of a verdict on this input.
use Rattle.std.proofs.Common.{◌≡◌, ◌⊎◌, refl, subst, rules, string_bytes, inl, inr}
use Rattle.host.specs.inside.program.Judgements.{IsLineOfAnyVerdict, IsJudgementLine}
use Rattle.host.specs.inside.program.Rewriting.{IsUnreadable}
use Rattle.host.specs.declared.program.failure.Failure.TheVariants.{Memory}
use Rattle.host.proofs.Results.{passed_on}
use Rattle.host.proofs.program.judging.judge.Goals as goal

pub returns-in_err-refusal-clause-fault : goal.returns-in_err-refusal-clause-fault
returns-in_err-refusal-clause-fault g c =
    let failure = c.in_err-refusal.field-0.0 in
    let why : (failure ≡ Memory) ⊎ IsUnreadable c.in_ok-input.input.items failure
    =
    subst (λ input. (failure ≡ Memory) ⊎ IsUnreadable input failure) c.deref.ensures.value
    c.in_err-refusal.ensures.fault in
    passed_on c.from_residual-in_err-refusal.result failure _ c.from_residual-in_err-refusal.ensures.1
    (inr (inl (record {
      input = c.in_ok-input.input.items;
      whole = c.in_ok-input.ensures.input;
      why = why;
      silent = (refl, refl);
      sound = c.in_ok-input.ensures.sound;
    })))

pub returns-clause-fault : goal.returns-clause-fault
returns-clause-fault g c =
    let line :
    IsJudgementLine c.args.maps.now c.in_ok-refusal.refusal c.in_ok-input.input.items (string_bytes c.in_ok-line.line) =
    search rules in
    let made : IsLineOfAnyVerdict c.args.maps.now c.in_ok-input.input.items (string_bytes c.in_ok-line.line) = (
      c.in_ok-refusal.refusal,
      line,
    ) in
    search rules
