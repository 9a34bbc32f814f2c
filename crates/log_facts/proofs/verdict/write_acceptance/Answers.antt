-- `write_acceptance`: the line of the cost, by the contract of `write_cost`, and the line that `push_str` appends are the verdict.
use Rattle.std.proofs.Common.{◌≡◌, ◌∙◌, ap, ℕ, List, ◌++◌, Result, Ok, Err, OnOk, is_ok, if◌then◌else◌}
use Rattle.log_facts.specs.Said.{cost_line, accepted_line}
use Rattle.verifier.specs.declared.cost.Cost.{Cost}
use Rattle.log_facts.proofs.verdict.write_acceptance.Goals as goal

-- the line of the cost, and that of the acceptance after it, are a verdict
adds : {A E : Type 0} (r : Result A E) (cost : Cost) (old front new : List ℕ) → front ≡ old ++ cost_line cost
    → new ≡ (if is_ok r then front ++ accepted_line else front) → OnOk r (new ≡ old ++ cost_line cost ++ accepted_line)
adds (Ok _) cost old front new line end = end ∙ ap (λ bytes. bytes ++ accepted_line) line
adds (Err _) cost old front new line end = tt

pub returns : goal.returns
returns c = adds _ c.args.cost _ _ _ c.in_ok-write_cost.ensures c.push_str.ensures.bytes
