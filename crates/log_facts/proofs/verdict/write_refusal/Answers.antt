-- `write_refusal`: the line of the fault, by the contract of `write_fault`, and `why`, which `push_str` appends, are the verdict.
use Rattle.std.proofs.Common.{◌≡◌, ◌∙◌, ap, ℕ, List, ◌++◌, Result, Ok, Err, OnOk, is_ok, if◌then◌else◌}
use Rattle.log_facts.specs.Said.{refusal_line}
use Rattle.verifier.specs.declared.fault.VerifyFault.{VerifyFault}
use Rattle.log_facts.proofs.verdict.write_refusal.Goals as goal

-- a line of a refusal, and more after it, are a verdict
adds : {A E : Type 0} (r : Result A E) (fault : VerifyFault) (old front why new : List ℕ)
    → front ≡ old ++ refusal_line fault
    → new ≡ (if is_ok r then front ++ why else front)
    → OnOk r ((more : List ℕ) × (new ≡ old ++ refusal_line fault ++ more))
adds (Ok _) fault old front why new line end = (why, end ∙ ap (λ bytes. bytes ++ why) line)
adds (Err _) fault old front why new line end = tt

pub returns : goal.returns
returns c = adds _ c.args.fault _ _ _ _ c.in_ok-write_fault.ensures c.push_str.ensures.bytes
