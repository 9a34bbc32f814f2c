-- The verdict at the end of a log is the verdict of the pass.
use Rattle.std.proofs.Common.{◌≡◌, ℕ, Bool, true, false, List, Result, Ok, Err, is_ok, inl, inr, true≢false}
use Rattle.std.proofs.lemmas.Bool.{false≢true}
use Rattle.insn_set.specs.declared.insn.Insn.{Insn}
use Rattle.log_facts.specs.Known.{IsJudged}
use Rattle.log_facts.specs.Said.{EndsInVerdict, SaysVerdict}
use Rattle.log_facts.specs.declared.recorder.KnownFacts.{KnownFacts}
use Rattle.tagged_model.specs.declared.shape.Named.{Named}
use Rattle.verifier.specs.declared.cost.Cost.{Cost}
use Rattle.verifier.specs.declared.fault.VerifyFault.{VerifyFault}

-- a text that ends with the verdict of the pass has the verdict on the program
pub says_verdict : (code : List Insn) (named : List Named) (known : List KnownFacts)
    (verdict : Result Cost VerifyFault) (is_accepted : Bool) (text : List ℕ)
    → is_accepted ≡ is_ok verdict → IsJudged code named known verdict
    → EndsInVerdict verdict text
    → SaysVerdict code named is_accepted text
says_verdict code named known (Ok cost) true text is judged ends = (cost, judged.1, ends)
says_verdict code named known (Ok cost) false text is judged ends = absurd (false≢true is)
says_verdict code named known (Err fault) true text is judged ends = absurd (true≢false is)
says_verdict code named known (Err fault) false text is (inl misshapen) ends = (fault, inl misshapen.0, ends)
says_verdict code named known (Err fault) false text is (inr unsafe) ends = (fault, inr (unsafe.0, unsafe.1), ends)
