-- What the text of a log says of the verdict, unless it is a graph. This project's own.
use Rattle.std.specs.Prelude.{◌≡◌, ◌⊎◌, ℕ, Bool, true, false, List, [], ◌∷◌, ◌++◌, Result, Ok, Err, codes}
use Rattle.std.specs.Fmt.{decimal}
use Rattle.insn_set.specs.declared.insn.Insn.{Insn}
use Rattle.tagged_model.specs.declared.shape.Named.{Named}
use Rattle.verifier.specs.declared.cost.Cost.{Cost}
use Rattle.verifier.specs.declared.fault.VerifyFault.{VerifyFault}
use Rattle.verifier.specs.Cost.{IsCostOf}
use Rattle.verifier.specs.Judgement.{refusal_of_program, refusal_text}
use Rattle.verifier.specs.Verdict.{IsRefused}

-- whole lines: no bytes, or bytes that end with a line feed, 10
abbrev pub AreLines : List ℕ → Type 0
AreLines bytes = (bytes ≡ []) ⊎ ((before : List ℕ) × (bytes ≡ before ++ 10 ∷ []))

-- the line `accepted`, with its line feed
abbrev pub accepted_line : List ℕ
accepted_line = codes "accepted" ++ 10 ∷ []

-- the line of what a program costs: `cost: instructions I, calls C`, in decimal
abbrev pub cost_line : Cost → List ℕ
cost_line cost =
    codes "cost: instructions "
    ++ (decimal cost.instructions ++ (codes ", calls " ++ (decimal cost.calls ++ 10 ∷ [])))

-- the first line of a refusal, with the slot and the number of the reason
abbrev pub refusal_line : VerifyFault → List ℕ
refusal_line fault = refusal_text (refusal_of_program fault) ++ 10 ∷ []

-- the text `new` is the text `old` and, after it, the verdict that is the first argument. For an
-- accepted program (Ok) this is the line `cost: instructions I, calls C` and the line `accepted`.
-- For a rejected one (Err) it is the line `refused: slot S reason N`, with the slot and the number
-- of the reason, and then a text `more`. Of `more` nothing is required; the log writes the reason
-- in words there
abbrev pub AddsVerdict : Result Cost VerifyFault → List ℕ → List ℕ → Type 0
AddsVerdict (Ok cost) old new = new ≡ old ++ cost_line cost ++ accepted_line
AddsVerdict (Err fault) old new = (more : List ℕ) × (new ≡ old ++ refusal_line fault ++ more)

-- the text is whole lines, and then this verdict
abbrev pub EndsInVerdict : Result Cost VerifyFault → List ℕ → Type 0
EndsInVerdict verdict text = (lines : List ℕ) × AreLines lines × AddsVerdict verdict lines text

-- the text ends in the verdict on the program: if the Boolean is true, with what the program costs;
-- if false, with the slot and the reason for which it is rejected
abbrev pub SaysVerdict : List Insn → List Named → Bool → List ℕ → Type 0
SaysVerdict code named true text = (cost : Cost) × IsCostOf cost code × EndsInVerdict (Ok cost) text
SaysVerdict code named false text =
    (fault : VerifyFault)
    × IsRefused code named fault.slot fault.reason
    × EndsInVerdict (Err fault) text
