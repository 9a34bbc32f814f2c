-- The output of `verify` for its input. This project's own.
use Rattle.std.specs.Prelude.{◌≡◌, ℕ, List, [], ◌∷◌, ◌++◌, Option, Some, None, codes}
use Rattle.clap.specs.Words.{Text}
use Rattle.tagged_model.specs.declared.shape.Named.{Named}
use Rattle.verifier.specs.Judgement.{refusal_text}
use Rattle.verifier.specs.declared.refusal.Refusal.{Refusal}
use Rattle.host.specs.program.Judging.{IsJudgement}

-- the line that `verify` writes for a verdict, without its line feed. If the program is accepted,
-- there is no refusal (None), and the line is `accepted`. For a refusal it is `refused: slot S
-- reason N`, in decimal (`refusal_text`): S is the slot of the refusal, and N the number of its
-- cause (`cause_number`): that of the verifier's reason, or 100 plus that of the codec's fault
abbrev pub judgement_text : Option Refusal → Text
judgement_text None = codes "accepted"
judgement_text (Some refusal) = refusal_text refusal

-- the output is the line of this verdict on the input, with its line feed, 10
abbrev pub IsJudgementLine : List Named → Option Refusal → List ℕ → List ℕ → Type 0
IsJudgementLine maps refusal input output =
    IsJudgement maps input refusal × (output ≡ judgement_text refusal ++ 10 ∷ [])

-- the output is the line of a verdict on the input, accepted or rejected, with its line feed
abbrev pub IsLineOfAnyVerdict : List Named → List ℕ → List ℕ → Type 0
IsLineOfAnyVerdict maps input output =
    (refusal : Option Refusal) × IsJudgementLine maps refusal input output

-- the exit status of `verify` when it has written a verdict: 0 if the program is accepted (None), 1
-- if the slots are rejected
abbrev pub judgement_status : Option Refusal → ℕ
judgement_status None = 0
judgement_status (Some refusal) = 1
