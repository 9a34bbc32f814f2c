-- Runs on a known input.
use Rattle.std.proofs.Common.{◌≡◌, ◌∙◌, ◌++◌, ℕ, List, [], Option, Some, None, IfSome, Result, IfOk, ap, sym, subst, arith, append-nil}
use Rattle.std.proofs.lemmas.Result.{IfOk-weaker}
use Rattle.clap.specs.Words.{Text}
use Rattle.tagged_model.specs.declared.shape.Named.{Named}
use Rattle.host.specs.program.Judging.{Accepts, AcceptsIfKnown}
use Rattle.host.specs.inside.program.Judgements.{IsJudgementLine, judgement_status}
use Rattle.host.specs.program.Shapes.{AreMapArguments}
use Rattle.host.specs.inside.program.Rewriting.{WritesWholeOutput, ReadsWholeInput, Streams}
use Rattle.host.specs.program.Arguments.{Asked, Verifies}
use Rattle.verifier.specs.declared.refusal.Refusal.{Refusal}

-- a property of the bytes that were read is a property of the input
of_input : (P : List ℕ → Type 0) (before after : Option (List ℕ)) (input : List ℕ)
    → ReadsWholeInput before after input → P input → IfSome before P
of_input P None after input whole holds = tt
of_input P (Some bytes) None input whole holds = absurd whole.read
of_input P (Some bytes) (Some rest) input whole holds =
    subst P (sym (whole.read ∙ (ap (λ more. input ++ more) whole.end ∙ append-nil input))) holds

-- if a run of `verify` has the status of an accepted program, a known input has a program that is accepted
pub accepts_known : (arguments : List Text) (maps given : List Named) (refusal : Option Refusal)
    (old new : Streams)
    → AreMapArguments arguments maps → given ≡ maps
    → WritesWholeOutput (IsJudgementLine given refusal) old new
    → judgement_status refusal ≡ 0
    → AcceptsIfKnown arguments old.input
accepts_known arguments maps given None old new named same ended zero =
    of_input (Accepts arguments) old.input new.input ended.input ended.whole
    (record { maps = given; named = subst (AreMapArguments arguments) (sym same) named; judged = ended.made_so.0 })
accepts_known arguments maps given (Some refusal) old new named same ended zero = absurd (omega (arith, zero))

words_of : Option Asked → List Text
words_of (Some (Verifies arguments)) = arguments
words_of _ = []

-- what is known of acceptance with the given map arguments holds for those of the task, as they are the same
pub accepts_asked : (given : List Text) (seen : Option Asked) (input : Option (List ℕ)) {E : Type 0}
    (r : Result ℕ E)
    → seen ≡ Some (Verifies given)
    → IfOk r (λ status. status ≡ 0 → AcceptsIfKnown given input)
    → IfOk r (λ status. status ≡ 0 → (maps : List Text) → seen ≡ Some (Verifies maps) → AcceptsIfKnown maps input)
unfolding words_of
accepts_asked given seen input r is accepts =
    IfOk-weaker r _ _
    (λ status accepted zero maps other.
    subst (λ ws. AcceptsIfKnown ws input) (ap words_of (sym is ∙ other)) (accepted zero))
    accepts
