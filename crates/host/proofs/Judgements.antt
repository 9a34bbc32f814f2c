-- An input has one judgement.
use Rattle.std.proofs.Common.{◌≡◌, ℕ, List, Option, Some, None, Result, Ok, Err, ap, sym, subst}
use Rattle.insn_set.specs.declared.insn.Insn.{Insn}
use Rattle.tagged_model.specs.declared.shape.Named.{Named}
use Rattle.verifier.specs.Judgement.{Judges}
use Rattle.verifier.specs.Laws.{OneJudgement}
use Rattle.verifier.specs.declared.refusal.Refusal.{Refusal}
use Rattle.host.specs.program.Judging.{IsJudgement}
use Rattle.host.specs.program.Texts.{IsSlotText}
use Rattle.host.specs.declared.program.failure.Failure.{Failure}
use Rattle.host.specs.declared.program.failure.Failure.TheVariants.{Memory}

-- the reason for which slots with this judgement are rejected
abbrev pub refusal_in : Result (List Insn) Refusal → Option Refusal
refusal_in (Ok insns) = None
refusal_in (Err refusal) = Some refusal

-- the input has one list of slots, and these have one judgement
pub one_verdict : OneJudgement
    → (maps : List Named) (input slots : List ℕ) (seen : Result (List Insn) Refusal)
    → ((other : List ℕ) → IsSlotText input other → slots ≡ other)
    → Judges maps slots seen
    → (refusal : Option Refusal) → IsJudgement maps input refusal
    → refusal_in seen ≡ refusal
one_verdict one maps input slots seen only is None (other, insns, text, judged) =
    ap refusal_in
    (one maps slots seen (Ok insns) is (subst (λ bytes. Judges maps bytes (Ok insns)) (sym (only other text)) judged))
one_verdict one maps input slots seen only is (Some refusal) (other, text, judged) =
    ap refusal_in
    (one maps slots seen (Err refusal) is
    (subst (λ bytes. Judges maps bytes (Err refusal)) (sym (only other text)) judged))

-- if the slots of the input are not returned, memory ran out
pub memory_seen : (maps : List Named) (input : List ℕ) (failure : Failure)
    → ((slots : List ℕ) → IsSlotText input slots → failure ≡ Memory)
    → (refusal : Option Refusal) → IsJudgement maps input refusal
    → failure ≡ Memory
memory_seen maps input failure memory None (slots, insns, text, judged) = memory slots text
memory_seen maps input failure memory (Some refusal) (slots, text, judged) = memory slots text
