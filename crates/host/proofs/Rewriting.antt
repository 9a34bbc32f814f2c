-- The output of `asm` and `dis` for the text of a program, and why a text is rejected.
use Rattle.std.proofs.Common.{◌≡◌, ◌⊎◌, ◌∙◌, ℕ, List, ap, sym, subst, inl, inr, IsUtf8}
use Rattle.bpf_text.specs.Assembly.{IsAssembled, IsOwnFault}
use Rattle.bpf_text.specs.Fault.{memory_fault}
use Rattle.bpf_text.specs.declared.fault.TextFault.{TextFault}
use Rattle.insn_set.specs.declared.insn.Insn.{Insn}
use Rattle.host.specs.program.Statuses.{text_failure}
use Rattle.host.specs.inside.program.Rewriting.{IsAssembly, IsNoText, IsTextRefused}
use Rattle.host.specs.declared.program.failure.Failure.{Failure}
use Rattle.host.specs.declared.program.failure.Failure.TheVariants.{Memory}

-- the text assembles to the program of the output
pub said : {text : List ℕ} (input output : List ℕ)
    → text ≡ input → (is : IsAssembly input output) → IsAssembled text is.insns
said input output same is = subst (λ t. IsAssembled t is.insns) (sym same) is.program

-- the text of a program is rejected only if memory runs out
pub refused_by_memory : {text : List ℕ} (input : List ℕ) (fault : TextFault)
    → text ≡ input
    → ((insns : List Insn) → IsAssembled text insns → fault ≡ memory_fault)
    → (output : List ℕ) → IsAssembly input output
    → text_failure fault ≡ Memory
refused_by_memory input fault same only output is = ap text_failure (only is.insns (said input output same is))

-- the fault of the text is returned, or out of memory
pub refused_by_fault : {text : List ℕ} (input : List ℕ) (fault : TextFault)
    → text ≡ input → IsUtf8 input
    → ((own : TextFault) → IsOwnFault text own → (fault ≡ own) ⊎ (fault ≡ memory_fault))
    → (refusal : Failure) → IsNoText input refusal ⊎ IsTextRefused input refusal
    → (text_failure fault ≡ refusal) ⊎ (text_failure fault ≡ Memory)
refused_by_fault input fault same utf8 faulty refusal (inl none) = absurd (none.0 utf8)
refused_by_fault input fault same utf8 faulty refusal (inr refused) =
    elim (faulty refused.fault (subst (λ t. IsOwnFault t refused.fault) (sym same) refused.own)) [
      | inl e ↦ inl (ap text_failure e ∙ sym refused.failure_is)
      | inr e ↦ inr (ap text_failure e)
    ]

-- a text without a fault is not rejected
pub not_refused : {text : List ℕ} (input : List ℕ)
    → text ≡ input → IsUtf8 input
    → ((own : TextFault) → IsOwnFault text own → ⊥)
    → (refusal : Failure) → ¬ (IsNoText input refusal ⊎ IsTextRefused input refusal)
not_refused input same utf8 faultless refusal (inl none) = none.0 utf8
not_refused input same utf8 faultless refusal (inr refused) =
    faultless refused.fault (subst (λ t. IsOwnFault t refused.fault) (sym same) refused.own)
