-- Why hex lines are rejected: for one reason only.
use Rattle.std.proofs.Common.{◌≡◌, ◌⊎◌, ◌∙◌, ℕ, List, ap, sym, subst, inl, inr, IsUtf8}
use Rattle.bpf_text.specs.Fault.{memory_fault}
use Rattle.bpf_text.specs.HexText.{IsHexFault}
use Rattle.bpf_text.specs.declared.fault.TextFault.{TextFault}
use Rattle.insn_codec.specs.ProgramFault.{IsMemoryFault, IsProgramFault}
use Rattle.insn_codec.specs.declared.fault.CodecFault.{CodecFault}
use Rattle.host.specs.program.Failure.{codec_failure}
use Rattle.host.specs.program.Statuses.{text_failure}
use Rattle.host.specs.program.Texts.{IsProgramRefused, IsSlotText}
use Rattle.host.specs.inside.program.Rewriting.{IsNoProgramText, IsUnreadable}
use Rattle.host.specs.declared.program.failure.Failure.{Failure}
use Rattle.host.specs.declared.program.failure.Failure.TheVariants.{Memory}

-- ---- the lines

-- the fault of the lines is returned, or out of memory
pub lines_refused : (text : List ℕ) (fault : TextFault) → IsUtf8 text
    → ((own : TextFault) → IsHexFault text own → (fault ≡ own) ⊎ (fault ≡ memory_fault))
    → (refusal : Failure) → IsUnreadable text refusal → (text_failure fault ≡ refusal) ⊎ (text_failure fault ≡ Memory)
lines_refused text fault utf8 faulty refusal (inl none) = absurd (none.0 utf8)
lines_refused text fault utf8 faulty refusal (inr refused) =
    elim (faulty refused.fault refused.own) [
      | inl e ↦ inl (ap text_failure e ∙ sym refused.failure_is)
      | inr e ↦ inr (ap text_failure e)
    ]

-- lines without a fault are not rejected
pub lines_not_refused : (text : List ℕ)
    → IsUtf8 text
    → ((own : TextFault) → ¬ IsHexFault text own)
    → (refusal : Failure) → ¬ (IsUnreadable text refusal)
lines_not_refused text utf8 faultless refusal (inl none) = none.0 utf8
lines_not_refused text utf8 faultless refusal (inr refused) = faultless refused.fault refused.own

-- ---- their slots

slots_of : {input : List ℕ} {refusal : Failure} → (is : IsProgramRefused input refusal) → IsSlotText input is.bytes
slots_of is = record { utf8 = is.utf8; lines = is.slots }

-- if the lines are rejected, their rejection is returned, or out of memory
pub input_refused : (input : List ℕ) (failure : Failure)
    → ((refusal : Failure) → IsUnreadable input refusal → (failure ≡ refusal) ⊎ (failure ≡ Memory))
    → ((slots : List ℕ) → IsSlotText input slots → failure ≡ Memory)
    → (refusal : Failure) → IsNoProgramText input refusal
    → (failure ≡ refusal) ⊎ (failure ≡ Memory)
input_refused input failure lines memory refusal (inl unreadable) = lines refusal unreadable
input_refused input failure lines memory refusal (inr refused) = inr (memory refused.bytes (slots_of refused))

-- the fault of the slots is returned, or out of memory
pub slots_refused : (input slots : List ℕ) (fault : CodecFault)
    → ((refusal : Failure) → ¬ IsUnreadable input refusal)
    → ((other : List ℕ) → IsSlotText input other → slots ≡ other)
    → ((own : CodecFault) → IsProgramFault slots own → (fault ≡ own) ⊎ IsMemoryFault slots fault)
    → (refusal : Failure) → IsNoProgramText input refusal
    → (codec_failure fault ≡ refusal) ⊎ (codec_failure fault ≡ Memory)
slots_refused input slots fault readable one faulty refusal (inl unreadable) = absurd (readable refusal unreadable)
slots_refused input slots fault readable one faulty refusal (inr refused) =
    elim (faulty refused.fault
    (subst (λ bytes. IsProgramFault bytes refused.fault) (sym (one refused.bytes (slots_of refused))) refused.own)) [
      | inl e ↦ inl (ap codec_failure e ∙ sym refused.failure_is)
      | inr e ↦ inr (ap codec_failure e.1)
    ]

-- the slots of a program are not rejected
pub program_not_refused : (input slots : List ℕ) → ((refusal : Failure) → ¬ IsUnreadable input refusal)
    → ((other : List ℕ) → IsSlotText input other → slots ≡ other)
    → ((own : CodecFault) → ¬ (IsProgramFault slots own))
    → (refusal : Failure) → ¬ (IsNoProgramText input refusal)
program_not_refused input slots readable one faultless refusal (inl unreadable) = readable refusal unreadable
program_not_refused input slots readable one faultless refusal (inr refused) =
    faultless refused.fault
    (subst (λ bytes. IsProgramFault bytes refused.fault) (sym (one refused.bytes (slots_of refused))) refused.own)
