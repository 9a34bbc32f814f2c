-- Slots have one judgement, and the slot of a rejection is one of them.
use Rattle.std.proofs.Common.{◌≡◌, ◌⊎◌, ◌∙◌, ℕ, ◌*◌, ◌<◌, ◌≤◌, List, length, Option, Some, None, Ok, Err, refl, sym, ap, ap₂, subst, inl, inr, arith}
use Rattle.std.proofs.lemmas.Bool.{cases_lt}
use Rattle.std.proofs.lemmas.Option.{none-some}
use Rattle.insn_set.specs.BeginLaws.{none_begins_past}
use Rattle.insn_set.specs.SpellingLaws.{length-program_bytes}
use Rattle.insn_set.specs.declared.insn.Insn.{Insn}
use Rattle.insn_set.specs.Program.{IsProgram, begins_at, program_bytes, slot_count}
use Rattle.insn_codec.specs.declared.fault.CodecFault.{CodecFault}
use Rattle.insn_codec.specs.ProgramFault.{length_fault, IsProgramFault}
use Rattle.reg_kinds.specs.declared.facts.Facts.{Facts}
use Rattle.reg_kinds.specs.declared.reason.Reason.{Reason}
use Rattle.tagged_model.specs.declared.shape.Named.{Named}
use Rattle.tagged_model.specs.Cells.{and_then}
use Rattle.verifier.specs.Before.{facts_before}
use Rattle.verifier.specs.Judgement.{refusal_of_slots, IsRefusedFor, Judges}
use Rattle.verifier.specs.Laws.{OneJudgement}
use Rattle.verifier.specs.Maps.{shapes_of}
use Rattle.verifier.specs.Shape.{structure_fault, shape_reason_at}
use Rattle.verifier.specs.Verdict.{IsAccepted, IsRefused, memory_fault, safety_fault}
use Rattle.verifier.specs.declared.fault.VerifyFault.{VerifyFault}
use Rattle.verifier.specs.declared.refusal.Cause.{Cause}
use Rattle.verifier.specs.declared.refusal.Cause.TheVariants.{Slots, Verdict}
use Rattle.verifier.specs.declared.refusal.Refusal.{Refusal}

-- ---- the slot of a rejection

shape_begins : (code : List Insn) (named : List Named) (n : ℕ) (why : Reason) (o : Option Insn)
    → shape_reason_at code named n o ≡ Some why → (i : Insn) × (o ≡ Some i)
shape_begins code named n why None e = absurd (none-some why e)
shape_begins code named n why (Some i) e = (i, refl)

safety_begins : (o : Option Insn) (known : Option Facts) (why : Reason) (f : Insn → Facts → Option Reason)
    → and_then known (λ k. and_then o (λ i. f i k)) ≡ Some why → (i : Insn) × (o ≡ Some i)
safety_begins None None why f e = absurd (none-some why e)
safety_begins None (Some k) why f e = absurd (none-some why e)
safety_begins (Some i) known why f e = (i, refl)

-- an instruction begins at the slot of a rejection
refused_begins : (code : List Insn) (named : List Named) (slot : ℕ) (why : Reason)
    → IsRefused code named slot why → (i : Insn) × (begins_at code slot ≡ Some i)
unfolding structure_fault safety_fault
refused_begins code named slot why (inl shape) = shape_begins code named slot why (begins_at code slot) shape.here
refused_begins code named slot why (inr safety) =
    safety_begins (begins_at code slot) (facts_before (shapes_of code named) code slot) why _ safety.1.here

-- the slot of a rejection is one of the program's slots
refused_within : (code : List Insn) (named : List Named) (slot : ℕ) (why : Reason)
    → IsRefused code named slot why → 8 * slot ≤ length (program_bytes code)
refused_within code named slot why is =
    let (i, begins) = refused_begins code named slot why is in
    let within : slot < slot_count code =
    elim (cases_lt slot (slot_count code)) [
      | inl lt ↦ lt
      | inr past ↦ absurd (none-some i (sym (none_begins_past code slot past) ∙ begins))
    ] in
    omega (arith, length-program_bytes code)

-- the slot of a rejection is one of those that were given, or their end
pub slot_within : (slots : List ℕ) (named : List Named) (code : List Insn) (fault : VerifyFault)
    → slots ≡ program_bytes code
    → (fault ≡ memory_fault) ⊎ IsRefused code named fault.slot fault.reason
    → 8 * fault.slot ≤ length slots
slot_within slots named code fault spelled (inl memory) = omega (arith, ap (λ (f : VerifyFault). f.slot) memory)
slot_within slots named code fault spelled (inr is) =
    omega (arith, ap length spelled, refused_within code named fault.slot fault.reason is)

-- ---- one judgement

abbrev OneProgram : Type 0
OneProgram = (a b : List Insn) → IsProgram a → IsProgram b → program_bytes a ≡ program_bytes b → a ≡ b

abbrev OneFault : Type 0
OneFault = (bytes : List ℕ) (a b : CodecFault) → IsProgramFault bytes a → IsProgramFault bytes b → a ≡ b

abbrev NoFault : Type 0
NoFault = (insns : List Insn) (fault : CodecFault) → IsProgram insns → ¬ IsProgramFault (program_bytes insns) fault

abbrev OneRefusal : Type 0
OneRefusal =
    (code : List Insn) (named : List Named) (m n : ℕ) (a b : Reason)
    → IsRefused code named m a
    → IsRefused code named n b
    → (m ≡ n) × (a ≡ b)

abbrev NotRefused : Type 0
NotRefused =
    (code : List Insn) (named : List Named) (slot : ℕ) (reason : Reason)
    → IsAccepted code named
    → ¬ IsRefused code named slot reason

-- the bytes of a program have no fault
spelled_no_fault : NoFault
    → (slots : List ℕ) (insns : List Insn) (fault : CodecFault) → IsProgram insns
    → slots ≡ program_bytes insns
    → ¬ IsProgramFault slots fault
spelled_no_fault none slots insns fault program spelled has =
    none insns fault program (subst (λ (bytes : List ℕ). IsProgramFault bytes fault) spelled has)

-- the bytes of a program are at most as many as a program may have
pub may_be_program : NoFault
    → (slots : List ℕ) (code : List Insn) → IsProgram code
    → slots ≡ program_bytes code
    → length_fault (length slots) ≡ None
may_be_program none slots code program spelled = by_length (length_fault (length slots)) refl
  where
    by_length : (o : Option CodecFault) → length_fault (length slots) ≡ o → length_fault (length slots) ≡ None
    by_length None is = is
    by_length (Some fault) is = absurd (spelled_no_fault none slots code fault program spelled (inl is))

not_both : OneProgram
    → NoFault → NotRefused
    → (named : List Named) (slots : List ℕ) (insns : List Insn) (slot : ℕ) (cause : Cause)
    → Judges named slots (Ok insns)
    → ¬ IsRefusedFor named slots slot cause
not_both one none accept named slots insns slot (Slots kind) (program, spelled, is) has =
    spelled_no_fault none slots insns _ program spelled has
not_both one none accept named slots insns slot (Verdict why) (program, spelled, is)
    (others, other, spelled_too, refused) =
    let same : others ≡ insns = one others insns other program (sym spelled_too ∙ spelled) in
    accept insns named slot why is (subst (λ (i : List Insn). IsRefused i named slot why) same refused)

abbrev refusal_at : ℕ → Cause → Refusal
refusal_at slot cause = record { slot = slot; cause = cause }

same_refusal : OneProgram
    → OneFault → NoFault
    → OneRefusal
    → (named : List Named) (slots : List ℕ) (m n : ℕ) (a b : Cause) → IsRefusedFor named slots m a
    → IsRefusedFor named slots n b
    → refusal_at m a ≡ refusal_at n b
same_refusal one fault none refusal named slots m n (Slots a) (Slots b) x y =
    ap refusal_of_slots (fault slots (record { slot = m; kind = a }) (record { slot = n; kind = b }) x y)
same_refusal one fault none refusal named slots m n (Slots a) (Verdict b) x (insns, program, spelled, is) =
    absurd (spelled_no_fault none slots insns _ program spelled x)
same_refusal one fault none refusal named slots m n (Verdict a) (Slots b) (insns, program, spelled, is) y =
    absurd (spelled_no_fault none slots insns _ program spelled y)
same_refusal one fault none refusal named slots m n (Verdict why_a) (Verdict why_b)
    (a, program_a, spelled_a, is_a) (b, program_b, spelled_b, is_b) =
    let same : b ≡ a = one b a program_b program_a (sym spelled_b ∙ spelled_a) in
    let both = refusal a named m n why_a why_b is_a (subst (λ (i : List Insn). IsRefused i named n why_b) same is_b) in
    ap₂ (λ (slot : ℕ) (why : Reason). refusal_at slot (Verdict why)) both.0 both.1

pub one_judgement_is : OneProgram → OneFault → NoFault → OneRefusal → NotRefused → OneJudgement
one_judgement_is one fault none refusal accept named slots (Ok a) (Ok b) x y = ap Ok (one a b x.0 y.0 (sym x.1 ∙ y.1))
one_judgement_is one fault none refusal accept named slots (Ok a) (Err r) x y =
    absurd (not_both one none accept named slots a r.slot r.cause x y)
one_judgement_is one fault none refusal accept named slots (Err r) (Ok b) x y =
    absurd (not_both one none accept named slots b r.slot r.cause y x)
one_judgement_is one fault none refusal accept named slots (Err r) (Err s) x y =
    ap Err (same_refusal one fault none refusal named slots r.slot s.slot r.cause s.cause x y)
