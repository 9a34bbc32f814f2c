-- A program has one verdict.
use Rattle.std.proofs.Common.{◌≡◌, ℕ, inl, inr, List, Option, Some, None, sym, ap, ◌∙◌}
use Rattle.std.proofs.lemmas.Bool.{cases_order}
use Rattle.insn_set.specs.declared.insn.Insn.{Insn}
use Rattle.reg_kinds.specs.declared.reason.Reason.{Reason}
use Rattle.tagged_model.specs.declared.shape.Named.{Named}
use Rattle.verifier.specs.Shape.{structure_fault}
use Rattle.verifier.specs.Maps.{shapes_of}
use Rattle.verifier.specs.Verdict.{IsFirstFault, HasNoFault, IsAccepted, IsRefused, safety_fault}

not_both : (o : Option Reason) (a : Reason) → o ≡ Some a → o ≡ None → ⊥
not_both o a some none = cc

same_reason : (o : Option Reason) (a b : Reason) → o ≡ Some a → o ≡ Some b → a ≡ b
same_reason o a b p q = cc

no_first : (fault_at : ℕ → Option Reason) (n : ℕ) (a : Reason) → HasNoFault fault_at → IsFirstFault fault_at n a → ⊥
no_first fault_at n a none first = not_both (fault_at n) a first.here (none n)

one_first : (fault_at : ℕ → Option Reason) (m n : ℕ) (a b : Reason)
    → IsFirstFault fault_at m a → IsFirstFault fault_at n b → (m ≡ n) × (a ≡ b)
one_first fault_at m n a b p q =
    elim (cases_order m n) [
      | inl same ↦ (same, same_reason (fault_at n) a b (ap fault_at (sym same) ∙ p.here) q.here)
      | inr (inl lower) ↦ absurd (not_both (fault_at m) a p.here (q.below m lower))
      | inr (inr higher) ↦ absurd (not_both (fault_at n) b q.here (p.below n higher))
    ]

-- a program is rejected at one slot and for one reason only
pub one_verdict : (code : List Insn) (named : List Named) (m n : ℕ) (a b : Reason)
    → IsRefused code named m a → IsRefused code named n b → (m ≡ n) × (a ≡ b)
one_verdict code named m n a b (inl p) (inl q) = one_first (structure_fault code named) m n a b p q
one_verdict code named m n a b (inl p) (inr q) = absurd (no_first (structure_fault code named) m a q.0 p)
one_verdict code named m n a b (inr p) (inl q) = absurd (no_first (structure_fault code named) n b p.0 q)
one_verdict code named m n a b (inr p) (inr q) = one_first (safety_fault (shapes_of code named) code) m n a b p.1 q.1

-- an accepted program is not rejected
pub not_refused : (code : List Insn) (named : List Named) (slot : ℕ) (reason : Reason)
    → IsAccepted code named → IsRefused code named slot reason → ⊥
not_refused code named slot reason accepted (inl p) = no_first (structure_fault code named) slot reason accepted.0 p
not_refused code named slot reason accepted (inr p) =
    no_first (safety_fault (shapes_of code named) code) slot reason accepted.1 p.1
