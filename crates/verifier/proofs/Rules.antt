-- Each rejection has a rule as its reason; no reason of a verdict is that memory runs out.
use Rattle.std.proofs.Common.{◌≡◌, ◌≢◌, ℕ, inl, inr, Bool, List, Option, Some, None, Result, Ok, Err, subst, refl}
use Rattle.std.specs.Prelude.{if◌then◌else◌}
use Rattle.std.proofs.lemmas.Bool.{cond_both}
use Rattle.insn_set.specs.declared.insn.Insn.{Insn}
use Rattle.insn_set.specs.Program.{begins_at}
use Rattle.reg_kinds.specs.declared.facts.Facts.{Facts}
use Rattle.reg_kinds.specs.declared.reason.Reason.{Reason}
use Rattle.reg_kinds.specs.declared.reason.Reason.TheVariants.{JumpOutside, JumpBackward, FallsOff, Unreachable, UnknownHelper}
use Rattle.reg_kinds.specs.declared.reason.Reason.TheVariants.{FramePointerWritten, DescriptorNotOpen, DescriptorNotMap, NoDirectValue, Memory}
use Rattle.tagged_model.specs.declared.shape.Named.{Named}
use Rattle.tagged_model.specs.Cells.{and_then}
use Rattle.tagged_model.specs.Named.{Shapes}
use Rattle.verifier.specs.Maps.{shapes_of}
use Rattle.transfer.specs.Branches.{Edges}
use Rattle.transfer.specs.Effects.{effect}
use Rattle.verifier.specs.Shape.{shape_reason_at, structure_fault}
use Rattle.verifier.specs.Before.{facts_before}
use Rattle.verifier.specs.Verdict.{reason_of, safety_fault, IsRefused}

-- any reason but `Memory`
abbrev IsRule : Reason → Type 0
IsRule Memory = ⊥
IsRule reason = Unit {0}

-- a reason of a verdict is not `Memory`
abbrev ByRule : Option Reason → Type 0
ByRule seen = (reason : Reason) → seen ≡ Some reason → reason ≢ Memory

-- the premise about the transfer function
abbrev EffectsNeedNone : Type 0
EffectsNeedNone =
    (shapes : Shapes) (at : ℕ) (i : Insn) (f : Facts) (reason : Reason)
    → effect shapes at i f ≡ Err reason
    → reason ≢ Memory

rule_is_other : (reason : Reason) → IsRule reason → reason ≢ Memory
rule_is_other reason h same = subst IsRule same h

by_this : (reason : Reason) → IsRule reason → ByRule (Some reason)
by_this seen h reason e = let same : seen ≡ reason = cc in rule_is_other reason (subst IsRule same h)

by_none : ByRule None
by_none reason e = absurd (let z : ⊥ = cc in z)

-- ---- shape

line_rule : (holds : Bool) (reason : Reason) (rest : Option Reason)
    → IsRule reason → ByRule rest → ByRule (if holds then Some reason else rest)
line_rule holds reason rest h further = cond_both holds (Some reason) rest ByRule (λ _. by_this reason h) (λ _. further)

shape_of_rule : (code : List Insn) (named : List Named) (slot : ℕ) (o : Option Insn)
    → ByRule (shape_reason_at code named slot o)
shape_of_rule code named slot None = by_none
shape_of_rule code named slot (Some i) =
    line_rule _ JumpOutside _ tt
    (line_rule _ JumpBackward _ tt
    (line_rule _ FallsOff _ tt
    (line_rule _ Unreachable _ tt
    (line_rule _ UnknownHelper _ tt
    (line_rule _ FramePointerWritten _ tt
    (line_rule _ DescriptorNotOpen _ tt
    (line_rule _ DescriptorNotMap _ tt
    (line_rule _ NoDirectValue _ tt by_none))))))))

shape_rule : (code : List Insn) (named : List Named) (slot : ℕ) → ByRule (structure_fault code named slot)
unfolding structure_fault
shape_rule code named slot = shape_of_rule code named slot (begins_at code slot)

-- ---- safety

module _ (effects : EffectsNeedNone) where
  module _ (shapes : Shapes) where
    effect_rule : (at : ℕ) (i : Insn) (f : Facts) (r : Result Edges Reason)
        → effect shapes at i f ≡ r → ByRule (reason_of r)
    effect_rule at i f (Ok edges) e reason same = by_none reason same
    effect_rule at i f (Err seen) e reason same =
        effects shapes at i f reason (let z : effect shapes at i f ≡ Err reason = cc in z)

    insn_rule : (at : ℕ) (f : Facts) (o : Option Insn) → ByRule (and_then o (λ i. reason_of (effect shapes at i f)))
    insn_rule at f None = by_none
    insn_rule at f (Some i) = effect_rule at i f (effect shapes at i f) refl

    facts_rule : (at : ℕ) (known : Option Facts) (o : Option Insn)
        → ByRule (and_then known (λ f. and_then o (λ i. reason_of (effect shapes at i f))))
    facts_rule at None o = by_none
    facts_rule at (Some f) o = insn_rule at f o

    safety_rule : (code : List Insn) (slot : ℕ) → ByRule (safety_fault shapes code slot)
    unfolding safety_fault
    safety_rule code slot = facts_rule slot (facts_before shapes code slot) (begins_at code slot)

  -- no program is rejected because memory runs out
  pub not_for_memory : (code : List Insn) (named : List Named) (slot : ℕ) (reason : Reason)
      → IsRefused code named slot reason → reason ≢ Memory
  not_for_memory code named slot reason (inl first) = shape_rule code named slot reason first.here
  not_for_memory code named slot reason (inr later) = safety_rule (shapes_of code named) code slot reason later.1.here
