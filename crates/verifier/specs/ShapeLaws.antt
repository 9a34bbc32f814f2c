-- Laws of the definitions of `Shape`: what holds of each instruction of a program without a fault
-- of its shape. Proved here for the proofs of this crate and of those above. This project's own. No
-- contract cites them, so they are not part of what has to be trusted.
use Rattle.std.proofs.Common.{◌≡◌, ℕ, Bool, true, false, not, ◌&&◌, List, [], ◌∷◌, Some, None, sym, ap, ◌∙◌, inl, inr}
use Rattle.std.specs.Prelude.{nat_le}
use Rattle.std.proofs.lemmas.Bool.{not-false, cases_Bool, cond-true, cond-false}
use Rattle.insn_set.specs.declared.insn.Insn.{Insn}
use Rattle.insn_set.specs.Program.{begins_at, slot_count}
use Rattle.insn_set.specs.Flow.{falls_to, jumps_to, falls, jumps, written_register, descriptor, is_number}
use Rattle.reg_kinds.specs.declared.reason.Reason.{Reason}
use Rattle.reg_kinds.specs.declared.reason.Reason.TheVariants.{JumpOutside, JumpBackward, FallsOff, Unreachable, UnknownHelper}
use Rattle.reg_kinds.specs.declared.reason.Reason.TheVariants.{FramePointerWritten, DescriptorNotOpen, DescriptorNotMap, NoDirectValue}
use Rattle.tagged_model.specs.declared.shape.Named.{Named}
use Rattle.verifier.specs.Shape.{leads_outside, leads_backward, is_reachable, calls_unknown, is_not_open}
use Rattle.verifier.specs.Shape.{is_not_map, lacks_value, first_reason, shape_reason, shape_reason_at, structure_fault}
use Rattle.verifier.specs.Verdict.{HasNoFault}

-- an option that has a reason (`Reason`, the rule that a program breaks) is not None: so e, an
-- equation of the two, is impossible (⊥). By this `passed` excludes that the condition of a list's
-- first item is true
no_reason : (reason : Reason) → Some reason ≡ None → ⊥
no_reason reason e = cc

-- each item of a list is a condition and the reason of a fault, and `first_reason` is the reason of
-- the first condition that is true. If it is None for a list, the condition of the first item
-- (`line`) is false, and it is None for the rest (`lines`) too. So `unrefused_is_fine` concludes,
-- one after another, that the nine conditions of `shape_reason` are false for an instruction
passed : (line : Bool × Reason) (lines : List (Bool × Reason))
    → first_reason (line ∷ lines) ≡ None
    → (line.0 ≡ false) × (first_reason lines ≡ None)
passed line lines none =
    elim (cases_Bool line.0) [
      | inl is ↦ absurd
          (no_reason line.1 (sym (cond-true line.0 (Some line.1) (first_reason lines) is) ∙ none))
      | inr fails ↦ (fails, sym (cond-false line.0 (Some line.1) (first_reason lines) fails) ∙ none)
    ]

-- what proofs use of the instruction i at slot `at` if its shape has no fault: its edges lead to
-- later slots of the program, it can be reached, and the helper, map and value that it names exist
pub record IsFine (code : List Insn) (named : List Named) (i : Insn) (at : ℕ) : Type 0 where
  pub inside : (jumps i && leads_outside code (jumps_to i at)) ≡ false
  pub forward : (jumps i && leads_backward (jumps_to i at) at) ≡ false
  pub goes_on : (falls i && nat_le (slot_count code) (falls_to i at)) ≡ false
  pub reached : is_reachable code at ≡ true
  pub known : calls_unknown i ≡ false
  pub is_open : is_not_open named (descriptor i) ≡ false
  pub map : is_not_map named (descriptor i) ≡ false
  pub value : lacks_value named i ≡ false

-- if no rule of a program's shape rejects instruction i at slot `at`, `IsFine` holds for it
pub unrefused_is_fine : (code : List Insn) (named : List Named) (i : Insn) (at : ℕ)
    → shape_reason code named i at ≡ None
    → IsFine code named i at
unrefused_is_fine code named i at none =
    let ninth : Bool × Reason = (lacks_value named i, NoDirectValue) in
    let eighth : Bool × Reason = (is_not_map named (descriptor i), DescriptorNotMap) in
    let seventh : Bool × Reason = (is_not_open named (descriptor i), DescriptorNotOpen) in
    let sixth : Bool × Reason = (is_number (written_register i) 10, FramePointerWritten) in
    let fifth : Bool × Reason = (calls_unknown i, UnknownHelper) in
    let fourth : Bool × Reason = (not (is_reachable code at), Unreachable) in
    let third : Bool × Reason = (falls i && nat_le (slot_count code) (falls_to i at), FallsOff) in
    let second : Bool × Reason = (jumps i && leads_backward (jumps_to i at) at, JumpBackward) in
    let first : Bool × Reason = (jumps i && leads_outside code (jumps_to i at), JumpOutside) in
    let one =
    passed first
    (second ∷ third ∷ fourth ∷ fifth ∷ sixth ∷ seventh ∷ eighth ∷ ninth ∷ []) none in
    let two =
    passed second (third ∷ fourth ∷ fifth ∷ sixth ∷ seventh ∷ eighth ∷ ninth ∷ []) one.1 in
    let three = passed third (fourth ∷ fifth ∷ sixth ∷ seventh ∷ eighth ∷ ninth ∷ []) two.1 in
    let four = passed fourth (fifth ∷ sixth ∷ seventh ∷ eighth ∷ ninth ∷ []) three.1 in
    let five = passed fifth (sixth ∷ seventh ∷ eighth ∷ ninth ∷ []) four.1 in
    let six = passed sixth (seventh ∷ eighth ∷ ninth ∷ []) five.1 in
    let seven = passed seventh (eighth ∷ ninth ∷ []) six.1 in
    let eight = passed eighth (ninth ∷ []) seven.1 in
    let nine = passed ninth [] eight.1 in
    record {
      inside = one.0;
      forward = two.0;
      goes_on = three.0;
      reached = not-false (is_reachable code at) four.0;
      known = five.0;
      is_open = seven.0;
      map = eight.0;
      value = nine.0;
    }

-- if no slot of a program has a fault of the shape, each instruction is as `IsFine` says
pub each_is_fine : (code : List Insn) (named : List Named)
    → HasNoFault (structure_fault code named)
    → (n : ℕ) (i : Insn)
    → begins_at code n ≡ Some i
    → IsFine code named i n
unfolding structure_fault
each_is_fine code named none n i begins =
    unrefused_is_fine code named i n (sym (ap (shape_reason_at code named n) begins) ∙ none n)
