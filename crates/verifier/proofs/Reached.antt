-- The pass of the shape check agrees with the definitions of reachable slots and of shape faults.
use Rattle.std.proofs.Common.{◌≡◌, ℕ, ◌+◌, ◌<◌, zero, suc, Bool, true, false, not, ◌&&◌, ◌||◌, List, [], ◌∷◌}
use Rattle.std.proofs.Common.{get_or, Option, Some, None, refl, sym, ap, ◌∙◌, add-one, arith, inl, inr}
use Rattle.std.specs.Prelude.{nat_le, IfSome, is_some, if◌then◌else◌}
use Rattle.std.proofs.lemmas.Bool.{not-false, false≢true, cases_Bool, cond-true, cond-false}
use Rattle.std.specs.List.{slice_get}
use Rattle.std.proofs.lemmas.Option.{get_or_from_slice_get}
use Rattle.insn_set.specs.declared.insn.Insn.{Insn}
use Rattle.std.specs.Option.{IsSome}
use Rattle.insn_set.specs.Program.{begins_at, slot_count, Adjoins}
use Rattle.insn_set.specs.BeginLaws.{begins_within, first_begins}
use Rattle.reg_kinds.specs.declared.reason.Reason.{Reason}
use Rattle.reg_kinds.specs.declared.reason.Reason.TheVariants.{JumpOutside, JumpBackward, FallsOff, Unreachable, UnknownHelper}
use Rattle.reg_kinds.specs.declared.reason.Reason.TheVariants.{FramePointerWritten, DescriptorNotOpen, DescriptorNotMap, NoDirectValue}
use Rattle.tagged_model.specs.declared.shape.Named.{Named}
use Rattle.insn_set.specs.Flow.{falls_to, jumps_to, falls, jumps, jump_target, written_register, descriptor, is_number}
use Rattle.verifier.specs.Shape.{leads_into, leads_outside, leads_backward, reached_from, is_reachable, calls_unknown}
use Rattle.verifier.specs.Shape.{is_not_open, is_not_map, lacks_value, first_reason, shape_reason, shape_reason_at, structure_fault}
use Rattle.verifier.specs.ShapeLaws.{IsFine, each_is_fine}
use Rattle.verifier.specs.inside.Jumps.{target_reason, JumpsLand}
use Rattle.verifier.specs.Verdict.{HasNoFault}

-- ---- reasons against an instruction, and the targets of an instruction without a fault

no_reason : (reason : Reason) → Some reason ≡ None → ⊥
no_reason reason e = cc

-- if the first two conditions give a reason, it is the first of all
seen_early : (first second : Bool × Reason) (lines : List (Bool × Reason)) (r : Reason)
    → Some r ≡ first_reason (first ∷ second ∷ []) → Some r ≡ first_reason (first ∷ second ∷ lines)
seen_early first second lines r is =
    elim (cases_Bool first.0) [
      | inl holds ↦
          is
          ∙ cond-true first.0 (Some first.1) (first_reason (second ∷ [])) holds
          ∙ sym (cond-true first.0 (Some first.1) (first_reason (second ∷ lines)) holds)
      | inr fails ↦
          elim (cases_Bool second.0) [
            | inl holds ↦
                is
                ∙ cond-false first.0 (Some first.1) (first_reason (second ∷ [])) fails
                ∙ cond-true second.0 (Some second.1) None holds
                ∙ sym (cond-true second.0 (Some second.1) (first_reason lines) holds)
                ∙ sym (cond-false first.0 (Some first.1) (first_reason (second ∷ lines)) fails)
            | inr none ↦
                absurd (no_reason r
                (is
                ∙ cond-false first.0 (Some first.1) (first_reason (second ∷ [])) fails
                ∙ cond-false second.0 (Some second.1) None none))
          ]
    ]

-- a fault of the target of a jump is the first fault of the instruction
pub target_fault_is_first : (code : List Insn) (named : List Named) (i : Insn) (at : ℕ) (r : Reason)
    → target_reason code i at ≡ Some r → shape_reason code named i at ≡ Some r
target_fault_is_first code named i at r is =
    let later : List (Bool × Reason) =
    (falls i && nat_le (slot_count code) (falls_to i at), FallsOff)
    ∷ (not (is_reachable code at), Unreachable)
    ∷ (calls_unknown i, UnknownHelper)
    ∷ (is_number (written_register i) 10, FramePointerWritten)
    ∷ (is_not_open named (descriptor i), DescriptorNotOpen)
    ∷ (is_not_map named (descriptor i), DescriptorNotMap)
    ∷ (lacks_value named i, NoDirectValue)
    ∷ [] in
    sym (seen_early (jumps i && leads_outside code (jumps_to i at), JumpOutside)
    (jumps i && leads_backward (jumps_to i at) at, JumpBackward) later r (sym is))

within_begun : (code : List Insn) (n : ℕ) (o : Option Insn)
    → begins_at code n ≡ o → is_some o ≡ true → n < slot_count code
within_begun code n None is some = absurd (false≢true some)
within_begun code n (Some i) is some = begins_within code n i is

-- a slot at which an instruction begins is one of the program
pub first_within : (code : List Insn) (n : ℕ)
    → is_some (begins_at code n) ≡ true → n < slot_count code
first_within code n = within_begun code n (begins_at code n) refl

within : (code : List Insn) (b : Bool) (o : Option ℕ)
    → (b && leads_outside code o) ≡ false
    → IfSome (if b then o else None) (λ to. to < slot_count code)
within code false o inside = tt
within code true None inside = tt
within code true (Some n) inside =
    first_within code n (not-false (is_some (begins_at code n)) inside)

-- the target of a jump is a slot of the program
pub jump_lands : (code : List Insn) (named : List Named) (i : Insn) (at : ℕ)
    → IsFine code named i at → IfSome (jump_target i at) (λ to. to < slot_count code)
jump_lands code named i at is_fine = within code (jumps i) (jumps_to i at) is_fine.inside

-- ---- reachable slots

reached_next : (code : List Insn) (i n : ℕ)
    → reached_from code i (n + 1)
    ≡ (reached_from code i n || (reached_from code n n && leads_into (begins_at code n) n i))
unfolding reached_from
reached_next code i n = ap (λ (k : ℕ). reached_from code i k) (add-one n)

-- a disjunction with a conjunction that has a false part is its first part
pub or_neither : (a b : Bool) → (a || (b && false)) ≡ a
or_neither true true = refl
or_neither true false = refl
or_neither false true = refl
or_neither false false = refl

-- a slot at which no instruction begins marks nothing
pub marked_past : (code : List Insn) (i n : ℕ) (old : Bool)
    → begins_at code n ≡ None → old ≡ reached_from code i n
    → old ≡ reached_from code i (n + 1)
marked_past code i n old begins was =
    was
    ∙ sym (or_neither (reached_from code i n) (reached_from code n n))
    ∙ sym (ap (λ (o : Option Insn). reached_from code i n || (reached_from code n n && leads_into o n i)) begins)
    ∙ sym (reached_next code i n)

-- slots at which no instruction begins mark nothing
pub marked_through : (code : List Insn) (i n m : ℕ) (old : Bool)
    → ((k : ℕ) → n < k → k < n + 1 + m → begins_at code k ≡ None)
    → old ≡ reached_from code i (n + 1)
    → old ≡ reached_from code i (n + 1 + m)
marked_through code i n zero old none was =
    let same : n + 1 + 0 ≡ n + 1 = omega arith in was ∙ sym (ap (reached_from code i) same)
marked_through code i n (suc m) old none was =
    let so_far = marked_through code i n m old (λ k after before. none k after (omega arith)) was in
    let next : n + 1 + m + 1 ≡ n + 1 + suc m = omega arith in
    marked_past code i (n + 1 + m) old (none (n + 1 + m) (omega arith) (omega arith)) so_far
    ∙ ap (reached_from code i) next

-- ---- from one instruction to the next

-- an instruction begins at slot 0
pub begins_first : (code : List Insn) → 0 < slot_count code → Adjoins code 0
begins_first code some = inr (some, first_begins code some)

-- (a value with its proof) the instruction that begins at a slot, if one is known to begin there
pub begun_of : (code : List Insn) (n : ℕ) (o : Option Insn)
    → begins_at code n ≡ o → IsSome o → (i : Insn) × (begins_at code n ≡ Some i)
begun_of code n None is some = absurd (false≢true some)
begun_of code n (Some i) is some = (i, is)

-- at a slot that is not the end begins the instruction that a list by slots has there
pub begun_there : (code by_slot : List Insn) (n : ℕ) (insn : Insn)
    → Adjoins code n → n < slot_count code
    → ((k : ℕ) (i : Insn) → begins_at code k ≡ Some i → slice_get by_slot k ≡ Some i)
    → insn ≡ get_or by_slot n insn
    → begins_at code n ≡ Some insn
begun_there code by_slot n insn (inl end) lt listed is = absurd (omega arith)
begun_there code by_slot n insn (inr begins) lt listed is =
    let found = begun_of code n (begins_at code n) refl begins.1 in
    found.1
    ∙ ap (λ (i : Insn). Some i) (sym (is ∙ get_or_from_slice_get by_slot n found.0 insn (listed n found.0 found.1)))

-- ---- the fault at a slot

-- the first fault of the instruction that begins at a slot, if any, is the slot's fault of its shape
pub shape_is : (code : List Insn) (named : List Named) (at : ℕ) (o : Option Insn) (r : Option Reason)
    → o ≡ begins_at code at → r ≡ shape_reason_at code named at o
    → structure_fault code named at ≡ r
unfolding structure_fault
shape_is code named at o r begins is = sym (is ∙ ap (shape_reason_at code named at) begins)

-- if no slot has a fault
module _ (code : List Insn) (named : List Named) (none : HasNoFault (structure_fault code named)) where
  -- each jump has a target in the program
  pub each_lands : JumpsLand code
  each_lands n i begins = jump_lands code named i n (each_is_fine code named none n i begins)
