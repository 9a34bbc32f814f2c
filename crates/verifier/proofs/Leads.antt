-- In an accepted program each edge goes to a slot at which an instruction begins.
use Rattle.std.proofs.Common.{◌≡◌, ℕ, ◌<◌, ◌==◌, Bool, true, false, List, Option, Some, None, refl, sym, ap, subst, ◌∙◌, ⊎_elim}
use Rattle.std.specs.Prelude.{◌&&◌, nat_le, nat_lt}
use Rattle.std.specs.Option.{is_some, IsSome}
use Rattle.std.proofs.lemmas.Bool.{and_parts, and_from, and_cases, both_ways, false≢true, true≢false, not-false, eqb-true, eq-eqb, leb-false, lt-ltb, cond-true}
use Rattle.insn_set.specs.declared.insn.Insn.{Insn}
use Rattle.insn_set.specs.declared.insn.Insn.TheVariants.{Ja, Jal, Jump}
use Rattle.insn_set.specs.Program.{slot_count, begins_at}
use Rattle.insn_set.specs.BeginLaws.{next_begins}
use Rattle.tagged_model.specs.declared.shape.Named.{Named}
use Rattle.insn_set.specs.Flow.{falls_to, jumps_to, falls, jumps, is_number}
use Rattle.verifier.specs.Shape.{falls_into, jumps_into, leads_outside, leads_backward, structure_fault}
use Rattle.verifier.specs.Verdict.{HasNoFault}
use Rattle.verifier.specs.ShapeLaws.{each_is_fine}
use Rattle.verifier.specs.Verified.{GoesAhead}

-- ---- the shape of an instruction

-- the target of its jump is a later slot at which an instruction begins, and it does not fall off the end
pub record IsShaped (code : List Insn) (i : Insn) (n : ℕ) : Type 0 where
  -- its jump, if it has one, leads to a slot at which an instruction begins
  pub inside : (jumps i && leads_outside code (jumps_to i n)) ≡ false
  -- its jump, if it has one, leads to a later slot
  pub forward : (jumps i && leads_backward (jumps_to i n) n) ≡ false
  -- its falling edge, if it has one, leads to a slot of the program
  pub on : (falls i && nat_le (slot_count code) (falls_to i n)) ≡ false

-- in a program without a fault of its shape each instruction is shaped
pub shaped : (code : List Insn) (named : List Named)
    → HasNoFault (structure_fault code named)
    → (n : ℕ) (i : Insn) → begins_at code n ≡ Some i
    → IsShaped code i n
shaped code named none n i begins =
    let fine = each_is_fine code named none n i begins in
    record { inside = fine.inside; forward = fine.forward; on = fine.goes_on }

-- ---- the targets of its edges

-- if a conjunction is false and its first part true, the second part is false
pub second_false : (a b : Bool) → (a && b) ≡ false → a ≡ true → b ≡ false
second_false a b h e = ⊎_elim (λ z. absurd (both_ways a z e)) (λ z. z) (and_cases a b h)

slot_of : (o : Option ℕ) (m : ℕ) → is_number o m ≡ true → o ≡ Some m
slot_of None m e = absurd (false≢true e)
slot_of (Some n) m e = ap Some (eqb-true n m e)

target_there : (code : List Insn) (o : Option ℕ) → leads_outside code o ≡ false → IsSome o
target_there code None e = absurd (true≢false e)
target_there code (Some n) e = refl

begins_there : (code : List Insn) (o : Option ℕ) (m : ℕ)
    → o ≡ Some m → leads_outside code o ≡ false → IsSome (begins_at code m)
begins_there code o m e h = not-false (is_some (begins_at code m)) (subst (λ o. leads_outside code o ≡ false) e h)

lies_farther : (o : Option ℕ) (n m : ℕ) → o ≡ Some m → leads_backward o n ≡ false → n < m
lies_farther o n m e h = leb-false m n (subst (λ o. leads_backward o n ≡ false) e h)

module _ (code : List Insn) (n : ℕ) (i : Insn) (shape : IsShaped code i n) where
  -- the target of an instruction is a natural number, also if it does not jump
  pub target_is : IsSome (jumps_to i n)
  target_is = by_form i shape.inside
    where
      by_form : (i : Insn) → (jumps i && leads_outside code (jumps_to i n)) ≡ false → IsSome (jumps_to i n)
      by_form (Ja off) h = target_there code (jumps_to (Ja off) n) h
      by_form (Jal off) h = target_there code (jumps_to (Jal off) n) h
      by_form (Jump wide cond dst src off) h = target_there code (jumps_to (Jump wide cond dst src off) n) h
      by_form j h = refl

  -- at the slot to which the falling edge of an instruction leads, an instruction begins
  pub falls_begins : (m : ℕ) → begins_at code n ≡ Some i → falls_into i n m ≡ true → IsSome (begins_at code m)
  falls_begins m begins t =
      let h = and_parts (falls i) (falls_to i n == m) t in
      let within =
      leb-false (slot_count code) (falls_to i n)
      (second_false (falls i) (nat_le (slot_count code) (falls_to i n)) shape.on h.0) in
      subst (λ k. IsSome (begins_at code k)) (eqb-true (falls_to i n) m h.1) (next_begins code n i begins within)

  -- the target of an instruction that jumps is a later slot, at which an instruction begins
  pub jump_at : (m : ℕ) → jumps i ≡ true → jumps_to i n ≡ Some m → (n < m) × IsSome (begins_at code m)
  jump_at m h e = (
    lies_farther (jumps_to i n) n m e (second_false (jumps i) (leads_backward (jumps_to i n) n) shape.forward h),
    begins_there code (jumps_to i n) m e (second_false (jumps i) (leads_outside code (jumps_to i n)) shape.inside h),
  )

  -- at the slot to which the jumping edge of an instruction leads, an instruction begins
  pub jumps_begins : (m : ℕ) → jumps_into i n m ≡ true → IsSome (begins_at code m)
  jumps_begins m t =
      let h = and_parts (jumps i && is_number (jumps_to i n) m) (nat_lt n m) t in
      let at = and_parts (jumps i) (is_number (jumps_to i n) m) h.0 in
      (jump_at m at.0 (slot_of (jumps_to i n) m at.1)).1

  -- an edge that an instruction takes goes to that slot
  pub falls_lead : (m : ℕ) → falls i ≡ true → falls_to i n ≡ m → falls_into i n m ≡ true
  falls_lead m h e = and_from (falls i) (falls_to i n == m) h (eq-eqb (falls_to i n) m e)

  -- the jumping edge of an instruction that jumps leads to its target
  pub jumps_lead : (m : ℕ) → jumps i ≡ true → jumps_to i n ≡ Some m → jumps_into i n m ≡ true
  jumps_lead m h e =
      let at = subst (λ o. is_number o m ≡ true) (sym e) (eq-eqb m m refl) in
      and_from (jumps i && is_number (jumps_to i n) m) (nat_lt n m)
      (and_from (jumps i) (is_number (jumps_to i n) m) h at)
      (lt-ltb n m (jump_at m h e).0)

-- ---- a program without a fault of its shape

-- (a value with its proof) the slot that an edge leads to, if it is known to have one
pub some_slot : (o : Option ℕ) → IsSome o → (to : ℕ) × (o ≡ Some to)
some_slot None h = absurd (false≢true h)
some_slot (Some to) h = (to, refl)

-- in a program without a fault of its shape each edge leads to an instruction at a later slot
pub goes_ahead : (code : List Insn) (named : List Named) → HasNoFault (structure_fault code named) → GoesAhead code
goes_ahead code named none =
    record {
      next = λ at i begins h.
          let shape = shaped code named none at i begins in
          falls_begins code at i shape (falls_to i at) begins (falls_lead code at i shape (falls_to i at) h refl);
      target = λ at i begins h.
          let shape = shaped code named none at i begins in
          let to = some_slot (jumps_to i at) (target_is code at i shape) in
          let there = jump_at code at i shape to.0 h to.1 in
          (to.0, cond-true (jumps i) (jumps_to i at) None h ∙ to.1, there.0, there.1);
    }
