-- Facts are joined one group of stack slots after another.
use Rattle.std.proofs.Common.{◌≡◌, ◌≢◌, ℕ, ◌+◌, ◌<◌, ◌==◌, List, length, get_or, set, length-set}
use Rattle.std.proofs.Common.{get_or-set_same, get_or-set_other, sym, ap, subst, ◌∙◌, inl, inr, arith}
use Rattle.std.proofs.lemmas.Bool.{cases_eq, cond-true, cond-false, eq-eqb, ne_eqb}
use Rattle.words.specs.Stack.{stack_slots}
use Rattle.reg_kinds.specs.declared.kind.Slot.{Slot}
use Rattle.reg_kinds.specs.declared.kind.Slot.TheVariants.{Bytes}
use Rattle.reg_kinds.specs.declared.facts.Facts.{Facts}
use Rattle.reg_kinds.specs.Join.{kind_join, slot_join, stack_groups, group_of, group_joined}
use Rattle.reg_kinds.specs.Kinds.{kind_at, slot_at, with_registers, with_slots}
use Rattle.reg_kinds.specs.TableLaws.{tabulate-at}
use Rattle.verifier.specs.declared.numbered_facts.NumberedFacts.{NumberedFacts}
use Rattle.verifier.specs.inside.Numbers.{number_of, included_in, IsJoinedSlot, IsJoinedAt, IsSameAt, IsGroupJoin, IsJoin, IsJoinedBelow}

-- the slots of the group are joined; other slots are not changed
joined_here : (group : ℕ) (a b : Facts) (i : ℕ)
    → i < stack_slots → group_of i ≡ group
    → slot_at (with_slots a (group_joined group a b)) i ≡ slot_join (slot_at a i) (slot_at b i)
joined_here group a b i within at =
    tabulate-at (group_joined group a b) stack_slots i (Bytes 0) within
    ∙ cond-true (group_of i == group) (slot_join (slot_at a i) (slot_at b i)) (slot_at a i) (eq-eqb (group_of i) group at)

joined_elsewhere : (group : ℕ) (a b : Facts) (i : ℕ)
    → i < stack_slots → group_of i ≢ group
    → slot_at (with_slots a (group_joined group a b)) i ≡ slot_at a i
joined_elsewhere group a b i within other =
    tabulate-at (group_joined group a b) stack_slots i (Bytes 0) within
    ∙ cond-false (group_of i == group) (slot_join (slot_at a i) (slot_at b i)) (slot_at a i)
    (ne_eqb (group_of i) group other)

-- the number of the group is set; other numbers are not changed
set_here : (xs : List ℕ) (group n i : ℕ) → group < length xs → group_of i ≡ group → get_or (set xs group n) (group_of i) 0 ≡ n
set_here xs group n i within at = ap (λ (p : ℕ). get_or (set xs group n) p 0) at ∙ get_or-set_same xs group n 0 within

module _ (fresh group : ℕ) (x y z : NumberedFacts) (low : group < stack_groups)
    (groups : length x.numbers ≡ stack_groups) (included : length x.includes ≡ stack_groups)
    (facts : z.facts ≡ with_slots x.facts (group_joined group x.facts y.facts))
    (includes : z.includes ≡ set x.includes group (get_or y.numbers group 0)) where
  slot_here : (i : ℕ)
      → i < stack_slots → group_of i ≡ group
      → slot_at z.facts i ≡ slot_join (slot_at x.facts i) (slot_at y.facts i)
  slot_here i within at = ap (λ (f : Facts). slot_at f i) facts ∙ joined_here group x.facts y.facts i within at

  slot_elsewhere : (i : ℕ) → i < stack_slots → group_of i ≢ group → slot_at z.facts i ≡ slot_at x.facts i
  slot_elsewhere i within other =
      ap (λ (f : Facts). slot_at f i) facts ∙ joined_elsewhere group x.facts y.facts i within other

  included_here : (i : ℕ) → group_of i ≡ group → included_in z i ≡ number_of y i
  included_here i at =
      ap (λ (l : List ℕ). get_or l (group_of i) 0) includes
      ∙ set_here x.includes group (get_or y.numbers group 0) i (omega (arith, low, included)) at
      ∙ sym (ap (λ (p : ℕ). get_or y.numbers p 0) at)

  included_elsewhere : (i : ℕ) → group_of i ≢ group → included_in z i ≡ included_in x i
  included_elsewhere i other =
      ap (λ (l : List ℕ). get_or l (group_of i) 0) includes
      ∙ get_or-set_other x.includes group (group_of i) (get_or y.numbers group 0) 0 other

  -- the group changes
  pub group_changed : z.numbers ≡ set x.numbers group fresh → IsGroupJoin fresh group x y z
  group_changed numbers =
      record {
        registers = ap (λ (f : Facts). f.registers) facts;
        groups = ap length numbers ∙ length-set x.numbers group fresh ∙ groups;
        here = λ i within at.
            inr (
              slot_here i within at,
              included_here i at,
              inl (ap (λ (l : List ℕ). get_or l (group_of i) 0) numbers
                  ∙ set_here x.numbers group fresh i (omega (arith, low, groups)) at),
            );
        others = λ i within other. (
          slot_elsewhere i within other,
          ap (λ (l : List ℕ). get_or l (group_of i) 0) numbers
              ∙ get_or-set_other x.numbers group (group_of i) fresh 0 other,
          included_elsewhere i other,
        );
      }

  -- the group is not changed
  pub group_unchanged : z.numbers ≡ x.numbers → z.facts.slots ≡ x.facts.slots → IsGroupJoin fresh group x y z
  group_unchanged numbers slots =
      record {
        registers = ap (λ (f : Facts). f.registers) facts;
        groups = ap length numbers ∙ groups;
        here = λ i within at.
            inr (
              slot_here i within at,
              included_here i at,
              inr (
                ap (λ (l : List ℕ). get_or l (group_of i) 0) numbers,
                ap (λ (l : List Slot). get_or l i (Bytes 0)) slots,
              ),
            );
        others = λ i within other. (
          slot_elsewhere i within other,
          ap (λ (l : List ℕ). get_or l (group_of i) 0) numbers,
          included_elsewhere i other,
        );
      }

-- ---- all groups

-- no group is joined, only the registers
pub none_joined : (fresh : ℕ) (x y z : NumberedFacts)
    → z.facts ≡ with_registers x.facts (λ r. kind_join (kind_at x.facts r) (kind_at y.facts r))
    → z.numbers ≡ x.numbers → z.includes ≡ x.includes
    → length x.numbers ≡ stack_groups
    → IsJoinedBelow fresh 0 x y z
none_joined fresh x y z facts numbers includes groups =
    let slots : z.facts.slots ≡ x.facts.slots = ap (λ (f : Facts). f.slots) facts in
    record {
      registers = ap (λ (f : Facts). f.registers) facts;
      groups = ap length numbers ∙ groups;
      done = λ i within lt. absurd (omega (arith, lt));
      rest = λ i within le. (
        ap (λ (l : List Slot). get_or l i (Bytes 0)) slots,
        ap (λ (l : List ℕ). get_or l (group_of i) 0) numbers,
        ap (λ (l : List ℕ). get_or l (group_of i) 0) includes,
      );
    }

-- an unchanged slot before or after a join of the slot
joined_from : (fresh : ℕ) (x y z w : NumberedFacts) (i : ℕ)
    → IsSameAt x z i → IsJoinedAt fresh z y w i → IsJoinedAt fresh x y w i
joined_from fresh x y z w i same joins =
    let at : Slot → ℕ → ℕ → Type 0 =
    λ s n m.
    IsJoinedSlot fresh s n m (slot_at y.facts i) (number_of y i) (slot_at w.facts i) (number_of w i)
    (included_in w i) in
    subst (λ (s : Slot). at s (number_of x i) (included_in x i)) same.0
    (subst (λ (n : ℕ). at (slot_at z.facts i) n (included_in x i)) same.1
    (subst (λ (m : ℕ). at (slot_at z.facts i) (number_of z i) m) same.2 joins))

joined_to : (fresh : ℕ) (x y z w : NumberedFacts) (i : ℕ)
    → IsJoinedAt fresh x y z i → IsSameAt z w i → IsJoinedAt fresh x y w i
joined_to fresh x y z w i joins same =
    let at : Slot → ℕ → ℕ → Type 0 =
    λ s n m.
    IsJoinedSlot fresh (slot_at x.facts i) (number_of x i) (included_in x i) (slot_at y.facts i)
    (number_of y i) s n m in
    subst (λ (s : Slot). at s (number_of w i) (included_in w i)) (sym same.0)
    (subst (λ (n : ℕ). at (slot_at z.facts i) n (included_in w i)) (sym same.1)
    (subst (λ (m : ℕ). at (slot_at z.facts i) (number_of z i) m) (sym same.2) joins))

-- one more group is joined
pub one_joined : (fresh group : ℕ) (x y z w : NumberedFacts)
    → IsJoinedBelow fresh group x y z → IsGroupJoin fresh group z y w
    → IsJoinedBelow fresh (group + 1) x y w
one_joined fresh group x y z w h step =
    record {
      registers = step.registers ∙ h.registers;
      groups = step.groups;
      done = λ i within lt.
          elim (cases_eq (group_of i) group) [
            | inl at ↦ joined_from fresh x y z w i (h.rest i within (omega (arith, at))) (step.here i within at)
            | inr other ↦ joined_to fresh x y z w i (h.done i within (omega (arith, lt, other)))
                (step.others i within other)
          ];
      rest = λ i within le.
          let other : group_of i ≢ group = λ e. omega (arith, le, e) in
          let before = h.rest i within (omega (arith, le)) in
          let after = step.others i within other in
          (after.0 ∙ before.0, after.1 ∙ before.1, after.2 ∙ before.2);
    }

-- if the registers and all groups of stack slots of two facts are joined in a third, this is their join
pub all_joined : (fresh : ℕ) (x y z : NumberedFacts)
    → IsJoinedBelow fresh stack_groups x y z → length z.facts.slots ≡ stack_slots
    → IsJoin fresh x y z
all_joined fresh x y z h long =
    record {
      registers = h.registers;
      long = long;
      groups = h.groups;
      slots = λ i within. h.done i within (omega (arith, within));
    }
