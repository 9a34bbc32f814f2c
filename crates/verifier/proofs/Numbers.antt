-- Joins of facts whose groups of stack slots have numbers are the joins of the definition, if each number means one group.
use Rattle.std.proofs.Common.{◌≡◌, ◌⊎◌, ℕ, ◌<◌, ◌≤◌, ◌==◌, if◌then◌else◌, Bool, true, false, List, length}
use Rattle.std.proofs.Common.{get_or, Option, Some, None, refl, sym, ap, subst, ◌∙◌, ⊎_elim, inl, inr, arith}
use Rattle.std.proofs.lemmas.Bool.{cond-true, cond-false, eq-eqb, ne_eqb}
use Rattle.std.proofs.lemmas.List.{length-replicate, get_or-replicate}
use Rattle.std.proofs.lemmas.List.FromFn.{fill_by_all}
use Rattle.words.specs.Stack.{stack_slots}
use Rattle.reg_kinds.specs.declared.kind.Kind.{Kind}
use Rattle.reg_kinds.specs.declared.kind.Slot.{Slot}
use Rattle.reg_kinds.specs.declared.kind.Slot.TheVariants.{Bytes}
use Rattle.reg_kinds.specs.declared.facts.Facts.{Facts}
use Rattle.reg_kinds.specs.Join.{slot_join, facts_join, stack_groups, group_of}
use Rattle.reg_kinds.specs.Kinds.{entry, slot_at, tabulate}
use Rattle.reg_kinds.specs.Laws.{SlotsAbsorb}
use Rattle.verifier.specs.Before.{joined, only_if}
use Rattle.verifier.specs.declared.numbered_facts.NumberedFacts.{NumberedFacts}
use Rattle.verifier.specs.inside.Numbers.{facts_on, entry_of, number_of, included_in, numbered_by, at_entry}
use Rattle.verifier.specs.inside.Numbers.{IsJoinedSlot, IsJoin, IsJoinedBy, IsNumberedSlot, IsNumbered, IsNumberedIf, AreNumbered}

-- facts joined with those of an edge that has none are not changed
pub joined_none : (a : Option Facts) → joined a None ≡ a
joined_none None = refl
joined_none (Some f) = refl

-- an edge without facts has none, whether or not it leads to the slot
pub on_none : (b : Bool) → only_if b None ≡ None
on_none true = refl
on_none false = refl

-- ---- one slot

-- one more number
abbrev pub with_held : (ℕ → Slot) → ℕ → Slot → ℕ → Slot
with_held held n s k = if k == n then s else held k

-- the new number means the new slot
pub held_there : (held : ℕ → Slot) (n : ℕ) (s : Slot) → with_held held n s n ≡ s
held_there held n s = cond-true (n == n) s (held n) (eq-eqb n n refl)

-- a number below the new one keeps its meaning
pub held_below : (held : ℕ → Slot) (n k : ℕ) (s : Slot) → k < n → with_held held n s k ≡ held k
held_below held n k s lt = cond-false (k == n) s (held k) (ne_eqb k n (λ e. omega (arith, e, lt)))

-- a slot with numbers below the new one keeps their meaning
pub slot_more : (held : ℕ → Slot) (n m : ℕ) (new s : Slot) (a b : ℕ)
    → IsNumberedSlot held n s a b → n < m
    → IsNumberedSlot (with_held held n new) m s a b
slot_more held n m new s a b h lt =
    record {
      is = h.is ∙ sym (held_below held n a new h.below);
      some = h.some;
      below = let low = h.below in omega (arith, low, lt);
      includes = λ some.
          let all = h.includes some in
          let low = all.0 in (
            omega (arith, low, lt),
            subst (λ (t : Slot). slot_join s t ≡ s) (sym (held_below held n b new low)) all.1,
          );
    }

-- a numbered slot is numbered below a greater bound too
pub slot_raised : (held : ℕ → Slot) (n m : ℕ) (s : Slot) (a b : ℕ)
    → n ≤ m → IsNumberedSlot held n s a b → IsNumberedSlot held m s a b
slot_raised held n m s a b le h =
    record {
      is = h.is;
      some = h.some;
      below = let low = h.below in omega (arith, low, le);
      includes = λ some. let all = h.includes some in let low = all.0 in (omega (arith, low, le), all.1);
    }

-- the same for an equal slot with equal numbers
pub slot_same : (held : ℕ → Slot) (n : ℕ) (s s' : Slot) (a b a' b' : ℕ)
    → IsNumberedSlot held n s a b → s' ≡ s
    → a' ≡ a → b' ≡ b
    → IsNumberedSlot held n s' a' b'
slot_same held n s s' a b a' b' h slot number includes =
    subst (λ (t : Slot). IsNumberedSlot held n t a' b') (sym slot)
    (subst (λ (k : ℕ). IsNumberedSlot held n s k b') (sym number)
    (subst (λ (k : ℕ). IsNumberedSlot held n s a k) (sym includes) h))

-- a slot with a new number
pub slot_fresh : (held : ℕ → Slot) (n m : ℕ) (s : Slot) (a b : ℕ)
    → 0 < n → n < m → a ≡ n → b ≡ 0 → IsNumberedSlot (with_held held n s) m s a b
slot_fresh held n m s a b some lt number includes =
    record {
      is = sym (ap (with_held held n s) number ∙ held_there held n s);
      some = omega (arith, number, some);
      below = omega (arith, number, lt);
      includes = λ more. absurd (omega (arith, includes, more));
    }

pub record IsRightSlot (held : ℕ → Slot) (n m : ℕ) (s t s' : Slot) (n' m' : ℕ) : Type 0 where
  -- the new slot is the join of both
  pub slot : s' ≡ slot_join s t
  -- the new slot is numbered, if the new number means it
  pub numbered : IsNumberedSlot (with_held held n s') m s' n' m'

module _ (absorb : SlotsAbsorb) (held : ℕ → Slot) (n m : ℕ) (lt : n < m) (first : 0 < n)
    (s t s' : Slot) (a b k l n' m' : ℕ) (hx : IsNumberedSlot held n s a b)
    (hy : IsNumberedSlot held n t k l) where
  -- the group was not joined, since it includes the other
  slot_kept : b ≡ k → s' ≡ s → n' ≡ a → m' ≡ b → IsRightSlot held n m s t s' n' m'
  slot_kept same slot number includes =
      let known = hy.some in
      let all = hx.includes (omega (arith, known, same)) in
      let other : held b ≡ t = ap held same ∙ sym hy.is in
      record {
        slot = slot ∙ sym (subst (λ (x : Slot). slot_join s x ≡ s) other all.1);
        numbered = slot_more held n m s' s' n' m' (slot_same held n s s' a b n' m' hx slot number includes) lt;
      }

  slot_met : s' ≡ slot_join s t → m' ≡ k → (n' ≡ n) ⊎ ((n' ≡ a) × (s' ≡ s)) → IsRightSlot held n m s t s' n' m'
  slot_met slot includes number =
      let all : ℕ → Slot = with_held held n s' in
      let other : all m' ≡ t = ap all includes ∙ held_below held n k s' hy.below ∙ sym hy.is in
      let again : slot_join s' t ≡ s' = ap (λ (x : Slot). slot_join x t) slot ∙ absorb s t ∙ sym slot in
      let low = hy.below in
      let low_x = hx.below in
      let some_x = hx.some in
      let seen : 0 < m' → (m' < m) × (slot_join s' (all m') ≡ s') =
      λ some. (omega (arith, includes, low, lt), subst (λ (x : Slot). slot_join s' x ≡ s') (sym other) again) in
      record {
        slot = slot;
        numbered = ⊎_elim
            (λ (fresh : n' ≡ n).
            let r : IsNumberedSlot all m s' n' m' =
            record {
              is = sym (ap all fresh ∙ held_there held n s');
              some = omega (arith, fresh, first);
              below = omega (arith, fresh, lt);
              includes = seen;
            }
            in r)
            (λ (same : (n' ≡ a) × (s' ≡ s)).
            let e = same.0 in
            let r : IsNumberedSlot all m s' n' m' =
            record {
              is = same.1 ∙ hx.is ∙ sym (ap all same.0 ∙ held_below held n a s' low_x);
              some = omega (arith, e, some_x);
              below = omega (arith, e, low_x, lt);
              includes = seen;
            }
            in r)
            number;
      }

  -- a join of numbered slots as `IsJoinedSlot` has it gives their join, which is numbered again
  pub slot_right : IsJoinedSlot n s a b t k s' n' m' → IsRightSlot held n m s t s' n' m'
  slot_right (inl kept) = slot_kept kept.0 kept.1 kept.2 kept.3
  slot_right (inr done) = slot_met done.0 done.1 done.2

-- ---- stacks

abbrev pub Stacks : Type 0
Stacks = ℕ → ℕ → Slot

-- one more number, which means these slots
abbrev pub with_stack : Stacks → ℕ → (ℕ → Slot) → Stacks
with_stack stacks n slots i = with_held (stacks i) n (slots i)

-- numbered facts are still numbered, below a greater bound, if the next number means some stack
pub numbered_more : (stacks : Stacks) (n m : ℕ) (s : ℕ → Slot) (x : NumberedFacts)
    → IsNumbered stacks n x → n < m → IsNumbered (with_stack stacks n s) m x
numbered_more stacks n m s x h lt =
    record {
      groups = h.groups;
      slots = λ i within.
          slot_more (stacks i) n m (s i) (slot_at x.facts i) (number_of x i) (included_in x i) (h.slots i within) lt;
    }

-- numbered facts, if any, are still numbered, below a greater bound, if the next number means some stack
pub numbered_more_if : (stacks : Stacks) (n m : ℕ) (s : ℕ → Slot) (o : Option NumberedFacts)
    → IsNumberedIf stacks n o → n < m → IsNumberedIf (with_stack stacks n s) m o
numbered_more_if stacks n m s None h lt = tt
numbered_more_if stacks n m s (Some x) h lt = numbered_more stacks n m s x h lt

-- facts (if any) that are numbered below a bound are numbered below a greater one too
pub raised_if : (stacks : Stacks) (n m : ℕ) (o : Option NumberedFacts)
    → n ≤ m → IsNumberedIf stacks n o → IsNumberedIf stacks m o
raised_if stacks n m None le h = tt
raised_if stacks n m (Some x) le h =
    record {
      groups = h.groups;
      slots = λ i within.
          slot_raised (stacks i) n m (slot_at x.facts i) (number_of x i) (included_in x i) le (h.slots i within);
    }

-- the same from a later slot on, and with a greater bound
pub raised : (slot later n m : ℕ) (falling : Option NumberedFacts) (entries : List (Option NumberedFacts))
    → slot ≤ later → n ≤ m
    → AreNumbered slot n falling entries
    → AreNumbered later m falling entries
raised slot later n m falling entries above le h =
    record {
      stacks = h.stacks;
      in_hand = raised_if h.stacks n m falling le h.in_hand;
      ahead = λ i past. raised_if h.stacks n m (entry_of i entries) le (h.ahead i (omega (arith, above, past)));
    }

-- other facts with the same stack and the same numbers
pub numbered_same : (stacks : Stacks) (n : ℕ) (x y : NumberedFacts)
    → IsNumbered stacks n x → y.facts.slots ≡ x.facts.slots
    → y.numbers ≡ x.numbers → y.includes ≡ x.includes
    → IsNumbered stacks n y
numbered_same stacks n x y h slots numbers includes =
    record {
      groups = ap length numbers ∙ h.groups;
      slots = λ i within.
          slot_same (stacks i) n (slot_at x.facts i) (slot_at y.facts i) (number_of x i)
          (included_in x i) (number_of y i) (included_in y i)
          (h.slots i within)
          (ap (λ (l : List Slot). get_or l i (Bytes 0)) slots)
          (ap (λ (l : List ℕ). get_or l (group_of i) 0) numbers)
          (ap (λ (l : List ℕ). get_or l (group_of i) 0) includes);
    }

-- a new number for all groups
pub numbered_fresh : (stacks : Stacks) (n m : ℕ) (f : Facts)
    → 0 < n → n < m
    → IsNumbered (with_stack stacks n (slot_at f)) m (numbered_by n f)
numbered_fresh stacks n m f some lt =
    record {
      groups = length-replicate stack_groups n;
      slots = λ i within.
          let group : group_of i < stack_groups = omega (arith, within) in
          slot_fresh (stacks i) n m (slot_at f i) (number_of (numbered_by n f) i)
          (included_in (numbered_by n f) i) some lt
          (get_or-replicate stack_groups (group_of i) n 0 group)
          (get_or-replicate stack_groups (group_of i) 0 0 group);
    }

-- at program entry all groups have the number 1
pub entry_numbered : IsNumbered (λ i _. slot_at entry i) 2 at_entry
entry_numbered =
    record {
      groups = length-replicate {A = ℕ} stack_groups 1;
      slots = λ i within.
          let group : group_of i < stack_groups = omega (arith, within) in
          let number : number_of at_entry i ≡ 1 = get_or-replicate stack_groups (group_of i) 1 0 group in
          let none : included_in at_entry i ≡ 0 = get_or-replicate stack_groups (group_of i) 0 0 group in
          record {
            is = refl;
            some = omega (arith, number);
            below = omega (arith, number);
            includes = λ some. absurd (omega (arith, none, some));
          };
    }

-- ---- joins

-- the meaning of a number after a join
abbrev pub stack_on : Option NumberedFacts → ℕ → Slot
stack_on None i = Bytes 0
stack_on (Some x) i = slot_at x.facts i

pub record IsRightJoin (stacks : Stacks) (n m : ℕ) (old : Option NumberedFacts) (y : NumberedFacts)
    (new : Option NumberedFacts) : Type 0 where
  -- the new facts are the join of the old ones with these
  pub facts : facts_on new ≡ joined (facts_on old) (Some y.facts)
  -- the new facts are numbered, if the new number means their stack
  pub numbered : IsNumberedIf (with_stack stacks n (stack_on new)) m new

same_table : (f : ℕ → Slot) (xs : List Slot)
    → length xs ≡ stack_slots
    → ((k : ℕ) → k < stack_slots → get_or xs k (Bytes 0) ≡ f k)
    → xs ≡ tabulate stack_slots f
unfolding tabulate
same_table f xs long each = fill_by_all f xs stack_slots (Bytes 0) long each

same_facts : (f g : Facts) → f.registers ≡ g.registers → f.slots ≡ g.slots → f ≡ g
same_facts f g p q =
    ap (λ (r : List Kind). let h : Facts = record { registers = r; slots = f.slots } in h) p
    ∙ ap (λ (s : List Slot). let h : Facts = record { registers = g.registers; slots = s } in h) q

module _ (absorb : SlotsAbsorb) (stacks : Stacks) (n m : ℕ) (lt : n < m) (first : 0 < n) where
  right_at : (x y z : NumberedFacts)
      → IsNumbered stacks n x → IsNumbered stacks n y
      → IsJoin n x y z → (i : ℕ) → i < stack_slots
      → IsRightSlot (stacks i) n m (slot_at x.facts i) (slot_at y.facts i) (slot_at z.facts i)
      (number_of z i) (included_in z i)
  right_at x y z hx hy is i within =
      slot_right absorb (stacks i) n m lt first (slot_at x.facts i) (slot_at y.facts i)
      (slot_at z.facts i) (number_of x i) (included_in x i)
      (number_of y i) (included_in y i) (number_of z i) (included_in z i)
      (hx.slots i within) (hy.slots i within) (is.slots i within)

  both_right : (x y z : NumberedFacts)
      → IsNumbered stacks n x → IsNumbered stacks n y
      → IsJoin n x y z
      → IsRightJoin stacks n m (Some x) y (Some z)
  both_right x y z hx hy is =
      record {
        facts = ap Some
            (same_facts z.facts (facts_join x.facts y.facts) is.registers
            (same_table (λ i. slot_join (slot_at x.facts i) (slot_at y.facts i)) z.facts.slots
            is.long
            (λ i within. (right_at x y z hx hy is i within).slot)));
        numbered = record { groups = is.groups; slots = λ i within. (right_at x y z hx hy is i within).numbered };
      }

  -- a join of numbered facts into an edge or an entry gives their join, which is numbered again
  pub right_join : (old : Option NumberedFacts) (y : NumberedFacts) (new : Option NumberedFacts)
      → IsNumberedIf stacks n old → IsNumbered stacks n y
      → IsJoinedBy n old y new
      → IsRightJoin stacks n m old y new
  right_join None y new h hy is =
      subst (λ (o : Option NumberedFacts). IsRightJoin stacks n m None y o) (sym is)
      (record { facts = refl; numbered = numbered_more stacks n m (slot_at y.facts) y hy lt })
  right_join (Some x) y None h hy is = absurd is
  right_join (Some x) y (Some z) h hy is = both_right x y z h hy is
