-- A step of the pass on facts whose stacks have numbers is the step of the definition.
use Rattle.std.proofs.Common.{◌≡◌, ℕ, zero, suc, ◌+◌, ◌*◌, ◌<◌, ◌≤◌, Bool, true, false, not, List, [], ◌∷◌, length, get_or, Option, Some}
use Rattle.std.proofs.Common.{None, refl, sym, ap, subst, ◌∙◌, inl, inr, arith, set, set-set, length-set, get_or-set_same, get_or-set_other}
use Rattle.std.proofs.lemmas.List.{set_comm, get_or_past}
use Rattle.std.specs.Option.{option_map}
use Rattle.std.proofs.lemmas.Bool.{cases_eq, eq-eqb, ne_eqb}
use Rattle.interval.specs.Refine.{RangePair}
use Rattle.insn_set.specs.declared.insn.Insn.{Insn}
use Rattle.insn_set.specs.declared.insn.Operand.{Operand}
use Rattle.insn_set.specs.declared.insn.Operand.TheVariants.{Imm, Reg}
use Rattle.insn_set.specs.Flow.{jump_target, is_number}
use Rattle.reg_kinds.specs.declared.kind.Kind.{Kind}
use Rattle.reg_kinds.specs.declared.kind.Kind.TheVariants.{Scalar}
use Rattle.reg_kinds.specs.declared.facts.Facts.{Facts}
use Rattle.words.specs.Stack.{stack_slots}
use Rattle.reg_kinds.specs.Join.{group_of}
use Rattle.reg_kinds.specs.Kinds.{slot_at}
use Rattle.reg_kinds.specs.Settle.{facts_settled}
use Rattle.reg_kinds.specs.Stack.{ChangesAtMost}
use Rattle.reg_kinds.specs.Laws.{SlotsAbsorb}
use Rattle.tagged_model.specs.Named.{Shapes}
use Rattle.transfer.specs.declared.branches.Flow.{Flow}
use Rattle.transfer.specs.declared.branches.Flow.TheVariants.{Ends, Falls, WritesSlot, Writes, Jumps, Either, Compares, Settles}
use Rattle.transfer.specs.Branches.{with_pair, falling_of, jumping_of}
use Rattle.transfer.specs.Flows.{edges_of, KeepsStack}
use Rattle.verifier.specs.Before.{joined, only_if}
use Rattle.verifier.specs.declared.numbered_facts.NumberedFacts.{NumberedFacts}
use Rattle.verifier.specs.inside.Arriving.{Brings, brought_to}
use Rattle.verifier.specs.inside.Edges.{falling_from, jumping_from}
use Rattle.verifier.specs.inside.Numbers.{facts_on, entry_of, number_of, included_in, group_renumbered, IsInStack}
use Rattle.verifier.specs.inside.Numbers.{IsNumberedSlot, IsJoinedBy, IsJoinedIf, IsTaken, IsSentIf, with_ranges}
use Rattle.verifier.specs.inside.Numbers.{on_falling_edge, on_jumping_edge, writes_renumbered, IsPast, IsPastIf, IsNumbered, IsNumberedIf, AreNumbered}
use Rattle.verifier.proofs.Numbers.{joined_none, on_none, raised_if, with_held, slot_more, slot_same, slot_fresh, Stacks}
use Rattle.verifier.proofs.Numbers.{with_stack, stack_on, numbered_more, numbered_more_if, numbered_same, numbered_fresh, right_join}

-- ---- the facts on the edges

kinds_twice : (r : List Kind) (d s : ℕ) (a b x y : Kind) → set (set (set (set r d a) s b) d x) s y ≡ set (set r d x) s y
kinds_twice r d s a b x y =
    elim (cases_eq s d) [
      | inl same ↦
          ap (λ (i : ℕ). set (set (set (set r d a) i b) d x) i y) same
          ∙ set-set (set (set r d a) d b) d x y
          ∙ set-set (set r d a) d b y
          ∙ set-set r d a y
          ∙ sym (set-set r d x y)
          ∙ sym (ap (λ (i : ℕ). set (set r d x) i y) same)
      | inr other ↦
          ap (λ (l : List Kind). set l s y) (set_comm (set r d a) s d b x other)
          ∙ set-set (set (set r d a) d x) s b y
          ∙ ap (λ (l : List Kind). set l s y) (set-set r d a x)
    ]

-- ranges that are set again
pub ranged_twice : (x : NumberedFacts) (dst : ℕ) (src : Operand) (p q : RangePair)
    → with_ranges (with_ranges x dst src p) dst src q ≡ with_ranges x dst src q
ranged_twice x dst (Imm z) p q =
    ap (λ (r : List Kind).
    let y : NumberedFacts = record {
      facts = record { registers = r; slots = x.facts.slots };
      numbers = x.numbers;
      includes = x.includes;
    } in
    y)
    (set-set x.facts.registers dst (Scalar p.0) (Scalar q.0))
ranged_twice x dst (Reg s) p q =
    ap (λ (r : List Kind).
    let y : NumberedFacts = record {
      facts = record { registers = r; slots = x.facts.slots };
      numbers = x.numbers;
      includes = x.includes;
    } in
    y)
    (kinds_twice x.facts.registers dst s (Scalar p.0) (Scalar p.1) (Scalar q.0) (Scalar q.1))

ranged_facts : (x : NumberedFacts) (dst : ℕ) (src : Operand) (seen : Option RangePair)
    → facts_on (option_map (with_ranges x dst src) seen) ≡ option_map (with_pair x.facts dst src) seen
ranged_facts x dst src None = refl
ranged_facts x dst src (Some pair) = refl

falling_facts : (flow : Flow) (fresh : ℕ) (x : NumberedFacts)
    → facts_on (on_falling_edge flow fresh x) ≡ (edges_of flow x.facts).falling
falling_facts Ends fresh x = refl
falling_facts Falls fresh x = refl
falling_facts (WritesSlot i) fresh x = refl
falling_facts Writes fresh x = refl
falling_facts Jumps fresh x = refl
falling_facts Either fresh x = refl
falling_facts (Compares dst src falls jumps) fresh x = ranged_facts x dst src falls
falling_facts (Settles site true) fresh x = refl
falling_facts (Settles site false) fresh x = refl

jumping_facts : (flow : Flow) (fresh : ℕ) (x : NumberedFacts)
    → facts_on (on_jumping_edge flow fresh x) ≡ (edges_of flow x.facts).jumping
jumping_facts Ends fresh x = refl
jumping_facts Falls fresh x = refl
jumping_facts (WritesSlot i) fresh x = refl
jumping_facts Writes fresh x = refl
jumping_facts Jumps fresh x = refl
jumping_facts Either fresh x = refl
jumping_facts (Compares dst src falls jumps) fresh x = ranged_facts x dst src jumps
jumping_facts (Settles site true) fresh x = refl
jumping_facts (Settles site false) fresh x = refl

noted_facts : (flow : Flow) (fresh : ℕ) (x : NumberedFacts) → (writes_renumbered flow fresh x).facts ≡ x.facts
noted_facts Ends fresh x = refl
noted_facts Falls fresh x = refl
noted_facts (WritesSlot i) fresh x = refl
noted_facts Writes fresh x = refl
noted_facts Jumps fresh x = refl
noted_facts Either fresh x = refl
noted_facts (Compares dst src falls jumps) fresh x = refl
noted_facts (Settles site null) fresh x = refl

-- if facts change as the flow says, a slot that the flow names is one of the stack
pub in_stack : (flow : Flow) (f g : Facts) → KeepsStack flow f g → IsInStack flow
in_stack (WritesSlot i) f g keeps = keeps.0
in_stack Ends f g keeps = tt
in_stack Falls f g keeps = tt
in_stack Writes f g keeps = tt
in_stack Jumps f g keeps = tt
in_stack Either f g keeps = tt
in_stack (Compares dst src falls jumps) f g keeps = tt
in_stack (Settles site null) f g keeps = tt

-- ---- the numbers of the groups

set_none : (xs : List ℕ) (i : ℕ) → get_or (set xs i 0) i 0 ≡ 0
set_none [] i = get_or_past [] i 0 (omega arith)
set_none (x ∷ xs) zero = refl
set_none (x ∷ xs) (suc i) = set_none xs i

-- other facts with the same numbers
abbrev pub left_with : NumberedFacts → Facts → NumberedFacts
left_with x g = record { facts = g; numbers = x.numbers; includes = x.includes }

module _ (stacks : Stacks) (n m : ℕ) (lt : n < m) (some : 0 < n) where
  more : (x : NumberedFacts) → IsNumbered stacks n x → IsNumbered (with_stack stacks n (slot_at x.facts)) m x
  more x h = numbered_more stacks n m (slot_at x.facts) x h lt

  kept : (x : NumberedFacts) (g : Facts)
      → IsNumbered stacks n x → g.slots ≡ x.facts.slots
      → IsNumbered (with_stack stacks n (slot_at g)) m (left_with x g)
  kept x g h same = more (left_with x g) (numbered_same stacks n x (left_with x g) h same refl refl)

  -- one slot was written: its group has a new number, and other slots are unchanged
  slot_noted : (x : NumberedFacts) (g : Facts) (at : ℕ)
      → IsNumbered stacks n x → ChangesAtMost (Some at) x.facts g
      → (i : ℕ) → i < stack_slots
      → IsNumberedSlot (with_held (stacks i) n (slot_at g i)) m (slot_at g i)
      (number_of (group_renumbered (left_with x g) at n) i)
      (included_in (group_renumbered (left_with x g) at n) i)
  slot_noted x g at h keeps i within =
      let group : group_of i < length x.numbers = let long = h.groups in omega (arith, long, within) in
      elim (cases_eq (group_of i) (group_of at)) [
        | inl same ↦
            slot_fresh (stacks i) n m (slot_at g i)
            (number_of (group_renumbered (left_with x g) at n) i)
            (included_in (group_renumbered (left_with x g) at n) i)
            some lt
            (subst (λ (p : ℕ). get_or (set x.numbers p n) (group_of i) 0 ≡ n) same
            (get_or-set_same x.numbers (group_of i) n 0 group))
            (subst (λ (p : ℕ). get_or (set x.includes p 0) (group_of i) 0 ≡ 0) same (set_none x.includes (group_of i)))
        | inr other ↦
            slot_more (stacks i) n m (slot_at g i) (slot_at g i)
            (number_of (group_renumbered (left_with x g) at n) i)
            (included_in (group_renumbered (left_with x g) at n) i)
            (slot_same (stacks i) n (slot_at x.facts i) (slot_at g i) (number_of x i)
            (included_in x i)
            (number_of (group_renumbered (left_with x g) at n) i)
            (included_in (group_renumbered (left_with x g) at n) i)
            (h.slots i within)
            (keeps.1 i (λ e. other (ap group_of e)))
            (get_or-set_other x.numbers (group_of at) (group_of i) n 0 other)
            (get_or-set_other x.includes (group_of at) (group_of i) 0 0 other))
            lt
      ]

  noted_numbered : (flow : Flow) (x : NumberedFacts) (g : Facts)
      → IsNumbered stacks n x → KeepsStack flow x.facts g
      → IsNumbered (with_stack stacks n (slot_at g)) m (writes_renumbered flow n (left_with x g))
  noted_numbered (WritesSlot at) x g h keeps =
      record {
        groups = length-set x.numbers (group_of at) n ∙ h.groups;
        slots = slot_noted x g at h keeps;
      }
  noted_numbered Writes x g h keeps = numbered_fresh stacks n m g some lt
  noted_numbered Falls x g h keeps = kept x g h keeps
  noted_numbered Ends x g h keeps = kept x g h keeps
  noted_numbered Jumps x g h keeps = kept x g h keeps
  noted_numbered Either x g h keeps = kept x g h keeps
  noted_numbered (Compares dst src falls jumps) x g h keeps = kept x g h keeps
  noted_numbered (Settles site null) x g h keeps = kept x g h keeps

  source_stack : (f : Facts) (dst : ℕ) (src : Operand) (pair : RangePair) → (with_pair f dst src pair).slots ≡ f.slots
  source_stack f dst (Imm z) pair = refl
  source_stack f dst (Reg r) pair = refl

  ranged_numbered : (x : NumberedFacts) (dst : ℕ) (src : Operand) (seen : Option RangePair)
      → IsNumbered stacks n x
      → IsNumberedIf (with_stack stacks n (stack_on (option_map (with_ranges x dst src) seen))) m
      (option_map (with_ranges x dst src) seen)
  ranged_numbered x dst src None h = tt
  ranged_numbered x dst src (Some pair) h =
      more (with_ranges x dst src pair)
      (numbered_same stacks n x (with_ranges x dst src pair) h (source_stack x.facts dst src pair) refl refl)

  jumping_numbered : (flow : Flow) (x : NumberedFacts)
      → IsNumbered stacks n x
      → IsNumberedIf (with_stack stacks n (stack_on (on_jumping_edge flow n x))) m (on_jumping_edge flow n x)
  jumping_numbered Ends x h = tt
  jumping_numbered Falls x h = tt
  jumping_numbered (WritesSlot i) x h = tt
  jumping_numbered Writes x h = tt
  jumping_numbered Jumps x h = more x h
  jumping_numbered Either x h = more x h
  jumping_numbered (Compares dst src falls jumps) x h = ranged_numbered x dst src jumps h
  jumping_numbered (Settles site null) x h = numbered_fresh stacks n m (facts_settled site null x.facts) some lt

  falling_numbered : (flow : Flow) (x : NumberedFacts)
      → IsNumbered stacks n x
      → IsNumberedIf (with_stack stacks n (stack_on (on_falling_edge flow n x))) m (on_falling_edge flow n x)
  falling_numbered Ends x h = tt
  falling_numbered Falls x h = more x h
  falling_numbered (WritesSlot i) x h = more x h
  falling_numbered Writes x h = more x h
  falling_numbered Jumps x h = tt
  falling_numbered Either x h = more x h
  falling_numbered (Compares dst src falls jumps) x h = ranged_numbered x dst src falls h
  falling_numbered (Settles site null) x h = numbered_fresh stacks n m (facts_settled site (not null) x.facts) some lt

-- ---- sending facts

abbrev entry_at : Option ℕ → List (Option NumberedFacts) → Option NumberedFacts
entry_at None entries = None
entry_at (Some to) entries = entry_of to entries

module _ (absorb : SlotsAbsorb) (stacks : Stacks) (n m slot : ℕ) (lt : n < m) (some : 0 < n)
    (old new : List (Option NumberedFacts))
    (ahead : (i : ℕ) → slot ≤ i → IsNumberedIf stacks n (entry_of i old)) where
  pub record IsRightEntry (target : Option ℕ) (facts : Option Facts) (i : ℕ) : Type 0 where
    -- at the target the facts are joined into the entry, at another slot its facts are not changed
    pub brings : Brings target facts old new i
    -- the new entry is numbered, if the new number means the stack of the target's new entry
    pub numbered : IsNumberedIf (with_stack stacks n (stack_on (entry_at target new))) m (entry_of i new)

  same_entry : (target : Option ℕ) (facts : Option Facts) (i : ℕ)
      → slot ≤ i → only_if (is_number target i) facts ≡ None
      → entry_of i new ≡ entry_of i old
      → IsRightEntry target facts i
  same_entry target facts i above none same =
      record {
        brings = ap facts_on same ∙ sym (joined_none (brought_to i old)) ∙ sym (ap (joined (brought_to i old)) none);
        numbered =
            subst (λ (o : Option NumberedFacts). IsNumberedIf (with_stack stacks n (stack_on (entry_at target new))) m o)
            (sym same)
            (numbered_more_if stacks n m (stack_on (entry_at target new)) (entry_of i old)
            (ahead i above) (omega arith));
      }

  -- the entry of the target itself
  target_entry : (to i : ℕ) (y : NumberedFacts)
      → slot ≤ i → i ≡ to
      → IsNumbered stacks n y
      → IsJoinedBy n (entry_of to old) y (entry_of to new)
      → IsRightEntry (Some to) (Some y.facts) i
  target_entry to i y above same numbered joins =
      let right =
      right_join absorb stacks n m lt some (entry_of i old) y (entry_of i new) (ahead i above)
      numbered
      (subst (λ (k : ℕ). IsJoinedBy n (entry_of k old) y (entry_of k new)) (sym same) joins) in
      record {
        brings =
            right.facts
            ∙ sym (ap (λ (b : Bool). joined (brought_to i old) (only_if b (Some y.facts))) (eq-eqb to i (sym same)));
        numbered =
            subst (λ (k : ℕ). IsNumberedIf (with_stack stacks n (stack_on (entry_of k new))) m (entry_of i new))
            same right.numbered;
      }

  -- facts that are sent to a jump's target are joined into its entry, and each entry is numbered again
  pub sent_right : (target : Option ℕ) (sent : Option NumberedFacts)
      → IsNumberedIf stacks n sent → IsSentIf target n sent old new
      → (i : ℕ) → slot ≤ i
      → IsRightEntry target (facts_on sent) i
  sent_right target None numbered is i above =
      same_entry target None i above (on_none (is_number target i)) (ap (entry_of i) is)
  sent_right None (Some y) numbered is i above = same_entry None (Some y.facts) i above refl (ap (entry_of i) is)
  sent_right (Some to) (Some y) numbered is i above =
      elim (cases_eq i to) [
        | inl same ↦ target_entry to i y above same numbered is.0
        | inr other ↦ same_entry (Some to) (Some y.facts) i above
            (ap (λ (b : Bool). only_if b (Some y.facts)) (ne_eqb to i (λ e. other (sym e))))
            (is.1 i other)
      ]

-- ---- a step

module _ (absorb : SlotsAbsorb) (shapes : Shapes) (slot : ℕ) (insn : Insn) where
  pub record IsRightStep (here : Option Facts) (old : List (Option NumberedFacts))
      (falling : Option NumberedFacts) (new : List (Option NumberedFacts)) : Type 0 where
    -- the facts on the falling edge are those that the instruction's effect gives it
    pub falls : facts_on falling ≡ falling_from shapes slot insn here
    -- the facts on the jumping edge are joined into the entry of its target, and into no other later entry
    pub sent : (i : ℕ) → slot < i → Brings (jump_target insn slot) (jumping_from shapes slot insn here) old new i
    -- the facts on the falling edge and in the later entries are numbered, for the next slot
    pub numbered : AreNumbered (slot + 1) (8 * slot + 10) falling new

  -- the current facts after the facts on both edges into the slot are joined
  pub record IsArrived (stacks : Stacks)
      (entries after : List (Option NumberedFacts))
      (falling here : Option NumberedFacts) : Type 0 where
    -- they are the join of the facts on the falling edge and on jumps to the slot
    pub facts : facts_on here ≡ joined (facts_on falling) (brought_to slot entries)
    -- they are numbered, if the new number means their stack
    pub in_hand : IsNumberedIf (with_stack stacks (8 * slot + 2) (stack_on here)) (8 * slot + 3) here
    -- the entries of later slots are still numbered
    pub ahead : (i : ℕ)
        → slot + 1 ≤ i
        → IsNumberedIf (with_stack stacks (8 * slot + 2) (stack_on here)) (8 * slot + 3) (entry_of i after)

  meets : (stacks : Stacks) (falling entry here : Option NumberedFacts)
      → IsNumberedIf stacks (8 * slot + 2) falling → IsNumberedIf stacks (8 * slot + 2) entry
      → IsJoinedIf (8 * slot + 2) falling entry here
      → (facts_on here ≡ joined (facts_on falling) (facts_on entry))
      × IsNumberedIf (with_stack stacks (8 * slot + 2) (stack_on here)) (8 * slot + 3) here
  meets stacks falling None here h k is = (
    ap facts_on is ∙ sym (joined_none (facts_on falling)),
    numbered_more_if stacks (8 * slot + 2) (8 * slot + 3) (stack_on here) here
        (subst (λ (o : Option NumberedFacts). IsNumberedIf stacks (8 * slot + 2) o) (sym is) h)
        (omega arith),
  )
  meets stacks falling (Some y) here h k is =
      let lt : 8 * slot + 2 < 8 * slot + 3 = omega arith in
      let right = right_join absorb stacks (8 * slot + 2) (8 * slot + 3) lt (omega arith) falling y here h k is in
      (right.facts, right.numbered)

  -- after an instruction
  pub past : (stacks : Stacks) (x : NumberedFacts) (old : List (Option NumberedFacts))
      (falling : Option NumberedFacts) (new : List (Option NumberedFacts))
      → IsNumbered stacks (8 * slot + 3) x
      → ((i : ℕ) → slot + 1 ≤ i → IsNumberedIf stacks (8 * slot + 3) (entry_of i old))
      → IsPast shapes slot insn x old falling new
      → IsRightStep (Some x.facts) old falling new
  past stacks x old falling new numbered ahead p =
      let n2 = 8 * slot + 3 in
      let n3 = 8 * slot + 4 in
      let n4 = 8 * slot + 5 in
      let n5 = 8 * slot + 6 in
      let n9 = 8 * slot + 10 in
      let l2 : n2 < n3 = omega arith in
      let l3 : n3 < n4 = omega arith in
      let l4 : n4 < n5 = omega arith in
      let l5 : n5 < n9 = omega arith in
      let target = jump_target insn slot in
      let y : NumberedFacts = writes_renumbered p.flow n2 (left_with x p.facts) in
      let s1 : Stacks = with_stack stacks n2 (slot_at p.facts) in
      let jumping : Option NumberedFacts = on_jumping_edge p.flow n3 y in
      let s2 : Stacks = with_stack s1 n3 (stack_on jumping) in
      let fallen : Option NumberedFacts = on_falling_edge p.flow n4 y in
      let s3 : Stacks = with_stack s2 n4 (stack_on fallen) in
      let s4 : Stacks = with_stack s3 n5 (stack_on (entry_at target new)) in
      let in_hand : IsNumbered s1 n3 y =
      noted_numbered stacks n2 n3 l2 (omega arith) p.flow x p.facts numbered p.stack in
      let sends : IsNumberedIf s2 n4 jumping = jumping_numbered s1 n3 n4 l3 (omega arith) p.flow y in_hand in
      let keeps : IsNumberedIf s3 n5 fallen =
      falling_numbered s2 n4 n5 l4 (omega arith) p.flow y (numbered_more s1 n3 n4 (stack_on jumping) y in_hand l3) in
      let left : (i : ℕ) → slot + 1 ≤ i → IsNumberedIf s3 n5 (entry_of i old) =
      λ i above.
      numbered_more_if s2 n4 n5 (stack_on fallen) (entry_of i old)
      (numbered_more_if s1 n3 n4 (stack_on jumping) (entry_of i old)
      (numbered_more_if stacks n2 n3 (slot_at p.facts) (entry_of i old) (ahead i above) l2) l3) l4 in
      let sent : IsNumberedIf s3 n5 jumping = numbered_more_if s2 n4 n5 (stack_on fallen) jumping sends l4 in
      let entry : (i : ℕ)
      → slot + 1 ≤ i
      → IsRightEntry absorb s3 n5 n9 (slot + 1) l5 (omega arith) old new left target (facts_on jumping) i =
      sent_right absorb s3 n5 n9 (slot + 1) l5 (omega arith) old new left target jumping sent p.sent in
      let facts : y.facts ≡ p.facts = noted_facts p.flow n2 (left_with x p.facts) in
      let falls : facts_on falling ≡ falling_from shapes slot insn (Some x.facts) =
      ap facts_on p.falls
      ∙ falling_facts p.flow n4 y
      ∙ ap (λ (f : Facts). (edges_of p.flow f).falling) facts
      ∙ sym (ap falling_of p.edges) in
      let jumps : facts_on jumping ≡ jumping_from shapes slot insn (Some x.facts) =
      jumping_facts p.flow n3 y ∙ ap (λ (f : Facts). (edges_of p.flow f).jumping) facts ∙ sym (ap jumping_of p.edges) in
      record {
        falls = falls;
        sent = λ i above.
            let next : slot + 1 ≤ i = omega (arith, above) in
            (entry i next).brings
            ∙ ap (λ (o : Option Facts). joined (brought_to i old) (only_if (is_number target i) o)) jumps;
        numbered = record {
          stacks = s4;
          in_hand =
              numbered_more_if s3 n5 n9 (stack_on (entry_at target new)) falling
              (subst (λ (o : Option NumberedFacts). IsNumberedIf s3 n5 o) (sym p.falls) keeps)
              l5;
          ahead = λ i above. (entry i above).numbered;
        };
      }

  -- the facts on both edges into a slot, joined
  pub arrived : (stacks : Stacks) (entries after : List (Option NumberedFacts))
      (falling here : Option NumberedFacts)
      → IsNumberedIf stacks (8 * slot + 2) falling
      → ((i : ℕ) → slot ≤ i → IsNumberedIf stacks (8 * slot + 2) (entry_of i entries))
      → IsTaken slot (8 * slot + 2) entries after falling here
      → IsArrived stacks entries after falling here
  arrived stacks entries after falling here in_hand ahead taken =
      let n1 = 8 * slot + 2 in
      let n2 = 8 * slot + 3 in
      let lt : n1 < n2 = omega arith in
      let met = meets stacks falling (entry_of slot entries) here in_hand (ahead slot (omega arith)) taken.0 in
      record {
        facts = met.0;
        in_hand = met.1;
        ahead = λ i above.
            let low : slot < i = omega (arith, above) in
            let more =
            numbered_more_if stacks n1 n2 (stack_on here) (entry_of i entries) (ahead i (omega (arith, above))) lt in
            subst (λ (o : Option NumberedFacts). IsNumberedIf (with_stack stacks n1 (stack_on here)) n2 o)
            (sym (taken.1 i low)) more;
      }

  nothing_sent : (old new : List (Option NumberedFacts))
      → new ≡ old → (i : ℕ) → Brings (jump_target insn slot) None old new i
  nothing_sent old new same i =
      ap (brought_to i) same
      ∙ sym (joined_none (brought_to i old))
      ∙ sym (ap (joined (brought_to i old)) (on_none (is_number (jump_target insn slot) i)))

  -- after an instruction, if there are facts
  past_if : (stacks : Stacks) (here : Option NumberedFacts) (old : List (Option NumberedFacts))
      (after : Option NumberedFacts) (new : List (Option NumberedFacts))
      → IsNumberedIf stacks (8 * slot + 3) here
      → ((i : ℕ) → slot + 1 ≤ i → IsNumberedIf stacks (8 * slot + 3) (entry_of i old))
      → IsPastIf shapes slot insn here old after new
      → IsRightStep (facts_on here) old after new
  past_if stacks None old after new in_hand ahead none =
      record {
        falls = ap facts_on none.0;
        sent = λ i above. nothing_sent old new none.1 i;
        numbered = record {
          stacks = stacks;
          in_hand = subst (λ (o : Option NumberedFacts). IsNumberedIf stacks (8 * slot + 10) o) (sym none.0) tt;
          ahead = λ i above.
              subst (λ (es : List (Option NumberedFacts)). IsNumberedIf stacks (8 * slot + 10) (entry_of i es))
              (sym none.1)
              (raised_if stacks (8 * slot + 3) (8 * slot + 10) (entry_of i old) (omega arith) (ahead i above));
        };
      }
  past_if stacks (Some x) old after new in_hand ahead p = past stacks x old after new in_hand ahead p

  -- the facts arrive, and the instruction is applied
  pub stepped : (entries middle new : List (Option NumberedFacts))
      (falling here after : Option NumberedFacts)
      → AreNumbered slot (8 * slot + 2) falling entries
      → IsTaken slot (8 * slot + 2) entries middle falling here
      → IsPastIf shapes slot insn here middle after new
      → IsRightStep (joined (facts_on falling) (brought_to slot entries)) entries after new
  stepped entries middle new falling here after numbered taken left =
      let arrival = arrived numbered.stacks entries middle falling here numbered.in_hand numbered.ahead taken in
      let step =
      past_if (with_stack numbered.stacks (8 * slot + 2) (stack_on here)) here middle after new
      arrival.in_hand arrival.ahead left in
      let from : (i : ℕ) → slot < i → brought_to i middle ≡ brought_to i entries =
      λ i above. ap facts_on (taken.1 i above) in
      subst (λ (o : Option Facts). IsRightStep o entries after new) arrival.facts
      (record {
        falls = step.falls;
        sent = λ i above.
            step.sent i above
            ∙ ap (λ (o : Option Facts).
            joined o (only_if (is_number (jump_target insn slot) i) (jumping_from shapes slot insn (facts_on here))))
            (from i above);
        numbered = step.numbered;
      })
