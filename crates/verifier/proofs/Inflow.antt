-- The forward pass has the same facts as the definition, which joins the edges from all slots below.
use Rattle.std.proofs.Common.{◌≡◌, ℕ, ◌+◌, ◌<◌, ◌≤◌, inl, inr, Bool, true, false, ◌&&◌, ◌*◌, List, [], length}
use Rattle.std.proofs.Common.{Option, Some, None, Result, Ok, Err, refl, sym, ap, subst, ◌∙◌, add-one, arith}
use Rattle.std.specs.Prelude.{◌==◌, nat_lt, is_some, if◌then◌else◌}
use Rattle.std.proofs.Math.Bool.{and-true}
use Rattle.std.proofs.lemmas.Bool.{false≢true, cases_order, cases_eq, eq-eqb, ne_eqb, lt-ltb}
use Rattle.std.proofs.lemmas.List.{get_or_past}
use Rattle.std.proofs.lemmas.Option.{none-some}
use Rattle.insn_set.specs.declared.insn.Insn.{Insn}
use Rattle.insn_set.specs.declared.insn.Insn.TheVariants.{Ja, Jal, Exit}
use Rattle.insn_set.specs.Spelling.{slots}
use Rattle.insn_set.specs.Program.{begins_at, slot_count, Adjoins}
use Rattle.insn_set.specs.BeginLaws.{some_slots, adjoins_after, none_begins_inside, first_begins}
use Rattle.reg_kinds.specs.declared.facts.Facts.{Facts}
use Rattle.reg_kinds.specs.declared.kind.Kind.{Kind}
use Rattle.reg_kinds.specs.declared.kind.Slot.{Slot}
use Rattle.reg_kinds.specs.declared.kind.Kind.TheVariants.{Scalar}
use Rattle.reg_kinds.specs.declared.reason.Reason.{Reason}
use Rattle.reg_kinds.specs.Reason.{and_then_ok}
use Rattle.reg_kinds.specs.Join.{facts_join}
use Rattle.reg_kinds.specs.Kinds.{entry, kind_at, slot_at}
use Rattle.reg_kinds.specs.Laws.{FactsCommute, FactsAssociate}
use Rattle.tagged_model.specs.Cells.{and_then}
use Rattle.tagged_model.specs.Named.{Shapes}
use Rattle.transfer.specs.Arithmetic.{check_readable}
use Rattle.transfer.specs.Branches.{Edges, falling_of, jumping_of}
use Rattle.transfer.specs.Effects.{effect, exits_with}
use Rattle.insn_set.specs.Flow.{falls_to, jumps_to, falls, jumps, jump_target, is_number}
use Rattle.verifier.specs.declared.pass.Pass.{Pass}
use Rattle.verifier.specs.declared.numbered_facts.NumberedFacts.{NumberedFacts}
use Rattle.verifier.specs.inside.Numbers.{facts_on, entry_of, at_entry, IsNumbered, IsNumberedIf, AreNumbered}
use Rattle.verifier.proofs.Numbers.{joined_none, on_none, raised, entry_numbered}
use Rattle.verifier.specs.Shape.{falls_into, jumps_into}
use Rattle.verifier.specs.Before.{joined, only_if, edges_into, facts_sent, facts_from_below, facts_before}
use Rattle.verifier.specs.inside.Arriving.{brought_to, Brings, arriving_at}
use Rattle.verifier.specs.inside.Edges.{falling_from, jumping_from, reason_from}
use Rattle.verifier.specs.Verdict.{reason_of, safety_fault, IsFirstFault}

-- ---- joins in a different order

joined_swap : FactsCommute → FactsAssociate → (a b c : Option Facts) → joined a (joined b c) ≡ joined b (joined a c)
joined_swap comm assoc None b c = refl
joined_swap comm assoc (Some f) None c = refl
joined_swap comm assoc (Some f) (Some g) None = ap Some (comm f g)
joined_swap comm assoc (Some f) (Some g) (Some h) =
    ap Some (sym (assoc f g h) ∙ ap (λ (x : Facts). facts_join x h) (comm f g) ∙ assoc g f h)

-- for the shapes of the maps
module _ (shapes : Shapes) where
  -- ---- the edges out of an instruction

  no_fall : (b c : Bool) (o : Option Facts) → None ≡ o → only_if b o ≡ only_if (false && c) o
  no_fall b c o none = sym (ap (only_if b) none) ∙ on_none b

  end_falls : (k : Kind) → falling_of (exits_with k) ≡ None
  end_falls (Scalar r) = refl
  end_falls _ = refl

  given_end_falls : (r : Result Kind Reason) → falling_of (and_then_ok r exits_with) ≡ None
  given_end_falls (Ok k) = end_falls k
  given_end_falls (Err e) = refl

  -- an instruction that does not fall through has no falling edge
  fall_is : (at : ℕ) (i : Insn) (f : Facts) (b : Bool)
      → only_if b (falling_of (effect shapes at i f)) ≡ only_if (falls i && b) (falling_of (effect shapes at i f))
  fall_is at (Ja off) f b = on_none b
  fall_is at (Jal off) f b = on_none b
  fall_is at Exit f b =
      no_fall b b (falling_of (effect shapes at Exit f)) (sym (given_end_falls (check_readable (kind_at f 0))))
  fall_is at i f b = refl

  -- an instruction that does not jump has no target
  target_is : (b : Bool) (o : Option ℕ) (n i : ℕ)
      → n < i → is_number (if b then o else None) i ≡ (b && is_number o i && nat_lt n i)
  target_is true o n i lt = sym (ap (λ (x : Bool). is_number o i && x) (lt-ltb n i lt) ∙ and-true (is_number o i))
  target_is false o n i lt = refl

  neither : (b c : Bool) → joined (only_if b None) (only_if c None) ≡ None
  neither b c = ap (λ (x : Option Facts). joined x (only_if c None)) (on_none b) ∙ on_none c

  both_edges : (insn : Insn) (n i : ℕ) (r : Result Edges Reason)
      → joined (only_if (falls_into insn n i) (falling_of r)) (only_if (jumps_into insn n i) (jumping_of r))
      ≡ edges_into insn n i r
  both_edges insn n i (Ok edges) = refl
  both_edges insn n i (Err reason) = neither (falls_into insn n i) (jumps_into insn n i)

  -- the edges as the pass sends them
  edges_are : (insn : Insn) (n i : ℕ)
      → n < i → (here : Option Facts)
      → joined (only_if (falls_to insn n == i) (falling_from shapes n insn here))
      (only_if (is_number (jump_target insn n) i) (jumping_from shapes n insn here))
      ≡ and_then here (λ f. edges_into insn n i (effect shapes n insn f))
  edges_are insn n i lt None = neither (falls_to insn n == i) (is_number (jump_target insn n) i)
  edges_are insn n i lt (Some f) =
      ap (λ (x : Option Facts).
      joined x (only_if (is_number (jump_target insn n) i) (jumping_of (effect shapes n insn f))))
      (fall_is n insn f (falls_to insn n == i))
      ∙ ap (λ (b : Bool).
      joined (only_if (falls_into insn n i) (falling_of (effect shapes n insn f)))
      (only_if b (jumping_of (effect shapes n insn f))))
      (target_is (jumps insn) (jumps_to insn n) n i lt)
      ∙ both_edges insn n i (effect shapes n insn f)

  -- ---- the facts of the pass before a slot

  -- The current facts belong to the next instruction. With the entry of a later slot they are all that the slots below send to it.
  pub record IsBefore (code : List Insn) (slot : ℕ) (pass : Pass) : Type 0 where
    -- the slot to which the facts on the falling edge belong
    pub due : ℕ
    -- it is this slot or a later one
    pub ahead : slot ≤ due
    -- an instruction begins at it, or it is the end of the program
    pub adjoins : Adjoins code due
    -- no instruction begins at a slot from this one on that is below it
    pub between : (k : ℕ) → slot ≤ k → k < due → begins_at code k ≡ None
    -- the numbers of all facts of the pass mean the stacks that they have, and are below a bound of this slot
    pub numbered : AreNumbered slot (8 * slot + 2) pass.falling pass.entries
    -- at each slot from this one on, the facts of the pass are those that the slots below this one pass on to it
    pub each : (i : ℕ)
        → slot ≤ i → i < slot_count code
        → joined (only_if (due == i) (facts_on pass.falling)) (brought_to i pass.entries)
        ≡ facts_from_below shapes code i slot

  inflow_first : (code : List Insn) (i : ℕ) → facts_from_below shapes code i 0 ≡ (if i == 0 then Some entry else None)
  unfolding facts_from_below
  inflow_first code i = refl

  inflow_next : (code : List Insn) (i n : ℕ)
      → facts_from_below shapes code i (n + 1)
      ≡ joined (facts_from_below shapes code i n) (facts_sent shapes code n i (facts_from_below shapes code n n))
  unfolding facts_from_below
  inflow_next code i n = ap (λ (k : ℕ). facts_from_below shapes code i k) (add-one n)

  nothing_at : (i : ℕ) (entries : List (Option NumberedFacts)) → entries ≡ [] → entry_of i entries ≡ None
  nothing_at i entries empty = ap (entry_of i) empty ∙ get_or_past [] i None (omega arith)

  -- a pass with the facts at program entry on the falling edge, and no entries, has the facts before slot 0
  pub at_start : (code : List Insn) (pass : Pass)
      → 1 ≤ slot_count code → pass.falling ≡ Some at_entry
      → pass.entries ≡ []
      → IsBefore code 0 pass
  at_start code pass some first empty =
      let known : facts_on pass.falling ≡ Some entry = ap facts_on first in
      let stacks : ℕ → ℕ → Slot = λ i _. slot_at entry i in
      let numbered : IsNumbered stacks 2 at_entry = entry_numbered in
      record {
        due = 0;
        ahead = omega arith;
        adjoins = inr (omega arith, first_begins code some);
        between = λ k above lt. absurd (omega arith);
        numbered = record {
          stacks = stacks;
          in_hand = subst (λ (o : Option NumberedFacts). IsNumberedIf stacks 2 o) (sym first) numbered;
          ahead = λ i above.
              subst (λ (o : Option NumberedFacts). IsNumberedIf stacks 2 o) (sym (nothing_at i pass.entries empty)) tt;
        };
        each = λ i above lt.
            ap (λ (f : Option Facts). joined (only_if (0 == i) f) (brought_to i pass.entries)) known
            ∙ ap (λ (o : Option NumberedFacts). joined (only_if (0 == i) (Some entry)) (facts_on o))
            (nothing_at i pass.entries empty)
            ∙ joined_none (only_if (0 == i) (Some entry))
            ∙ elim (cases_eq i 0) [
              | inl same ↦
                  ap (λ (b : Bool). only_if b (Some entry)) (eq-eqb 0 i (sym same))
                  ∙ sym (ap (λ (b : Bool). only_if b (Some entry)) (eq-eqb i 0 same))
              | inr other ↦
                  ap (λ (b : Bool). only_if b (Some entry)) (ne_eqb 0 i (λ e. other (sym e)))
                  ∙ sym (ap (λ (b : Bool). only_if b (Some entry)) (ne_eqb i 0 other))
            ]
            ∙ sym (inflow_first code i);
      }

  -- if an instruction begins at the slot, the current facts belong to it
  due_here : {code : List Insn} {slot : ℕ} {pass : Pass} {insn : Insn} (b : IsBefore code slot pass)
      → begins_at code slot ≡ Some insn → b.due ≡ slot
  due_here {slot = slot} {insn = insn} b begins =
      elim (cases_order b.due slot) [
        | inl same ↦ same
        | inr (inl below) ↦ absurd (omega (arith, b.ahead))
        | inr (inr above) ↦ absurd (none-some insn (sym (b.between slot (omega arith) above) ∙ begins))
      ]

  -- the facts before the instruction
  pub here_is : {code : List Insn} {slot : ℕ} {pass : Pass} {insn : Insn}
      → IsBefore code slot pass → begins_at code slot ≡ Some insn
      → slot < slot_count code
      → arriving_at slot pass ≡ facts_before shapes code slot
  here_is {slot = slot} {pass = pass} b begins lt =
      sym (ap (λ (t : Bool). joined (only_if t (facts_on pass.falling)) (brought_to slot pass.entries))
      (eq-eqb b.due slot (due_here b begins)))
      ∙ b.each slot (omega arith) lt

  entry_is : {code : List Insn} {slot : ℕ} {pass : Pass} (b : IsBefore code slot pass) (i : ℕ)
      → slot ≤ i → i < slot_count code
      → (b.due ≡ i → ⊥)
      → brought_to i pass.entries ≡ facts_from_below shapes code i slot
  entry_is {pass = pass} b i above lt other =
      sym (ap (λ (t : Bool). joined (only_if t (facts_on pass.falling)) (brought_to i pass.entries))
      (ne_eqb b.due i other))
      ∙ b.each i above lt

  sent_is : (code : List Insn) (n i : ℕ) (insn : Insn) (here : Option Facts)
      → begins_at code n ≡ Some insn
      → facts_sent shapes code n i here ≡ and_then here (λ f. edges_into insn n i (effect shapes n insn f))
  sent_is code n i insn None begins = refl
  sent_is code n i insn (Some f) begins =
      ap (λ (o : Option Insn). and_then o (λ insn. edges_into insn n i (effect shapes n insn f))) begins

  -- after an instruction that may be run
  pub after_insn : {code : List Insn} {slot : ℕ} {old : Pass} {insn : Insn}
      → FactsCommute → FactsAssociate
      → (new : Pass) → IsBefore code slot old → begins_at code slot ≡ Some insn
      → slot < slot_count code
      → facts_on new.falling ≡ falling_from shapes slot insn (arriving_at slot old)
      → ((i : ℕ) → slot < i
      → Brings (jump_target insn slot) (jumping_from shapes slot insn (arriving_at slot old)) old.entries new.entries i)
      → AreNumbered (slot + 1) (8 * slot + 10) new.falling new.entries
      → IsBefore code (slot + 1) new
  after_insn {code = code} {slot = slot} {old = old} {insn = insn} comm assoc new b begins lt fall jump numbered =
      let here : Option Facts = arriving_at slot old in
      let falling_edge : Option Facts = falling_from shapes slot insn here in
      let jumping_edge : Option Facts = jumping_from shapes slot insn here in
      let due = due_here b begins in
      record {
        due = slot + length (slots insn);
        ahead = omega (arith, some_slots insn);
        adjoins = adjoins_after code slot insn begins;
        between = λ k above below. none_begins_inside code slot insn begins k (omega arith) below;
        numbered =
            raised (slot + 1) (slot + 1) (8 * slot + 10) (8 * (slot + 1) + 2) new.falling
            new.entries (omega arith) (omega arith) numbered;
        each = λ i above within.
            let was : brought_to i old.entries ≡ facts_from_below shapes code i slot =
            entry_is b i (omega arith) within (λ e. omega arith) in
            let known = here_is b begins lt in
            let fall_edge : Option Facts = only_if (falls_to insn slot == i) falling_edge in
            let jump_edge : Option Facts = only_if (is_number (jump_target insn slot) i) jumping_edge in
            ap (λ (f : Option Facts). joined (only_if (falls_to insn slot == i) f) (brought_to i new.entries)) fall
            ∙ ap (joined fall_edge) (jump i (omega arith))
            ∙ joined_swap comm assoc fall_edge (brought_to i old.entries) jump_edge
            ∙ ap (joined (brought_to i old.entries)) (edges_are insn slot i (omega arith) here)
            ∙ ap (joined (brought_to i old.entries)) (sym (sent_is code slot i insn here begins))
            ∙ ap (λ (f : Option Facts). joined f (facts_sent shapes code slot i here)) was
            ∙ ap (λ (h : Option Facts). joined (facts_from_below shapes code i slot) (facts_sent shapes code slot i h))
            known
            ∙ sym (inflow_next code i slot);
      }

  sent_none : (code : List Insn) (n i : ℕ) (here : Option Facts)
      → begins_at code n ≡ None → facts_sent shapes code n i here ≡ None
  sent_none code n i None none = refl
  sent_none code n i (Some f) none =
      ap (λ (o : Option Insn). and_then o (λ insn. edges_into insn n i (effect shapes n insn f))) none

  not_first : (code : List Insn) (slot : ℕ)
      → Adjoins code slot → slot < slot_count code → begins_at code slot ≡ None → ⊥
  not_first code slot (inl end) lt none = omega arith
  not_first code slot (inr more) lt none = false≢true (sym (ap is_some none) ∙ more.1)

  -- after a slot at which no instruction begins
  pub after_none : {code : List Insn} {slot : ℕ} {pass : Pass}
      → IsBefore code slot pass → begins_at code slot ≡ None
      → slot < slot_count code
      → IsBefore code (slot + 1) pass
  after_none {code = code} {slot = slot} {pass = pass} b none lt =
      let later : b.due ≡ slot → ⊥ = λ e. not_first code slot (subst (λ (n : ℕ). Adjoins code n) e b.adjoins) lt none in
      record {
        due = b.due;
        ahead = omega (arith, b.ahead, later);
        adjoins = b.adjoins;
        between = λ k above below. b.between k (omega arith) below;
        numbered =
            raised slot (slot + 1) (8 * slot + 2) (8 * (slot + 1) + 2) pass.falling pass.entries
            (omega arith) (omega arith) b.numbered;
        each = λ i above within.
            b.each i (omega arith) within
            ∙ sym (joined_none (facts_from_below shapes code i slot))
            ∙ sym (ap (joined (facts_from_below shapes code i slot))
            (sent_none code slot i (facts_from_below shapes code slot slot) none))
            ∙ sym (inflow_next code i slot);
      }

  -- ---- the fault at a slot

  -- the reason why the instruction at a slot may not be run, with the facts before it, is the slot's fault of safety
  pub safety_is : (code : List Insn) (slot : ℕ) {insn : Insn} {here : Option Facts} {r : Option Reason}
      → here ≡ facts_before shapes code slot → begins_at code slot ≡ Some insn
      → reason_from shapes slot insn here ≡ r
      → safety_fault shapes code slot ≡ r
  unfolding safety_fault
  safety_is code slot {here = here} known begins is =
      ap (λ (h : Option Facts).
      and_then h (λ f. and_then (begins_at code slot) (λ i. reason_of (effect shapes slot i f))))
      (sym known)
      ∙ ap (λ (o : Option Insn). and_then here (λ f. and_then o (λ i. reason_of (effect shapes slot i f)))) begins
      ∙ is

  no_reason : (slot : ℕ) (here : Option Facts) (o : Option Insn)
      → o ≡ None → and_then here (λ f. and_then o (λ i. reason_of (effect shapes slot i f))) ≡ None
  no_reason slot None o none = refl
  no_reason slot (Some f) o none = ap (λ (x : Option Insn). and_then x (λ i. reason_of (effect shapes slot i f))) none

  -- a slot at which no instruction begins has no fault of safety
  pub safe_none : (code : List Insn) (slot : ℕ) → begins_at code slot ≡ None → safety_fault shapes code slot ≡ None
  unfolding safety_fault
  safe_none code slot none = no_reason slot (facts_before shapes code slot) (begins_at code slot) none

  -- a fault at a slot below which no slot has one is the first fault
  pub first_at : (fault_at : ℕ → Option Reason) (n slot : ℕ) (reason : Reason)
      → n ≡ slot → fault_at slot ≡ Some reason
      → ((k : ℕ) → k < slot → fault_at k ≡ None)
      → IsFirstFault fault_at n reason
  first_at fault_at n slot reason same is below =
      record { here = ap fault_at same ∙ is; below = λ k lt. below k (omega arith) }
