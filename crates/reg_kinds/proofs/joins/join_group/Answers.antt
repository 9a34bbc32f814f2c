-- `join_group`: each turn writes the join of the next slot of the group, by the contract of `join_slot`; so after the loop the slots of the
-- group are joined, and all others unchanged (by cases: before, in or after the group). While each join returns false, no slot changes.
use Rattle.std.proofs.Common.{◌≡◌, ℕ, ◌+◌, ◌*◌, ◌<◌, ◌≤◌, ◌==◌, arith, rules, set, length-set, sym, ap, ap₂, ◌∙◌, refl, inl, inr}
use Rattle.std.proofs.lemmas.List.{get_or_default, set-get_or}
use Rattle.std.proofs.lemmas.Bool.{false≢true, cond-true, cond-false, eq-eqb, ne_eqb, cases_lt}
use Rattle.reg_kinds.specs.declared.kind.Slot.TheVariants.{Bytes}
use Rattle.reg_kinds.specs.declared.facts.Facts.{Facts}
use Rattle.reg_kinds.specs.Kinds.{slot_at, with_slots}
use Rattle.reg_kinds.specs.Join.{slot_join, group_of, group_joined}
use Rattle.reg_kinds.proofs.Tables.{filled, fill_more, rest_more, same_facts}
use Rattle.reg_kinds.proofs.joins.join_group.Goals.{then-join_slot, else-join_slot}
use Rattle.reg_kinds.proofs.joins.join_group.Goals as goal

-- a slot of the group, and one of another
inside : (group : ℕ) (a b : Facts) (k : ℕ)
    → 8 * group ≤ k → k < 8 * group + 8
    → group_joined group a b k ≡ slot_join (slot_at a k) (slot_at b k)
inside group a b k low high =
    cond-true (group_of k == group) (slot_join (slot_at a k) (slot_at b k)) (slot_at a k)
    (eq-eqb (group_of k) group (omega (arith, low, high)))

below : (group : ℕ) (a b : Facts) (k : ℕ) → k < 8 * group → group_joined group a b k ≡ slot_at a k
below group a b k lt =
    cond-false (group_of k == group) (slot_join (slot_at a k) (slot_at b k)) (slot_at a k)
    (ne_eqb (group_of k) group (λ e. omega (arith, lt, e)))

above : (group : ℕ) (a b : Facts) (k : ℕ) → 8 * group + 8 ≤ k → group_joined group a b k ≡ slot_at a k
above group a b k le =
    cond-false (group_of k == group) (slot_join (slot_at a k) (slot_at b k)) (slot_at a k)
    (ne_eqb (group_of k) group (λ e. omega (arith, le, e)))

pub loop-i-init : goal.loop-i-init
loop-i-init c =
    record {
      long = search rules;
      kept = refl;
      done = λ k lt. sym (below c.args.group.number c.args.facts.now c.args.edge.now k (omega (arith, lt)));
      rest = λ k le. refl;
      same = λ none. refl;
    }

pub loop-i-preserved : goal.loop-i-preserved
loop-i-preserved c =
    record {
      long = length-set _ _ _ ∙ c.loop-i.invariant.long;
      kept = c.loop-i.invariant.kept;
      done =
          fill_more (group_joined c.args.group.number c.args.facts.now c.args.edge.now)
          c.loop-i.facts.slots c.loop-i.i _ (Bytes 0) (omega arith)
          (c.join_slot.ensures.slot
          ∙ ap₂ slot_join
          (get_or_default c.loop-i.facts.slots c.loop-i.i _ (Bytes 0) (omega arith)
          ∙ c.loop-i.invariant.rest c.loop-i.i (omega arith))
          (get_or_default c.args.edge.now.slots c.loop-i.i _ (Bytes 0) (omega arith))
          ∙ sym (inside c.args.group.number c.args.facts.now c.args.edge.now c.loop-i.i (omega arith) (omega arith)))
          c.loop-i.invariant.done;
      rest = rest_more c.loop-i.facts.slots c.args.facts.now.slots c.loop-i.i _ (Bytes 0) c.loop-i.invariant.rest;
      same = λ none.
          elim c.if-join_slot.branch [
            | then-join_slot w ↦ absurd (false≢true (sym none ∙ w.changes-is))
            | else-join_slot w ↦
                ap (set c.loop-i.facts.slots c.loop-i.i) (c.join_slot.ensures.stays w.if-join_slot.false)
                ∙ set-get_or c.loop-i.facts.slots c.loop-i.i c.index-facts-i.result
                ∙ c.loop-i.invariant.same (sym w.changes-is ∙ none)
          ];
    }

pub returns-clause-facts : goal.returns-clause-facts
returns-clause-facts c =
    let after : Facts = with_slots c.args.facts.now (group_joined c.args.group.number c.args.facts.now c.args.edge.now) in
    let table : c.loop-i.facts.slots ≡ after.slots =
    filled _ c.loop-i.facts.slots 64 (Bytes 0) c.loop-i.invariant.long
    (λ k h.
    elim (cases_lt k c.loop-i.i) [
      | inl lt ↦ c.loop-i.invariant.done k lt
      | inr le ↦ c.loop-i.invariant.rest k le
          ∙ sym (above c.args.group.number c.args.facts.now c.args.edge.now k (omega (arith, le)))
    ]) in
    same_facts _ after c.loop-i.invariant.kept table

pub returns-clause-stack : goal.returns-clause-stack
returns-clause-stack c = c.loop-i.invariant.same
