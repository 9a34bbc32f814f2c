-- `join_stack`: each turn writes the join of the next stack slot, by the contract of `join_slot`; after the loop all slots are joined, and
-- no register has changed.
use Rattle.std.proofs.Common.{◌≡◌, arith, length-set, ap₂, ◌∙◌}
use Rattle.std.proofs.lemmas.List.{get_or_default}
use Rattle.reg_kinds.specs.declared.kind.Slot.TheVariants.{Bytes}
use Rattle.reg_kinds.specs.declared.facts.Facts.{Facts}
use Rattle.reg_kinds.specs.Kinds.{slot_at, with_slots}
use Rattle.reg_kinds.specs.Join.{slot_join}
use Rattle.reg_kinds.proofs.Tables.{filled, fill_more, rest_more, same_facts}
use Rattle.reg_kinds.proofs.joins.join_stack.Goals as goal

pub loop-i-preserved : goal.loop-i-preserved
loop-i-preserved c =
    record {
      long = length-set _ _ _ ∙ c.loop-i.invariant.long;
      kept = c.loop-i.invariant.kept;
      done =
          fill_more (λ k. slot_join (slot_at c.args.facts.now k) (slot_at c.args.edge.now k))
          c.loop-i.facts.slots c.loop-i.i _ (Bytes 0) (omega arith)
          (c.join_slot.ensures.slot
          ∙ ap₂ slot_join
          (get_or_default c.loop-i.facts.slots c.loop-i.i _ (Bytes 0) (omega arith)
          ∙ c.loop-i.invariant.rest c.loop-i.i (omega arith))
          (get_or_default c.args.edge.now.slots c.loop-i.i _ (Bytes 0) (omega arith)))
          c.loop-i.invariant.done;
      rest = rest_more c.loop-i.facts.slots c.args.facts.now.slots c.loop-i.i _ (Bytes 0) c.loop-i.invariant.rest;
    }

pub returns : goal.returns
returns c =
    let after : Facts =
    with_slots c.args.facts.now (λ k. slot_join (slot_at c.args.facts.now k) (slot_at c.args.edge.now k)) in
    let table : c.loop-i.facts.slots ≡ after.slots =
    filled _ c.loop-i.facts.slots 64 (Bytes 0) c.loop-i.invariant.long
    (λ k h. c.loop-i.invariant.done k (omega arith)) in
    same_facts _ after c.loop-i.invariant.kept table
