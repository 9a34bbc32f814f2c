-- `settle_stack`: each turn settles the next stack slot, by the contract of `settle_slot`; after the loop all stack slots are settled, and
-- no register has changed.
use Rattle.std.proofs.Common.{◌≡◌, arith, length-set, ap, ◌∙◌}
use Rattle.std.proofs.lemmas.List.{get_or_default}
use Rattle.reg_kinds.specs.declared.kind.Slot.TheVariants.{Bytes}
use Rattle.reg_kinds.specs.declared.facts.Facts.{Facts}
use Rattle.reg_kinds.specs.Kinds.{slot_at, with_slots}
use Rattle.reg_kinds.specs.Settle.{slot_settled}
use Rattle.reg_kinds.proofs.Tables.{filled, fill_more, rest_more, same_facts}
use Rattle.reg_kinds.proofs.null_tests.settle_stack.Goals as goal

pub loop-i-preserved : goal.loop-i-preserved
loop-i-preserved c =
    record {
      long = length-set _ _ _ ∙ c.loop-i.invariant.long;
      kept = c.loop-i.invariant.kept;
      done =
          fill_more (λ k. slot_settled c.args.site c.args.null (slot_at c.args.facts.now k))
          c.loop-i.facts.slots c.loop-i.i _ (Bytes 0) (omega arith)
          (c.settle_slot.ensures
          ∙ ap (slot_settled c.args.site c.args.null)
          (get_or_default c.loop-i.facts.slots c.loop-i.i _ (Bytes 0) (omega arith)
          ∙ c.loop-i.invariant.rest c.loop-i.i (omega arith)))
          c.loop-i.invariant.done;
      rest = rest_more c.loop-i.facts.slots c.args.facts.now.slots c.loop-i.i _ (Bytes 0) c.loop-i.invariant.rest;
    }

pub returns : goal.returns
returns c =
    let after : Facts =
    with_slots c.args.facts.now (λ k. slot_settled c.args.site c.args.null (slot_at c.args.facts.now k)) in
    let table : c.loop-i.facts.slots ≡ after.slots =
    filled _ c.loop-i.facts.slots 64 (Bytes 0) c.loop-i.invariant.long
    (λ k h. c.loop-i.invariant.done k (omega arith)) in
    same_facts _ after c.loop-i.invariant.kept table
