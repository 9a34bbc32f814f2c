-- `settle_both_stacks`: each turn settles the next stack slot for both edges, by the contract of `settle_both_slots`, whose precondition
-- holds since `facts` and `taken` still have the old slot there. After the loop all stack slots are settled, no register has changed.
use Rattle.std.specs.Prelude.{not}
use Rattle.std.proofs.Common.{◌≡◌, arith, length-set, ap, sym, ◌∙◌}
use Rattle.std.proofs.lemmas.List.{get_or_default}
use Rattle.reg_kinds.specs.declared.kind.Slot.TheVariants.{Bytes}
use Rattle.reg_kinds.specs.declared.facts.Facts.{Facts}
use Rattle.reg_kinds.specs.Kinds.{slot_at, with_slots}
use Rattle.reg_kinds.specs.Settle.{slot_settled}
use Rattle.reg_kinds.proofs.Tables.{filled, fill_more, rest_more, same_facts}
use Rattle.reg_kinds.proofs.null_tests.settle_both_stacks.Goals as goal

pub loop-i-preserved : goal.loop-i-preserved
loop-i-preserved c =
    let here =
    get_or_default c.loop-i.facts.slots c.loop-i.i _ (Bytes 0) (omega arith)
    ∙ c.loop-i.invariant.rest c.loop-i.i (omega arith) in
    record {
      long = length-set _ _ _ ∙ c.loop-i.invariant.long;
      kept = c.loop-i.invariant.kept;
      done =
          fill_more (λ k. slot_settled c.args.site (not c.args.null) (slot_at c.args.facts.now k))
          c.loop-i.facts.slots c.loop-i.i _ (Bytes 0) (omega arith)
          (c.settle_both_slots.ensures.falls ∙ ap (slot_settled c.args.site (not c.args.null)) here)
          c.loop-i.invariant.done;
      rest = rest_more c.loop-i.facts.slots c.args.facts.now.slots c.loop-i.i _ (Bytes 0) c.loop-i.invariant.rest;
      taken_long = length-set _ _ _ ∙ c.loop-i.invariant.taken_long;
      taken_kept = c.loop-i.invariant.taken_kept;
      taken_done =
          fill_more (λ k. slot_settled c.args.site c.args.null (slot_at c.args.facts.now k))
          c.loop-i.taken.slots c.loop-i.i _ (Bytes 0) (omega arith)
          (c.settle_both_slots.ensures.taken ∙ ap (slot_settled c.args.site c.args.null) here)
          c.loop-i.invariant.taken_done;
      taken_rest =
          rest_more c.loop-i.taken.slots c.args.facts.now.slots c.loop-i.i _ (Bytes 0) c.loop-i.invariant.taken_rest;
    }

pub settle_both_slots-requires : goal.settle_both_slots-requires
settle_both_slots-requires c =
    get_or_default c.loop-i.taken.slots c.loop-i.i _ (Bytes 0) (omega arith)
    ∙ c.loop-i.invariant.taken_rest c.loop-i.i (omega arith)
    ∙ sym (get_or_default c.loop-i.facts.slots c.loop-i.i _ (Bytes 0) (omega arith)
    ∙ c.loop-i.invariant.rest c.loop-i.i (omega arith))

pub returns-clause-falls : goal.returns-clause-falls
returns-clause-falls c =
    let after : Facts =
    with_slots c.args.facts.now (λ k. slot_settled c.args.site (not c.args.null) (slot_at c.args.facts.now k)) in
    let table : c.loop-i.facts.slots ≡ after.slots =
    filled _ c.loop-i.facts.slots 64 (Bytes 0) c.loop-i.invariant.long
    (λ k h. c.loop-i.invariant.done k (omega arith)) in
    same_facts _ after c.loop-i.invariant.kept table

pub returns-clause-taken : goal.returns-clause-taken
returns-clause-taken c =
    let after : Facts =
    with_slots c.args.taken.now (λ k. slot_settled c.args.site c.args.null (slot_at c.args.facts.now k)) in
    let table : c.loop-i.taken.slots ≡ after.slots =
    filled _ c.loop-i.taken.slots 64 (Bytes 0) c.loop-i.invariant.taken_long
    (λ k h. c.loop-i.invariant.taken_done k (omega arith)) in
    same_facts _ after c.loop-i.invariant.taken_kept table
