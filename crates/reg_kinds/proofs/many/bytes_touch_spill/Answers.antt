-- `bytes_touch_spill`: a touched spill that the loop finds is one of all slots (`slot_passes`). If it finds none, there is none, since a slot
-- that it leaves out ends before the bytes or begins after them (`spill_apart`).
use Rattle.std.proofs.Common.{sym, inl, inr, ⊎_elim, arith, below_more}
use Rattle.std.proofs.lemmas.Bool.{cases_lt}
use Rattle.reg_kinds.proofs.SlotTests.{spill_apart}
use Rattle.words.specs.StackLaws.{slot_passes, no_slot_passes}
use Rattle.reg_kinds.proofs.many.bytes_touch_spill.Goals as goal

pub loop-index-init : goal.loop-index-init
loop-index-init c = λ i lt. spill_apart c.args.facts.now c.args.start c.args.count i (inl (omega (arith, lt)))

pub loop-index-preserved : goal.loop-index-preserved
loop-index-preserved c = below_more _ _ c.loop-index.invariant (cc)

pub returns-then-is_touched_spill : goal.returns-then-is_touched_spill
returns-then-is_touched_spill c = sym (slot_passes _ c.loop-index.index (omega arith) (cc))

pub returns : goal.returns
returns c =
    sym (no_slot_passes _ (λ i lt.
    ⊎_elim
    (λ below. c.loop-index.invariant i below)
    (λ past.
    spill_apart c.args.facts.now c.args.start c.args.count i
    (inr (omega (arith, past, c.end_of_touched_slots-index-end.ensures.bytes))))
    (cases_lt i c.loop-index.index)))
