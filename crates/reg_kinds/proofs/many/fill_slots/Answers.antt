-- `fill_slots`: each turn writes what is known of the next stack slot after the helper's write, by the contract of `filled_slot`; after the
-- loop all slots are written so, and no register has changed.
use Rattle.std.proofs.Common.{◌≡◌, ℕ, arith, length-set, ap, ◌∙◌, if◌then◌else◌}
use Rattle.reg_kinds.specs.declared.kind.Slot.{Slot}
use Rattle.reg_kinds.specs.declared.kind.Slot.TheVariants.{Bytes}
use Rattle.reg_kinds.specs.declared.facts.Facts.{Facts}
use Rattle.reg_kinds.specs.Kinds.{slot_at, with_slots}
use Rattle.reg_kinds.specs.Stack.{bytes_over}
use Rattle.words.specs.Stack.{touches}
use Rattle.reg_kinds.specs.Many.{bits_in}
use Rattle.reg_kinds.proofs.Tables.{filled, fill_more, rest_more, same_facts}
use Rattle.reg_kinds.proofs.many.fill_slots.Goals as goal

pub loop-i-preserved : goal.loop-i-preserved
loop-i-preserved c =
    let over =
    λ (s : Slot) (k : ℕ).
    if touches c.args.start c.args.most k then bytes_over s (bits_in c.args.start c.args.least k) else s in
    record {
      long = length-set _ _ _ ∙ c.loop-i.invariant.long;
      kept = c.loop-i.invariant.kept;
      done =
          fill_more (λ k. over (slot_at c.args.facts.now k) k) c.loop-i.facts.slots c.loop-i.i _
          (Bytes 0) (omega arith)
          (c.filled_slot.ensures
          ∙ ap (λ s. over s c.loop-i.i) (c.slot.ensures ∙ c.loop-i.invariant.rest c.loop-i.i (omega arith)))
          c.loop-i.invariant.done;
      rest = rest_more c.loop-i.facts.slots c.args.facts.now.slots c.loop-i.i _ (Bytes 0) c.loop-i.invariant.rest;
    }

pub returns : goal.returns
returns c =
    let after : Facts =
    with_slots c.args.facts.now
    (λ k.
    if touches c.args.start c.args.most k
    then bytes_over (slot_at c.args.facts.now k) (bits_in c.args.start c.args.least k)
    else slot_at c.args.facts.now k) in
    let table : c.loop-i.facts.slots ≡ after.slots =
    filled _ c.loop-i.facts.slots 64 (Bytes 0) c.loop-i.invariant.long
    (λ k h. c.loop-i.invariant.done k (omega arith)) in
    same_facts _ after c.loop-i.invariant.kept table
