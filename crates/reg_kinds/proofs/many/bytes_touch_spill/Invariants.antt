-- No stack slot before `index` is a spill that the bytes touch.
use Rattle.std.proofs.Common.{◌≡◌, ℕ, ◌<◌, false}
use Rattle.reg_kinds.specs.Kinds.{slot_at}
use Rattle.words.specs.Stack.{touches}
use Rattle.reg_kinds.specs.Many.{is_touched_spill}
use Rattle.reg_kinds.proofs.many.bytes_touch_spill.Given as goal

abbrev pub invariant-loop-index : goal.invariant-loop-index
invariant-loop-index l =
    (i : ℕ) → i < l.index → is_touched_spill (slot_at l.facts i) (touches l.start l.count i) ≡ false
