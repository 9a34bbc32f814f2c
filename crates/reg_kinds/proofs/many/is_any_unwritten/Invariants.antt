-- Of the bytes, no stack slot before `index` has one that may be unwritten.
use Rattle.std.proofs.Common.{◌≡◌, ℕ, ◌<◌, false}
use Rattle.reg_kinds.specs.Kinds.{slot_at}
use Rattle.reg_kinds.specs.Many.{lacks, bits_in}
use Rattle.reg_kinds.proofs.many.is_any_unwritten.Given as goal

abbrev pub invariant-loop-index : goal.invariant-loop-index
invariant-loop-index l = (i : ℕ) → i < l.index → lacks (slot_at l.facts i) (bits_in l.start l.count i) ≡ false
