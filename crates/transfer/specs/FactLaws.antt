-- Laws of facts that are well formed at a slot, of the definitions of `Sound`, proved here for the
-- proofs of the crates above. This project's own. No contract cites them, so they are not part of
-- what has to be trusted.
use Rattle.std.proofs.Common.{ℕ, ◌<◌, arith}
use Rattle.reg_kinds.specs.declared.kind.Kind.{Kind}
use Rattle.reg_kinds.specs.declared.kind.Kind.TheVariants as kind
use Rattle.reg_kinds.specs.declared.kind.Slot.{Slot}
use Rattle.reg_kinds.specs.declared.kind.Slot.TheVariants.{Bytes, Spill}
use Rattle.reg_kinds.specs.declared.facts.Facts.{Facts}
use Rattle.reg_kinds.specs.Kinds.{kind_at, slot_at}
use Rattle.transfer.specs.Sound.{IsKindAt, IsSlotAt, AreWellFormedAt}

-- a kind that is well formed at program slot `at` is well formed at each later slot n. `IsKindAt`
-- requires of a look-up's result that the look-up was at a lower slot, which then is below n too,
-- and of a number that its range ends below 2 ^ 64, for which the slot does not matter. Edges lead
-- to later slots, so `facts_of_later_slots` needs this law for registers and, by `slot_raised`, for
-- spilled kinds
kind_at_later_slot : (at n : ℕ) (k : Kind) → at < n → IsKindAt at k → IsKindAt n k
kind_at_later_slot at n (kind.Scalar r) lt h = h
kind_at_later_slot at n (kind.MaybeValue m site) lt h = omega arith
kind_at_later_slot at n k lt h = tt

-- a stack slot s of facts that is well formed at slot `at` of the program (`IsSlotAt`) is well
-- formed at each later slot n of the program. If s has a mask of written bytes, `IsSlotAt` only
-- requires that the mask is below 256. If s is a spill, it requires `IsKindAt` of the spilled kind
-- k. Of this only the bound on the site of a look-up depends on the program slot: a site below `at`
-- is below n too. `facts_of_later_slots` needs this law
slot_raised : (at n : ℕ) (s : Slot) → at < n → IsSlotAt at s → IsSlotAt n s
slot_raised at n (Bytes mask) lt h = h
slot_raised at n (Spill k) lt h = kind_at_later_slot at n k lt h

-- facts that are well formed at a slot are well formed at each later one
pub facts_of_later_slots : (at n : ℕ) (f : Facts)
    → at < n
    → AreWellFormedAt at f
    → AreWellFormedAt n f
facts_of_later_slots at n f lt h = record {
  registers = λ r. kind_at_later_slot at n (kind_at f r) lt (h.registers r);
  slots = λ i. slot_raised at n (slot_at f i) lt (h.slots i);
}
