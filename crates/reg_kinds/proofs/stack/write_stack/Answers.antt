-- `write_stack`: the returned index is that of a stack slot, and no other slot changes, by the contract of `set_slot`, which writes one
-- item of the list.
use Rattle.std.proofs.Common.{rules, ap, ◌∙◌, get_or-set_other}
use Rattle.reg_kinds.specs.declared.kind.Slot.TheVariants.{Bytes}
use Rattle.reg_kinds.specs.declared.facts.Facts.{Facts}
use Rattle.reg_kinds.specs.Kinds.{slot_at}
use Rattle.reg_kinds.proofs.stack.write_stack.Goals as goal

pub returns-clause-slot : goal.returns-clause-slot
returns-clause-slot c = (
  search rules,
  λ k other.
      ap (λ (f : Facts). slot_at f k) c.set_slot.ensures
      ∙ get_or-set_other c.args.facts.now.slots c.in_ok-index.index k c.in_ok-slot.slot (Bytes 0) other,
)
