-- `check_read`: a read of bytes in the stack that touch no spill is rejected exactly if one of them may be unwritten (`input_is`), by the
-- contracts of `start_of`, `bytes_touch_spill` and `is_any_unwritten`.
use Rattle.std.proofs.Common.{sym, ◌∙◌, w32}
use Rattle.std.proofs.Math.Facts.{to_z-of_z}
use Rattle.reg_kinds.proofs.SlotTests.{input_is}
use Rattle.reg_kinds.proofs.many.check_read.Goals as goal

pub returns-then-is_any_unwritten : goal.returns-then-is_any_unwritten
returns-then-is_any_unwritten c =
    input_is c.args.facts.now c.args.offset _ c.args.count c.in-Some.start _ _
    (to_z-of_z {w = w32} {z = c.args.offset} c.ranges.offset)
    (sym c.start_of.ensures.value ∙ c.in-Some.is)
    (sym c.if-bytes_touch_spill.false ∙ c.bytes_touch_spill.ensures)
    (sym c.if-is_any_unwritten.true ∙ c.is_any_unwritten.ensures)

pub returns-else-is_any_unwritten : goal.returns-else-is_any_unwritten
returns-else-is_any_unwritten c =
    input_is c.args.facts.now c.args.offset _ c.args.count c.in-Some.start _ _
    (to_z-of_z {w = w32} {z = c.args.offset} c.ranges.offset)
    (sym c.start_of.ensures.value ∙ c.in-Some.is)
    (sym c.if-bytes_touch_spill.false ∙ c.bytes_touch_spill.ensures)
    (sym c.if-is_any_unwritten.false ∙ c.is_any_unwritten.ensures)
