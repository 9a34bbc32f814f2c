-- `binary64`: if the operands that are read are constants, the constant that `alu` computes is the table's range, else the result of
-- `alu_range` is; the table is sound, so the range includes the result of every two members.
use Rattle.std.proofs.Common.{sym, arith, ◌∙◌}
use Rattle.words.specs.declared.operator.Operator.TheVariants.{Binary}
use Rattle.interval.proofs.Exact.{wide_constants, wide_spread}
use Rattle.interval.proofs.alu.binary64.Goals as goal

pub returns-then-are_alu_constants : goal.returns-then-are_alu_constants
returns-then-are_alu_constants c =
    let h =
    wide_constants (Binary c.args.op) c.args.a c.args.b c.constant.result (omega arith)
    (omega arith) c.alu.result
    (sym c.are_alu_constants.ensures ∙ c.if-are_alu_constants.true)
    c.alu.ensures c.constant.ensures in
    record { exact = h.exact; sound = h.sound }

pub returns-else-are_alu_constants : goal.returns-else-are_alu_constants
returns-else-are_alu_constants c =
    let h =
    wide_spread (Binary c.args.op) c.args.a c.args.b c.alu_range.result (omega arith) (omega arith)
    (sym c.are_alu_constants.ensures ∙ c.if-are_alu_constants.false)
    c.alu_range.ensures in
    record { exact = h.exact; sound = h.sound }
