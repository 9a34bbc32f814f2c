-- `unary64`: if the operands that are read are constants, the constant that `operate` computes is the table's range, else the result of
-- `general_range` is; the table is sound, so the range includes the result of every two members.
use Rattle.std.proofs.Common.{sym, arith, ◌∙◌}
use Rattle.interval.proofs.Exact.{wide_constants, wide_spread}
use Rattle.interval.proofs.alu.unary64.Goals as goal

pub returns-then-are_constants : goal.returns-then-are_constants
returns-then-are_constants c =
    let h =
    wide_constants c.args.op c.args.a c.args.b c.constant.result (omega arith) (omega arith)
    c.operate.result
    (sym c.are_constants.ensures ∙ c.if-are_constants.true)
    c.operate.ensures c.constant.ensures in
    record { exact = h.exact; sound = h.sound }

pub returns-else-are_constants : goal.returns-else-are_constants
returns-else-are_constants c =
    let h =
    wide_spread c.args.op c.args.a c.args.b c.general_range.result (omega arith) (omega arith)
    (sym c.are_constants.ensures ∙ c.if-are_constants.false)
    c.general_range.ensures in
    record { exact = h.exact; sound = h.sound }
