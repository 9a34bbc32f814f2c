-- `alu32`, for all operators but a byte-order conversion: if the low halves that are read, in the ranges of `range_of_low_word`, are
-- constants, the constant that `operate` computes is the table's range, else the result of `general_range` is; the table is sound.
use Rattle.std.proofs.Common.{sym, arith, ◌∙◌}
use Rattle.interval.proofs.Exact.{narrow_constants, narrow_spread}
use Rattle.interval.proofs.alu.alu32.Goals as goal

pub returns-then-are_constants : goal.returns-then-are_constants
returns-then-are_constants c =
    let h =
    narrow_constants c.args.op c.args.a c.args.b c.range_of_low_word-a.result c.range_of_low_word-b.result
    c.constant.result c.in_default.not-End c.range_of_low_word-a.ensures.value
    c.range_of_low_word-b.ensures.value c.operate.result (omega arith)
    (omega arith)
    (sym c.are_constants.ensures ∙ c.if-are_constants.true)
    c.operate.ensures c.constant.ensures in
    record { exact = h.exact; sound = h.sound }

pub returns-else-are_constants : goal.returns-else-are_constants
returns-else-are_constants c =
    let h =
    narrow_spread c.args.op c.args.a c.args.b c.range_of_low_word-a.result c.range_of_low_word-b.result
    c.general_range.result c.in_default.not-End c.range_of_low_word-a.ensures.value
    c.range_of_low_word-b.ensures.value
    (sym c.are_constants.ensures ∙ c.if-are_constants.false)
    c.general_range.ensures in
    record { exact = h.exact; sound = h.sound }
