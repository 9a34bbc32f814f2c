-- `scaled`: if the high end is more than the greatest number shifted right, the high end shifted left does not fit the width.
use Rattle.std.proofs.Common.{arith}
use Rattle.std.proofs.lemmas.Grind.{common_steps}
use Rattle.interval.proofs.ShiftLemmas.{shifted_back_above}
use Rattle.interval.proofs.shifts.scaled.Goals as goal

pub returns-else-a-greatest : goal.returns-else-a-greatest
returns-else-a-greatest c =
    let above = shifted_back_above c.greatest.result c.args.bits c.args.a.hi c.if-a-greatest.false in
    grind (arith, common_steps)
