-- `ones`: the shifts give the mask (`ones_are`), which fits a byte (`ones_small`), so the cast loses no bit.
use Rattle.std.proofs.Common.{arith}
use Rattle.reg_kinds.specs.BitLaws.{ones_small}
use Rattle.reg_kinds.proofs.SlotTests.{ones_are}
use Rattle.reg_kinds.proofs.many.ones.Goals as goal

pub overflow_cast-result-3 : goal.overflow_cast-result-3
overflow_cast-result-3 c =
    let small = ones_small c.args.count c.args.from c.requires in
    let same = ones_are c.args.count c.args.from c.requires in
    omega arith

pub returns : goal.returns
returns c = ones_are c.args.count c.args.from c.requires
