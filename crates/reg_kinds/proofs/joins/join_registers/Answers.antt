-- `join_registers`: each call of `join_register` makes the number of joined registers greater by one, by its contract (`one_joined`); after
-- the last call all registers are joined, and the stack is unchanged (`all_joined`).
use Rattle.std.proofs.Common.{rules, arith}
use Rattle.reg_kinds.specs.declared.facts.Facts.{Facts}
use Rattle.reg_kinds.proofs.RegisterJoins.{AreJoinedBelow, none_joined, one_joined, all_joined}
use Rattle.reg_kinds.proofs.joins.join_registers.Goals as goal

pub returns : goal.returns
returns c =
    let f : Facts = c.args.facts.now in
    let e : Facts = c.args.edge.now in
    let none : AreJoinedBelow f e 0 f = none_joined f e (search rules) in
    let one : AreJoinedBelow f e 1 c.join_register.new.facts =
    one_joined 0 c.join_register.new.facts (omega arith) none c.join_register.ensures in
    let two : AreJoinedBelow f e 2 c.join_register-2.new.facts =
    one_joined 1 c.join_register-2.new.facts (omega arith) one c.join_register-2.ensures in
    let three : AreJoinedBelow f e 3 c.join_register-3.new.facts =
    one_joined 2 c.join_register-3.new.facts (omega arith) two c.join_register-3.ensures in
    let four : AreJoinedBelow f e 4 c.join_register-4.new.facts =
    one_joined 3 c.join_register-4.new.facts (omega arith) three c.join_register-4.ensures in
    let five : AreJoinedBelow f e 5 c.join_register-5.new.facts =
    one_joined 4 c.join_register-5.new.facts (omega arith) four c.join_register-5.ensures in
    let six : AreJoinedBelow f e 6 c.join_register-6.new.facts =
    one_joined 5 c.join_register-6.new.facts (omega arith) five c.join_register-6.ensures in
    let seven : AreJoinedBelow f e 7 c.join_register-7.new.facts =
    one_joined 6 c.join_register-7.new.facts (omega arith) six c.join_register-7.ensures in
    let eight : AreJoinedBelow f e 8 c.join_register-8.new.facts =
    one_joined 7 c.join_register-8.new.facts (omega arith) seven c.join_register-8.ensures in
    let nine : AreJoinedBelow f e 9 c.join_register-9.new.facts =
    one_joined 8 c.join_register-9.new.facts (omega arith) eight c.join_register-9.ensures in
    let ten : AreJoinedBelow f e 10 c.join_register-10.new.facts =
    one_joined 9 c.join_register-10.new.facts (omega arith) nine c.join_register-10.ensures in
    let eleven : AreJoinedBelow f e 11 c.join_register-11.new.facts =
    one_joined 10 c.join_register-11.new.facts (omega arith) ten c.join_register-11.ensures in
    all_joined f e c.join_register-11.new.facts eleven
