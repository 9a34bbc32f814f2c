-- `fault_of`: if the quick test is true, no packet has a fault, by the contract of `pass_quick_test`.
use Rattle.std.proofs.Common.{sym}
use Rattle.flat_machine.proofs.packets.fault_of.Goals as goal

pub returns-then-pass_quick_test : goal.returns-then-pass_quick_test
returns-then-pass_quick_test c = sym (c.pass_quick_test.ensures c.if-pass_quick_test.true)
