-- The packets of the other ends have the fault that all have.
use Rattle.std.proofs.Common.{◌≡◌, drop}
use Rattle.flat_machine.specs.Packets.{packets_fault}
use Rattle.flat_machine.proofs.packets.first_fault.Given as goal

abbrev pub invariant-loop-end : goal.invariant-loop-end
invariant-loop-end l = packets_fault l.many l.start (drop l.end-index l.ends) ≡ packets_fault l.many 0 l.ends
