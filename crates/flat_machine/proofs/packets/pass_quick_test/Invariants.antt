-- If the packets so far are in order, the packets of the other ends have the fault that all have.
use Rattle.std.proofs.Common.{◌≡◌, ◌≤◌, ◌<◌, ◌^◌, drop}
use Rattle.flat_machine.specs.Packets.{longest_packet, packets_fault}
use Rattle.flat_machine.proofs.packets.pass_quick_test.Given as goal

abbrev pub invariant-loop-end : goal.invariant-loop-end
invariant-loop-end l = record {
  last : l.start ≤ l.reach;
  plain : l.lengths < longest_packet
      → l.reach < 2 ^ 63 → l.start ≤ l.many
      → packets_fault l.many l.start (drop l.end-index l.ends) ≡ packets_fault l.many 0 l.ends;
}
