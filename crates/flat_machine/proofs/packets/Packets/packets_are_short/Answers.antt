-- `packets_are_short` of `Packets`: by the invariant the batch has no fault, so none of its packets is too long.
use Rattle.std.proofs.Common.{◌≤◌, length, List, subst}
use Rattle.std.specs.List.{All}
use Rattle.flat_machine.specs.Packets.{BatchInput, longest_packet, packets_in}
use Rattle.flat_machine.proofs.PacketEnds.{fits_all, are_short, all_inputs}
use Rattle.flat_machine.proofs.packets.Packets.packets_are_short.Goals as goal

pub returns : goal.returns
returns c =
    let fits = fits_all (length c.self.inside.contexts.now) (length c.self.inside.bytes.now) c.self.inside.ends.now c.self.invariant in
    let short = are_short c.self.inside.bytes.now 0 c.self.inside.ends.now fits.packets in
    subst (λ (is : List BatchInput). All (λ (input : BatchInput). length input.packet ≤ longest_packet) is) c.self.view_is
    (all_inputs (λ packet. length packet ≤ longest_packet) c.self.inside.contexts.now (packets_in c.self.inside.bytes.now c.self.inside.ends.now) short)
