-- `new` of `Packets`: if the contexts are enough and `fault_of` finds no fault, the batch has none, as the invariant requires. So it has as
-- many packets as ends, since one context is for all packets, or one for each.
use Rattle.std.proofs.Common.{◌≡◌, None, true, length, sym, ◌∙◌}
use Rattle.flat_machine.specs.Packets.{packets_in, batch_fault}
use Rattle.flat_machine.proofs.PacketEnds.{fault_by, fits_all, enough_for, one_input_each, one_for_each}
use Rattle.flat_machine.proofs.packets.Packets.new.Goals as goal

no_fault : (c : goal.In_default) → batch_fault (length c.args.contexts.now) (length c.args.bytes.now) c.args.ends.now ≡ None
no_fault c =
    fault_by (length c.args.contexts.now) (length c.args.bytes.now) c.args.ends.now true (sym c.may_have_contexts.ensures ∙ c.if-not-may_have_contexts.false)
    ∙ sym c.fault_of.ensures
    ∙ c.in_default.is

pub invariant_of-result : goal.invariant_of-result
invariant_of-result c = no_fault c

pub returns-clause-count : goal.returns-clause-count
returns-clause-count c =
    let all = fits_all (length c.args.contexts.now) (length c.args.bytes.now) c.args.ends.now (no_fault c) in
    let packets : length (packets_in c.args.bytes.now c.args.ends.now) ≡ length c.args.ends.now = one_for_each c.args.bytes.now 0 c.args.ends.now in
    one_input_each c.args.contexts.now (packets_in c.args.bytes.now c.args.ends.now) (enough_for all.enough (sym packets)) ∙ packets
