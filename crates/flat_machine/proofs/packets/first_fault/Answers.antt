-- `first_fault`: a fault that a test finds is that of the first remaining packet, and so of all packets, by the invariant of the loop. If
-- the packet fits, the fault of all is that of the packets after it. Without further packets there is none.
use Rattle.std.proofs.Common.{◌≡◌, ◌+◌, ◌∷◌, drop, get_or, Some, sym, ◌∙◌, arith}
use Rattle.std.proofs.lemmas.List.{at_drop_more, at_drop_all}
use Rattle.flat_machine.specs.Packets.{packets_fault}
use Rattle.flat_machine.specs.declared.packets.PacketFault.TheVariants.{Outside}
use Rattle.flat_machine.proofs.PacketEnds.{before_refused, after_refused, long_refused, fits_more}
use Rattle.flat_machine.proofs.packets.first_fault.Goals as goal
use Rattle.flat_machine.proofs.packets.first_fault.Goals.{then-end-start-via-then-end-start, then-end-start-via-else-end-start+then-many-end}

pub loop-end-preserved : goal.loop-end-preserved
loop-end-preserved c =
    let many = c.args.many in
    let ends = c.args.ends.now in
    let start = c.loop-end.start in
    let at = c.loop-end.end-index in
    sym (fits_more many start (get_or ends at 0) (drop (at + 1) ends) c.if-end-start.false (omega arith) c.if-end-start-gt-LONGEST_PACKET.false)
    ∙ sym (at_drop_more (packets_fault many start) ends at 0 c.loop-end-test.true)
    ∙ c.loop-end.invariant

pub returns-then-end-start : goal.returns-then-end-start
returns-then-end-start c =
    let many = c.args.many in
    let ends = c.args.ends.now in
    let start = c.loop-end.start in
    let at = c.loop-end.end-index in
    let here : packets_fault many start (get_or ends at 0 ∷ drop (at + 1) ends) ≡ Some Outside = elim c.then-end-start.branch [
      | then-end-start-via-then-end-start w ↦ before_refused many start (get_or ends at 0) (drop (at + 1) ends) w.if-end-start.true
      | then-end-start-via-else-end-start+then-many-end w ↦ after_refused many start (get_or ends at 0) (drop (at + 1) ends)
          (let later = w.if-many-end.true in omega arith)
    ] in
    sym (sym c.loop-end.invariant ∙ at_drop_more (packets_fault many start) ends at 0 c.loop-end-test.true ∙ here)

pub returns-then-end-start-gt-LONGEST_PACKET : goal.returns-then-end-start-gt-LONGEST_PACKET
returns-then-end-start-gt-LONGEST_PACKET c =
    let many = c.args.many in
    let ends = c.args.ends.now in
    let start = c.loop-end.start in
    let at = c.loop-end.end-index in
    sym (sym c.loop-end.invariant
    ∙ at_drop_more (packets_fault many start) ends at 0 c.loop-end-test.true
    ∙ long_refused many start (get_or ends at 0) (drop (at + 1) ends) c.if-end-start.false (omega arith) c.if-end-start-gt-LONGEST_PACKET.true)

pub returns : goal.returns
unfolding packets_fault
returns c = sym (sym c.loop-end.invariant ∙ at_drop_all (packets_fault c.args.many c.loop-end.start) c.args.ends.now c.loop-end.end-index c.loop-end-test.false)
