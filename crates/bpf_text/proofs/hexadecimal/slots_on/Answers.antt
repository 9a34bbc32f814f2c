-- `slots_on`: by `append_slot` a line without a fault adds its bytes (`bytes_more`), and no line up to it has a fault (`none_more`). A line
-- at which the loop ends is the first with a fault, unless memory is refused (`first_here`).
use Rattle.std.proofs.Common.{[], List, ℕ, Bor, arith}
use Rattle.bpf_text.proofs.HexLines.{none_more, bytes_more, first_here}
use Rattle.bpf_text.proofs.hexadecimal.slots_on.Goals as goal

pub returns-in-Err-clause-fault : goal.returns-in-Err-clause-fault
returns-in-Err-clause-fault c =
    let i = c.loop-index in
    first_here c.args.lines.now i.index (record { ref_ptr = (0, 0); now = [] }) i.bytes.items
    c.in-Err.kind c.at.result c.loop-index-test.true i.invariant.bytes
    i.invariant.below c.at.ensures c.in-Err.ensures.fault

pub loop-index-preserved : goal.loop-index-preserved
loop-index-preserved c =
    let i = c.loop-index in
    let d : Bor (List ℕ) = record { ref_ptr = (0, 0); now = [] } in
    record {
      below =
          none_more c.args.lines.now i.index d i.bytes.items c.loop-index-test.true
          i.invariant.bytes i.invariant.below c.in_default.ensures.none;
      bytes =
          bytes_more c.args.lines.now i.index d i.bytes.items c.append_slot.new.bytes.items
          c.loop-index-test.true i.invariant.bytes c.in_default.ensures.ok;
      room = omega (arith, c.in_default.ensures.room);
    }
