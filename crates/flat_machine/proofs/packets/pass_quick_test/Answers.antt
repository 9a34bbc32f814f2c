-- `pass_quick_test`: the collected bits are no less than any length or end. So if they pass the tests, no end has the highest bit, and each
-- length is short and has not wrapped: each packet so far fits, and the fault of all is that of the packets after them.
use Rattle.std.proofs.Common.{ℕ, ◌+◌, ◌-◌, ◌%◌, ◌<◌, ◌≤◌, ◌^◌, drop, get_or, refl, sym, ◌∙◌, arith}
use Rattle.std.proofs.lemmas.Bool.{leb-true}
use Rattle.std.proofs.lemmas.List.{at_drop_more, at_drop_all}
use Rattle.std.proofs.lemmas.Nat.{le_or_l, le_or_r}
use Rattle.flat_machine.specs.Packets.{packets_fault}
use Rattle.flat_machine.proofs.PacketEnds.{fits_more}
use Rattle.flat_machine.proofs.packets.pass_quick_test.Goals as goal

-- a length without the highest bit is not negative
in_order : (start end : ℕ) → start < 2 ^ 63 → end < 2 ^ 63 → (end + (18446744073709551616 - start)) % 18446744073709551616 < 65536 → start ≤ end
in_order start end low also short = omega arith

short_too : (start end : ℕ)
    → start < 2 ^ 63 → end < 2 ^ 63
    → start ≤ end
    → (end + (18446744073709551616 - start)) % 18446744073709551616 < 65536
    → end - start ≤ 65536
short_too start end low also ordered short = omega arith

pub loop-end-init : goal.loop-end-init
loop-end-init c = record { last = omega arith; plain = λ short low within. refl }

pub loop-end-preserved : goal.loop-end-preserved
loop-end-preserved c =
    let many = c.args.many in
    let ends = c.args.ends.now in
    let start = c.loop-end.start in
    let at = c.loop-end.end-index in
    let end = get_or ends at 0 in
    let length = (end + (18446744073709551616 - start)) % 18446744073709551616 in
    let last = c.loop-end.invariant.last in
    let lengths_more = le_or_l c.loop-end.lengths length in
    let length_in = le_or_r c.loop-end.lengths length in
    let reach_more = le_or_l c.loop-end.reach end in
    let end_in = le_or_r c.loop-end.reach end in record {
      last = end_in;
      plain = λ short low within.
          let ordered = in_order start end (omega arith) (omega arith) (omega arith) in
          sym (fits_more many start end (drop (at + 1) ends) ordered within (short_too start end (omega arith) (omega arith) ordered (omega arith)))
          ∙ sym (at_drop_more (packets_fault many start) ends at 0 c.loop-end-test.true)
          ∙ c.loop-end.invariant.plain (omega arith) (omega arith) (omega arith);
    }

pub returns-then-reach-lt-HIGHEST_BIT : goal.returns-then-reach-lt-HIGHEST_BIT
unfolding packets_fault
returns-then-reach-lt-HIGHEST_BIT c within =
    let plain = c.if-reach-lt-HIGHEST_BIT.true in
    sym (c.loop-end.invariant.plain plain.0 plain.1 (leb-true c.loop-end.start c.args.many within))
    ∙ at_drop_all (packets_fault c.args.many c.loop-end.start) c.args.ends.now c.loop-end.end-index c.loop-end-test.false
