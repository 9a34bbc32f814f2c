-- The slots that were read are those that the instruction is spelled by.
use Rattle.std.proofs.Common.{arith}
use Rattle.insn_codec.proofs.Slots.{begins_read}
use Rattle.insn_codec.proofs.reading.read_with_first.Goals as goal

pub returns-clause-found : goal.returns-clause-found
returns-clause-found c =
    let read = c.in_ok-second.ensures in (
      read.value,
      begins_read c.read_slot.new.entry c.args.first.now c.in_ok-second.second c.args.bytes.now c.split_at.result.1.now
          (λ k. omega (arith, c.type_inv.bytes k)) c.requires.long
          c.split_at.ensures.back c.requires.first read.second
          read.slots,
    )
