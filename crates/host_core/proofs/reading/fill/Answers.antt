-- `fill`: the bytes that one more read takes, by the reader's contract, follow those at the front of the buffer.
use Rattle.std.proofs.Common.{◌-◌, length, subst, rules}
use Rattle.std.specs.Io.KnownBytes.{Consumes}
use Rattle.std.proofs.KnownBytes.{Consumes-trans}
use Rattle.host_core.proofs.Buffers.{take-put_mid}
use Rattle.host_core.proofs.reading.fill.Goals as goal

pub loop-at-preserved : goal.loop-at-preserved
loop-at-preserved g c =
    let at = c.loop-at.at in
    let joined =
    take-put_mid at (length c.loop-at.buffer - at) c.in-Ok.count c.loop-at.buffer c.read.new.buffer
    c.loop-at.invariant.within (search rules) in
    record {
      within = search rules;
      bytes = subst (Consumes _ _) joined (Consumes-trans _ _ _ _ _ c.loop-at.invariant.bytes c.in-Ok.ensures.bytes.0);
      sound = search rules;
    }
