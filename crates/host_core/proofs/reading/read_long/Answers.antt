-- `read_long`: `read_whole` and `skip` together take the frame, and `skip` writes only to bytes after the head, so the buffer keeps that.
-- If `skip` fails, the bytes that both have taken are fewer than the frame's.
use Rattle.std.proofs.Common.{◌≡◌, ◌-◌, ◌≤◌, ◌++◌, length, take, arith, length-append, length-take, take_all, subst, sym, ◌∙◌}
use lib.Seq.{take-append-le}
use borrow.Rule.Slice.PartMut.{put_mid}
use Rattle.std.specs.Io.KnownBytes.{Consumes}
use Rattle.std.proofs.KnownBytes.{Consumes-trans}
use Rattle.host_core.specs.inside.Reading.{ReadsFewer}
use Rattle.host_core.proofs.Results.{on_err}
use Rattle.host_core.proofs.Buffers.{take-put_mid_same}
use Rattle.host_core.specs.declared.reading.TheConstants.{FRAME_BUFFER}
use Rattle.host_core.proofs.reading.read_long.Goals as goal

pub returns-in_err-skip-clause-short : goal.returns-in_err-skip-clause-short
returns-in_err-skip-clause-short g c =
    let came = take FRAME_BUFFER c.read_whole.new.buffer in
    let left = c.in_err-skip.ensures.short in
    let short :
    ReadsFewer (g.S.Source.remaining c.args.reader.now) (g.S.Source.remaining c.skip.new.reader) c.args.total = record {
      bytes = came ++ left.bytes;
      few = omega (arith, length-append came left.bytes, length-take FRAME_BUFFER c.read_whole.new.buffer, left.few);
      read = Consumes-trans _ _ _ _ _ c.in_ok-read_whole.ensures.bytes left.read;
    } in
    on_err _ short

pub returns-clause-frame : goal.returns-clause-frame
returns-clause-frame g c =
    let buffer = c.read_whole.new.buffer in
    let whole : take FRAME_BUFFER buffer ≡ buffer = take_all FRAME_BUFFER buffer (omega arith) in
    let (more, len, read) = c.in_ok-skip.ensures.bytes in
    let four : 4 ≤ length buffer = omega arith in
    let front : take 4 (put_mid 4 (length buffer - 4) buffer c.skip.new.scratch) ≡ take 4 (buffer ++ more) =
    take-put_mid_same 4 (length buffer - 4) buffer c.skip.new.scratch four
    ∙ sym (take-append-le 4 buffer more four) in (
      buffer ++ more,
      omega (arith, length-append buffer more, len),
      Consumes-trans _ _ _ _ _ (subst (Consumes _ _) whole c.in_ok-read_whole.ensures.bytes) read,
      front,
    )
