-- `read_frame`: if `read_body` fails, the length and the bytes after it are no whole frame, since these are fewer than the length says.
use Rattle.std.proofs.Common.{◌++◌, ◌<◌, ◌^◌, arith, length-append}
use Rattle.byteorder.specs.Endian.{little_bytes}
use Rattle.std.specs.Io.KnownBytes.{Consumes}
use Rattle.std.proofs.KnownBytes.{Consumes-trans}
use Rattle.std.proofs.lemmas.Result.{err_from_is_err_and}
use Rattle.host_core.proofs.Numbers.{partial_after}
use Rattle.host_core.proofs.reading.read_frame.Goals as goal

pub returns-in_err-kept-clause-short : goal.returns-in_err-kept-clause-short
returns-in_err-kept-clause-short g c =
    let short = c.in_err-kept.ensures.short in
    let small : c.in-Some.total < 2 ^ 32 = rw c.in-Some.is at c.in_ok-total.ensures.bound in
    let counted : Consumes (g.S.Source.remaining c.args.reader.now)
    (g.S.Source.remaining c.read_length.new.reader) (little_bytes 4 c.in-Some.total) =
    rw c.in-Some.is at c.in_ok-total.ensures.some in
    let p = err_from_is_err_and c.from_residual-in_err-kept.result c.from_residual-in_err-kept.ensures.1 in
    rw p.1 (record {
      bytes = little_bytes 4 c.in-Some.total ++ short.bytes;
      partial = partial_after c.in-Some.total short.bytes small short.few;
      begun = λ _. omega (arith, length-append (little_bytes 4 c.in-Some.total) short.bytes);
      read = Consumes-trans _ _ _ _ _ counted short.read;
    })
