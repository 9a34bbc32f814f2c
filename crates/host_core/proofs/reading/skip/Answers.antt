-- `skip`: each turn adds the bytes that `read_whole` takes to those before; if it fails, all these are fewer than `count`.
use Rattle.std.proofs.Common.{◌++◌, take, arith, rules, length-append, length-take}
use Rattle.std.proofs.KnownBytes.{Consumes-trans}
use Rattle.host_core.specs.inside.Reading.{ReadsFewer}
use Rattle.host_core.proofs.Results.{on_err}
use Rattle.host_core.proofs.reading.skip.Goals as goal

pub returns-in_err-read_whole-clause-short : goal.returns-in_err-read_whole-clause-short
returns-in_err-read_whole-clause-short g c =
    let (bytes, len, read) = c.loop-left.invariant.came in
    let more = c.in_err-read_whole.ensures.short in
    let short :
    ReadsFewer (g.S.Source.remaining c.args.reader.now)
    (g.S.Source.remaining c.read_whole.new.reader) c.args.count = record {
      bytes = bytes ++ more.bytes;
      few = omega (arith, length-append bytes more.bytes, more.few, c.min-wanted.ensures);
      read = Consumes-trans _ _ _ _ _ read more.read;
    } in
    on_err _ short

pub loop-left-preserved : goal.loop-left-preserved
loop-left-preserved g c =
    let (bytes, len, read) = c.loop-left.invariant.came in
    let came = take c.min-wanted.result c.read_whole.new.buffer in
    record {
      came = (
        bytes ++ came,
        omega (
          arith,
          length-append bytes came,
          length-take c.min-wanted.result c.read_whole.new.buffer,
          c.min-wanted.ensures,
        ),
        Consumes-trans _ _ _ _ _ read c.in_ok-read_whole.ensures.bytes,
      );
      sound = search rules;
      room = search rules;
    }
