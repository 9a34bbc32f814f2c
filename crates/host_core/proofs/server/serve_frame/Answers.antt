-- `serve_frame`: the buffer has what `read_frame` keeps, all of the frame on which its reply depends, so the contract of `handle` gives the
-- reply to the frame itself; by that of `write_whole` the reply is written whole, or a prefix of it if a call of the writer fails.
use Rattle.std.proofs.Common.{ℕ, List, take, subst, arith}
use Rattle.host_core.proofs.Buffers.{still_holds}
use Rattle.std.specs.Io.KnownBytes.{Appends}
use Rattle.std.proofs.lemmas.Result.{err_from_is_err_and}
use Rattle.host_core.proofs.Serving.{turns}
use Rattle.host_core.proofs.server.serve_frame.Goals as goal

pub returns-clause-done : goal.returns-clause-done
returns-clause-done g c =
    let (frame, is_frame, read, stands) = rw c.in-Some.is at c.in_ok-kept.ensures.frame in
    let front = take c.in-Some.kept c.deref.result.now in
    let held =
    still_holds c.in-Some.kept c.args.buffers.now.frame.len c.read_frame.new.buffer
    c.args.buffers.now.frame.items frame c.deref.ensures.value
    (omega (
      arith,
      c.read_frame.auto.buffer,
      c.deref_mut.ensures.len,
      c.args.buffers.now.frame.ok.0,
      c.args.buffers.now.long,
    ))
    stands in
    let reply = c.handle.new.reply in (
      (
        frame,
        reply,
        turns _ _ frame front reply reply is_frame read held
            (subst (Appends _ _) c.bytes.ensures.bytes c.in_ok-write_whole.ensures.whole)
            c.handle.ensures.own c.handle.ensures.others c.handle.ensures.count
            c.handle.ensures.no_fault,
      ),
      c.in_ok-write_whole.ensures.flushed,
      (c.in_ok-kept.ensures.sound, c.in_ok-write_whole.ensures.sound),
    )

pub returns-in_err-write_whole-clause-fault : goal.returns-in_err-write_whole-clause-fault
returns-in_err-write_whole-clause-fault g c =
    let p =
    err_from_is_err_and c.from_residual-in_err-write_whole.result c.from_residual-in_err-write_whole.ensures.1 in
    let (frame, is_frame, read, stands) = rw c.in-Some.is at c.in_ok-kept.ensures.frame in
    let front = take c.in-Some.kept c.deref.result.now in
    let held =
    still_holds c.in-Some.kept c.args.buffers.now.frame.len c.read_frame.new.buffer
    c.args.buffers.now.frame.items frame c.deref.ensures.value
    (omega (
      arith,
      c.read_frame.auto.buffer,
      c.deref_mut.ensures.len,
      c.args.buffers.now.frame.ok.0,
      c.args.buffers.now.long,
    ))
    stands in
    let reply = c.handle.new.reply in
    let (n, few, out) = c.in_err-write_whole.ensures.part in
    let out_of_reply :
    Appends (g.W.Sink.contents c.args.writer.now) (g.W.Sink.contents c.write_whole.new.writer) (take n reply) =
    subst (λ (b : List ℕ).
    Appends (g.W.Sink.contents c.args.writer.now) (g.W.Sink.contents c.write_whole.new.writer) (take n b))
    c.bytes.ensures.bytes out in
    rw (p.1, p.2, c.in_err-write_whole.ensures.kind) (
      (
        frame,
        reply,
        n,
        turns _ _ frame front reply (take n reply) is_frame read held out_of_reply c.handle.ensures.own
            c.handle.ensures.others c.handle.ensures.count c.handle.ensures.no_fault,
      ),
      c.in_err-write_whole.ensures.failed,
    )
