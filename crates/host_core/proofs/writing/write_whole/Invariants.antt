-- The bytes that are no longer in the rest were written, and no call has failed.
use Rattle.std.proofs.Common.{◌≡◌, ℕ, ◌≤◌, length, take, drop}
use Rattle.std.specs.Io.KnownBytes.{Appends}
use Rattle.host_core.proofs.writing.write_whole.Given as goal

abbrev pub invariant-loop-rest : goal.invariant-loop-rest
invariant-loop-rest g l = record {
  done : (n : ℕ)
      × (n ≤ length l.bytes)
      × (l.rest ≡ drop n l.bytes)
      × Appends (g.S.Sink.contents l.initial.writer) (g.S.Sink.contents l.writer) (take n l.bytes);
  sound : g.S.Sink.failures l.writer ≡ g.S.Sink.failures l.initial.writer;
}

abbrev pub decreases-loop-rest : goal.decreases-loop-rest
decreases-loop-rest g l = length l.rest
