-- The bytes that are no longer to be skipped were read, and no call has failed.
use Rattle.std.proofs.Common.{◌≡◌, ℕ, ◌+◌, ◌<◌, List, length}
use Rattle.std.specs.Io.KnownBytes.{Consumes}
use Rattle.host_core.proofs.reading.skip.Given as goal

abbrev pub invariant-loop-left : goal.invariant-loop-left
invariant-loop-left g l = record {
  came : (bytes : List ℕ)
      × (length bytes + l.left ≡ l.count)
      × Consumes (g.S.Source.remaining l.initial.reader) (g.S.Source.remaining l.reader) bytes;
  sound : g.S.Source.failures l.reader ≡ g.S.Source.failures l.initial.reader;
  room : 0 < length l.scratch;
}

abbrev pub decreases-loop-left : goal.decreases-loop-left
decreases-loop-left g l = l.left
