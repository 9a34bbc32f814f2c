-- The front of the buffer has the bytes that were read, and no call has failed.
use Rattle.std.proofs.Common.{◌≡◌, ◌-◌, ◌≤◌, length, take}
use Rattle.std.specs.Io.KnownBytes.{Consumes}
use Rattle.host_core.proofs.reading.fill.Given as goal

abbrev pub invariant-loop-at : goal.invariant-loop-at
invariant-loop-at g l = record {
  within : l.at ≤ length l.buffer;
  bytes : Consumes (g.S.Source.remaining l.initial.reader) (g.S.Source.remaining l.reader) (take l.at l.buffer);
  sound : g.S.Source.failures l.reader ≡ g.S.Source.failures l.initial.reader;
}

abbrev pub decreases-loop-at : goal.decreases-loop-at
decreases-loop-at g l = length l.initial.buffer - l.at
