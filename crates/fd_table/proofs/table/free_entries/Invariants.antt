-- The number of free entries so far.
use Rattle.std.proofs.Common.{◌≡◌, None}
use Rattle.std.specs.Prelude.{replicate}
use Rattle.fd_table.proofs.table.free_entries.Given as goal

abbrev pub invariant-loop : goal.invariant-loop
invariant-loop g l = l.entries.items ≡ replicate l.counter None
