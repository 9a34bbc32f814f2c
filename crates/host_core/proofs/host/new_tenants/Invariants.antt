-- The number of new tenants so far.
use Rattle.std.proofs.Common.{◌≡◌, ℕ, [], length}
use Rattle.std.specs.Prelude.{replicate}
use Rattle.arena.specs.Memory.{Memory}
use Rattle.tenant.specs.State.{new_tenant}
use Rattle.host_core.specs.States.{births_in, states_from}
use Rattle.host_core.proofs.host.new_tenants.Given as goal

abbrev pub invariant-loop : goal.invariant-loop
invariant-loop l = record {
  new : (m : Memory) (first : ℕ) → states_from m first l.tenants.items ≡ replicate l.counter new_tenant;
  births : births_in l.tenants.items ≡ replicate l.counter [];
  count : length l.tenants.items ≡ l.counter;
}
