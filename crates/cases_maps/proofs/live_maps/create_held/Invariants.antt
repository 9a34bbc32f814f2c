-- The map is live, with one reference and those that were added.
use Rattle.std.proofs.Common.{◌≡◌, ◌+◌, IsSome}
use Rattle.bpf_maps.specs.Live.{live_at, references_at}
use Rattle.cases_maps.proofs.live_maps.create_held.Given as goal

abbrev pub invariant-loop : goal.invariant-loop
invariant-loop l = record {
  live : IsSome (live_at l.maps l.map);
  holds : references_at l.maps l.map ≡ 1 + l.counter;
}
