-- `live_count`: the count is the number of live maps at the handles so far, and at most the number of these handles.
use Rattle.std.proofs.Common.{◌≡◌, ◌≤◌, take}
use Rattle.bpf_maps.specs.Sum.{total}
use Rattle.bpf_maps.proofs.maps.Maps.live_count.Given as goal

abbrev pub invariant-loop-handle : goal.invariant-loop-handle
invariant-loop-handle l = record {
  count : l.count ≡ total (λ m. 1) (take l.handle l.self.maps);
  few : l.count ≤ l.handle;
}
