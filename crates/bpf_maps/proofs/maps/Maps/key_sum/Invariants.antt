-- `key_sum`: the sum is the number of keys of the maps at the handles so far, and at most the most entries of a map for each of these
-- handles.
use Rattle.std.proofs.Common.{◌≡◌, ◌*◌, ◌≤◌, length, take}
use Rattle.bpf_maps.specs.Sum.{total}
use Rattle.bpf_maps.proofs.maps.Maps.key_sum.Given as goal

abbrev pub invariant-loop-handle : goal.invariant-loop-handle
invariant-loop-handle l = record {
  sum : l.sum ≡ total (λ m. length m.keys.entries) (take l.handle l.self.maps);
  few : l.sum ≤ l.handle * 4096;
}
