-- `next_to_free`: the chosen index is that of a spare map, and this map suffices if one of the spare maps so far does.
use Rattle.std.proofs.Common.{ℕ, ◌<◌, vec_len, slice_get}
use Rattle.bpf_maps.specs.inside.Spares.{HasEntries}
use Rattle.bpf_maps.proofs.spare_maps.SpareMaps.next_to_free.Given as goal

abbrev pub invariant-loop-at : goal.invariant-loop-at
invariant-loop-at l = record {
  within : l.chosen < vec_len l.self.maps;
  suffices : (k : ℕ)
      → k < l.at
      → HasEntries l.excess (slice_get l.self.maps.items k)
      → HasEntries l.excess (slice_get l.self.maps.items l.chosen);
}
