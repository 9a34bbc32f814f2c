-- `release_all`: each live map has the shape, the keys and the values that it had, and its references, with the times that its handle is
-- among the handles before this one, are as many as at the call.
use Rattle.std.proofs.Common.{◌≡◌, ℕ, ◌+◌, take}
use Rattle.bpf_maps.specs.Live.{references_at}
use Rattle.tenant.specs.Kept.{times_listed}
use Rattle.tenant.specs.inside.Leaves.{LeavesHeldMaps}
use Rattle.tenant.proofs.tenant.release_all.Given as goal

abbrev pub invariant-loop-map : goal.invariant-loop-map
invariant-loop-map l = record {
  left : LeavesHeldMaps (record { live = l.initial.maps; part = l.initial.part })
      (record { live = l.maps; part = l.part });
  holds : (handle : ℕ)
      → references_at l.maps handle + times_listed handle (take l.map-index l.held) ≡ references_at l.initial.maps handle;
}
