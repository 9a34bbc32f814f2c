-- Before each turn of the loop of `hold_all` each map has a reference more for each time that its handle was passed; shapes, keys and
-- values are those before the loop.
use Rattle.std.proofs.Common.{◌≡◌, ℕ, ◌+◌, take}
use Rattle.bpf_maps.specs.Live.{references_at}
use Rattle.tenant.specs.Kept.{times_listed}
use Rattle.tenant.specs.inside.Loading.{IsHeldMore}
use Rattle.tenant.proofs.loading.hold_all.Given as goal

abbrev pub invariant-loop-map : goal.invariant-loop-map
invariant-loop-map l = record {
  held : IsHeldMore l.initial.maps l.maps;
  holds : (handle : ℕ)
      → references_at l.maps handle ≡ references_at l.initial.maps handle + times_listed handle (take l.map-index l.held);
}
