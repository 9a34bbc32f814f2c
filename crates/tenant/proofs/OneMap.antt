-- A command that changes one map.
use Rattle.std.proofs.Common.{◌≡◌, ◌≢◌, ℕ, ◌<◌, Bool, List, Option, Some, IsSome, ap, ap₂, ◌∙◌}
use Rattle.std.specs.Prelude.{◌||◌}
use Rattle.bpf_maps.specs.Live.{LiveMaps, live_at, map_in}
use Rattle.bpf_maps.specs.Limits.{most_maps}
use Rattle.tenant.specs.State.{Map, with_map_at}
use Rattle.tenant.specs.Kept.{KeptTenant, map_at, state_in}
use Rattle.tenant.proofs.AtHandles.{at_each, set_at, same_at, same_live, same_map_at, map_there}
use Rattle.tenant.proofs.StillKept.{with_live}

-- if only one map differs, the state is that of before with this map at its handle
pub one_map : (part later : List ℕ) (k : KeptTenant) (t : LiveMaps) (handle : ℕ) {changed : Map}
    → handle < most_maps → IsSome (live_at t handle)
    → ((other : ℕ) → other ≢ handle → map_at later t other ≡ map_at part k.live other)
    → map_in later t handle ≡ changed → t.refused ≡ k.live.refused
    → state_in later (with_live k t) ≡ with_map_at (state_in part k) handle changed
one_map part later k t handle {changed} within live others here flag =
    let maps =
    set_at (map_at later t) (map_at part k.live) handle (Some changed) within
    (map_there later t handle live ∙ ap (λ (u : Map). Some u) here)
    others in
    ap₂ (λ (ms : List (Option Map)) (refused : Bool).
    record { objects = k.objects; maps = ms; refused = k.refused || refused })
    maps flag

-- if each handle has the same map as before, the state is not changed
pub no_map : (part later : List ℕ) (k : KeptTenant) (t : LiveMaps)
    → ((handle : ℕ) → map_at later t handle ≡ map_at part k.live handle)
    → t.refused ≡ k.live.refused
    → state_in later (with_live k t) ≡ state_in part k
no_map part later k t same flag =
    ap₂ (λ (ms : List (Option Map)) (refused : Bool).
    record { objects = k.objects; maps = ms; refused = k.refused || refused })
    (same_at (map_at later t) (map_at part k.live) same) flag

-- if one map has the same pairs and the others are the same, all maps are the same
pub each_same : (part : List ℕ) (old new : LiveMaps) (m : ℕ)
    → IsSome (live_at old m) → IsSome (live_at new m)
    → map_in part new m ≡ map_in part old m
    → ((other : ℕ) → other ≢ m → live_at new other ≡ live_at old other)
    → (handle : ℕ) → map_at part new handle ≡ map_at part old handle
each_same part old new m was now here others =
    at_each (λ q. map_at part new q ≡ map_at part old q) m
    (same_map_at part part old new m was now here)
    (λ q other. same_live part old new q (others q other))
