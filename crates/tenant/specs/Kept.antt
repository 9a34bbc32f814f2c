-- How a tenant is kept, and the state of the machine that it represents. This project's own.
use Rattle.std.specs.Prelude.{◌≡◌, ℕ, ◌+◌, ◌<◌, ◌≤◌, ◌==◌, Bool, ◌||◌, if◌then◌else◌, List, [], ◌∷◌}
use Rattle.std.specs.Prelude.{length, map, Option, Some, IsSome, option_map, None, slice_index_or}
use Rattle.std.specs.List.{range_with_len}
use Rattle.std.specs.Map.{lookup, keys_of}
use Rattle.bpf_maps.specs.Live.{LiveMaps, live_at, references_at, shape_at, keys_at, map_in}
use Rattle.bpf_maps.specs.Sum.{total}
use Rattle.fd_table.specs.Table.{most}
use Rattle.tagged_model.specs.Named.{shapes_named}
use Rattle.verifier.specs.Maps.{maps_of}
use Rattle.tenant.specs.declared.object.OpenObject.{OpenObject}
use Rattle.tenant.specs.declared.object.OpenObject.TheVariants as object
use Rattle.tenant.specs.Loaded.{LoadedProgram, map_handles}
use Rattle.bpf_maps.specs.Limits.{most_maps}
use Rattle.tenant.specs.State.{Map, TenantState}

-- the open objects by descriptors, the live maps by handles, and whether memory was refused to a
-- load; `live` has whether it was refused to a new map
pub record KeptTenant : Type 0 where
  pub objects : List (Option OpenObject)
  pub live : LiveMaps
  pub refused : Bool

-- the live map of a handle, with the values that lie in these bytes of the part; None if there is
-- no live map
abbrev pub map_at : List ℕ → LiveMaps → ℕ → Option Map
map_at part t handle = option_map (λ l. map_in part t handle) (live_at t handle)

-- the list of what f gives for each handle, from 0 on: a map or None
unfoldable pub at_handles : (ℕ → Option Map) → List (Option Map)
at_handles f = map f (range_with_len 0 most_maps)

-- the state that a tenant represents, with the bytes of its part; memory was refused to it if it
-- was refused to a load or to a new map
abbrev pub state_in : List ℕ → KeptTenant → TenantState
state_in part k = record {
  objects = k.objects;
  maps = at_handles (map_at part k.live);
  refused = k.refused || k.live.refused;
}

-- ---- the references to the map of a handle

-- what is open at index n of a tenant's table, which is descriptor n + 3; None if it is free
abbrev pub object_at : KeptTenant → ℕ → Option OpenObject
object_at k n = slice_index_or k.objects n None

-- the number of times that a handle is listed
unfoldable pub times_listed : ℕ → List ℕ → ℕ
times_listed handle [] = 0
times_listed handle (p ∷ ps) = (if p == handle then 1 else 0) + times_listed handle ps

-- the number of times that an object names the map of a handle
abbrev pub times_named : ℕ → OpenObject → ℕ
times_named handle (object.Map p) = if p == handle then 1 else 0
times_named handle (object.Program l) = times_listed handle (map_handles l)

-- the number of times that open objects name the map of a handle
abbrev pub holders : ℕ → List (Option OpenObject) → ℕ
holders handle objects = total (times_named handle) objects

-- 1 for a map of this handle, 0 for another one or a program
abbrev pub by_descriptor : ℕ → OpenObject → ℕ
by_descriptor handle (object.Map p) = if p == handle then 1 else 0
by_descriptor handle (object.Program l) = 0

-- the number of descriptors that name the map of a handle
abbrev pub descriptors : ℕ → List (Option OpenObject) → ℕ
descriptors handle objects = total (by_descriptor handle) objects

-- ---- the invariant

-- each live map has one of the `most_maps` handles and at least one reference; no element is kept
-- apart, since no run is in progress
pub record AreHeld (t : LiveMaps) : Type 0 where
  pub within : (handle : ℕ) → IsSome (live_at t handle) → handle < most_maps
  pub some : (handle : ℕ) → IsSome (live_at t handle) → 1 ≤ references_at t handle
  pub ended : (handle : ℕ) → (keys_at t handle).kept ≡ []

-- a program has a handle for each descriptor of a map that its instructions load, in the order of
-- the first loads, and no handle twice; the maps of these handles are live and have the shapes with
-- which the program was verified
pub record IsBound (t : LiveMaps) (l : LoadedProgram) : Type 0 where
  pub each : keys_of l.maps ≡ maps_of l.insns
  pub once : (handle : ℕ) → times_listed handle (map_handles l) ≤ 1
  pub shaped : (fd handle : ℕ) → lookup (λ m. m == fd) l.maps ≡ Some handle
      → IsSome (live_at t handle) × (shapes_named l.named fd ≡ Some (shape_at t handle))

-- the table has an item for each descriptor, open or free; the live maps are held (`AreHeld`); each
-- has as many references as descriptors and loaded programs name it; no two descriptors name the
-- same map; each loaded program has live maps, of the shapes with which it was verified (`IsBound`)
pub record IsWellFormedTenant (k : KeptTenant) : Type 0 where
  pub all : length k.objects ≡ most
  pub maps : AreHeld k.live
  pub held : (handle : ℕ) → references_at k.live handle ≡ holders handle k.objects
  pub single : (handle : ℕ) → descriptors handle k.objects ≤ 1
  pub bound : (n : ℕ) (l : LoadedProgram)
      → object_at k n ≡ Some (object.Program l)
      → IsBound k.live l
