-- The state of a tenant: its open objects, its live maps, and whether memory was ever refused to
-- it. Descriptors and maps are those of bpf(2); the limits are this project's own.
use Rattle.std.specs.Prelude.{ℕ, ◌+◌, ◌==◌, Bool, false, if◌then◌else◌, List, [], ◌∷◌, replicate}
use Rattle.std.specs.Prelude.{Option, Some, None, is_none, position, slice_index_or, slice_set}
use Rattle.std.specs.List.{list_any}
use Rattle.std.specs.Option.{option_map_or}
use Rattle.bpf_maps.specs.Limits.{most_maps}
use Rattle.bpf_maps.specs.Sum.{total}
use Rattle.tagged_model.specs.Table.{Table, shape_area}
use Rattle.tenant.specs.declared.object.OpenObject.{OpenObject}
use Rattle.tenant.specs.declared.object.OpenObject.TheVariants as object
use Rattle.fd_table.specs.Table.{nothing_open}

-- a map of a tenant: its keys in order, each with the bytes of its value
abbrev pub Map : Type 0
Map = Table (List ℕ)

-- the open objects by descriptors, the live maps by their handles, and whether memory was ever
-- refused to the tenant; while a map is live, no other map gets its handle
pub record TenantState : Type 0 where
  pub objects : List (Option OpenObject)
  pub maps : List (Option Map)
  pub refused : Bool

-- the state of a new tenant
abbrev pub new_tenant : TenantState
new_tenant = record { objects = nothing_open; maps = replicate most_maps None; refused = false }

-- ---- live maps

-- the live map of a handle, if there is one
abbrev pub live : TenantState → ℕ → Option Map
live s handle = slice_index_or s.maps handle None

-- the lowest handle without a map; None if each handle has one
abbrev pub free_handle : TenantState → Option ℕ
free_handle s = position is_none s.maps

-- the number of bytes that the values of a map take
abbrev pub map_area : Map → ℕ
map_area t = shape_area t.shape

-- the number of bytes that the values of all live maps take
abbrev pub maps_area : List (Option Map) → ℕ
maps_area maps = total map_area maps

-- the state with this map at a handle, instead of the map that the handle had
abbrev pub with_map_at : TenantState → ℕ → Map → TenantState
with_map_at s handle t = record s { maps = slice_set s.maps handle (Some t) }

-- ---- the names of a map

-- whether an open object names the map of a handle: it is this map, or a program that was loaded
-- with the map
abbrev pub names : ℕ → OpenObject → Bool
names handle (object.Map p) = p == handle
names handle (object.Program l) = list_any (λ m. m.1 == handle) l.maps

-- whether one of these open objects names the map of a handle
abbrev pub is_named : List (Option OpenObject) → ℕ → Bool
is_named objects handle = list_any (λ o. option_map_or (names handle) o false) objects

-- a list of maps by handle, which begins with that of `handle`: a map that no open object names is
-- gone, None, and the others are unchanged
unfoldable pub named_from : List (Option OpenObject) → ℕ → List (Option Map) → List (Option Map)
named_from objects handle [] = []
named_from objects handle (m ∷ ms) =
    (if is_named objects handle then m else None) ∷ named_from objects (handle + 1) ms

-- the state with these open objects; a map that none of them names is gone
abbrev pub with_objects : TenantState → List (Option OpenObject) → TenantState
with_objects s objects = record s { objects = objects; maps = named_from objects 0 s.maps }
