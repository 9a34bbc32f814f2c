-- The fields of a tenant's live maps: what contracts see of them, and their invariant. This
-- project's own.
use Rattle.std.specs.Prelude.{◌≡◌, ◌≢◌, ℕ, ◌+◌, ◌*◌, ◌/◌, ◌%◌, ◌≤◌, ◌⊎◌, List, map, Option, Some, None, is_some, option_map, length, count_by, slice_index_or}
use Rattle.std.specs.Option.{option_and_then}
use Rattle.bpf_maps.specs.declared.part.TheConstants.{STACK_AND_CONTEXT}
use Rattle.bpf_maps.specs.Limits.{most_maps, most_bytes}
use Rattle.bpf_maps.specs.declared.stored_map.StoredMap.{StoredMap}
use Rattle.bpf_maps.specs.declared.maps.Maps.TheInside.{Inside}
use Rattle.slab.specs.Slab.{Slab, get, ContainsKey, slab_len}
use Rattle.bpf_maps.specs.KeyTable.{IsSound}
use Rattle.bpf_maps.specs.BpfMap.{keys_in}
use Rattle.bpf_maps.specs.Elements.{elements_of, word_of}
use Rattle.bpf_maps.specs.Live.{LiveMap, LiveMaps, areas, area_of, StandsBefore, start_without}

-- ---- what contracts see

-- a stored map as contracts see it
abbrev pub live_of : StoredMap → LiveMap
live_of e = record { keys = keys_in e.map; start = e.start; stride = e.stride; holds = e.holds }

-- a list of stored maps as contracts see it
abbrev pub live_maps_of : List (Option StoredMap) → List (Option LiveMap)
live_maps_of xs = map (λ o. option_map live_of o) xs

-- the stored map of each handle: `keys` has, by handle, the key under which the slab `maps` has it,
-- or None if the handle has no map
abbrev pub by_handle : List (Option ℕ) → Slab StoredMap → List (Option StoredMap)
by_handle keys maps = map (λ key. option_and_then (get maps) key) keys

-- the stored map of each handle
abbrev pub stored_in : Inside → List (Option StoredMap)
stored_in a = by_handle a.keys a.maps

-- a tenant's live maps as contracts see them
abbrev pub as_live_maps : Inside → LiveMaps
as_live_maps a = record { maps = live_maps_of (stored_in a); refused = a.refused }

-- ---- the invariant

-- `keys` has, by handle, the key under which the slab `maps` has the handle's map, or None if the
-- handle has no map. The slab has no other keys, and no two handles have the same key
pub record AreKeys (keys : List (Option ℕ)) (maps : Slab StoredMap) : Type 0 where
  pub long : length keys ≡ most_maps
  pub there : (k key : ℕ) → slice_index_or keys k None ≡ Some key → ContainsKey maps key
  pub own : (k j key : ℕ)
      → slice_index_or keys k None ≡ Some key
      → slice_index_or keys j None ≡ Some key
      → k ≡ j
  pub all : slab_len maps ≡ count_by is_some keys

-- a stored map after the removal of an area of `size` bytes that ended at offset `end`: a start at
-- `end` or after it is lower by `size`, a start before it is unchanged
abbrev pub closed_up : ℕ → ℕ → StoredMap → StoredMap
closed_up end size e = record {
  map = e.map;
  start = start_without end size e.start;
  stride = e.stride;
  elements = e.elements;
  holds = e.holds;
}

-- a map's area lies in the `bytes` bytes after the stack and the context, and begins at a multiple
-- of eight. Its values are `stride` bytes apart, their size rounded up to a multiple of eight. Its
-- field `elements` is the word of the `Elements` of its shape (`word_of`). It has a reference, and
-- its table of keys is sound: no two keys have the same element
pub record IsInItsArea (bytes : ℕ) (e : StoredMap) : Type 0 where
  pub behind : STACK_AND_CONTEXT ≤ e.start
  pub within : e.start + area_of (live_of e) ≤ STACK_AND_CONTEXT + bytes
  pub aligned : e.start % 8 ≡ 0
  pub stride : e.stride ≡ ((keys_in e.map).shape.value_size + 7) / 8 * 8
  pub elements : e.elements ≡ word_of (elements_of (keys_in e.map).shape)
  pub held : 1 ≤ e.holds
  pub sound : IsSound (keys_in e.map)

-- each handle with a map has the map's key in the slab, and the slab has room for `most_maps` maps.
-- The areas don't overlap, and lie after the stack and the context in exactly `bytes` bytes, the
-- sum of their sizes, which is at most `most_bytes` and a multiple of eight
pub record IsWellFormedMaps (a : Inside) : Type 0 where
  pub keys : AreKeys a.keys a.maps
  pub room : most_maps ≤ a.maps.capacity
  pub placed : (k : ℕ) (e : StoredMap)
      → slice_index_or (stored_in a) k None ≡ Some e
      → IsInItsArea a.bytes e
  pub apart : (k j : ℕ) (e f : StoredMap)
      → slice_index_or (stored_in a) k None ≡ Some e
      → slice_index_or (stored_in a) j None ≡ Some f
      → k ≢ j
      → StandsBefore (live_of e) (live_of f) ⊎ StandsBefore (live_of f) (live_of e)
  pub sum : a.bytes ≡ areas (as_live_maps a)
  pub few : a.bytes ≤ most_bytes
  pub aligned : a.bytes % 8 ≡ 0
