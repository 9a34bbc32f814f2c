-- A tenant's live maps, and the addresses of their values in the tenant's part. The limits and the
-- layout are this project's own.
use Rattle.std.specs.Prelude.{◌≡◌, ◌≢◌, ℕ, ◌+◌, ◌-◌, ◌*◌, ◌/◌, ◌%◌, ◌^◌, ◌<◌, ◌≤◌, ◌⊎◌, Bool, true, ◌||◌, nat_le, nat_lt, if◌then◌else◌, List}
use Rattle.std.specs.Prelude.{take, drop, Option, Some, None, IsSome, is_none, option_map, position, Result, Ok, Err, slice_index_or, refl}
use Rattle.tagged_model.specs.declared.shape.MapKind.TheVariants.{Hash}
use Rattle.tagged_model.specs.declared.shape.MapShape.{MapShape}
use Rattle.tagged_model.specs.declared.fault.MapFault.{MapFault}
use Rattle.tagged_model.specs.declared.fault.MapFault.TheVariants.{NoEntry, TooBig, Memory, Exists, Invalid, NoSpace}
use Rattle.bpf_maps.specs.declared.part.TheConstants.{STACK_AND_CONTEXT, PART}
use Rattle.bpf_maps.specs.Limits.{most_bytes}
use Rattle.tagged_model.specs.Table.{Table, with_values, shape_area}
use Rattle.bpf_maps.specs.Sum.{total}
use Rattle.bpf_maps.specs.KeyTable.{KeyTable, table_of, new_keys, IsSound}

-- a live map: its table of keys, the offset of its area in the part, the distance from the start of
-- one value to that of the next, both in bytes, and the number of references to it
pub record LiveMap : Type 0 where
  pub keys : KeyTable
  pub start : ℕ
  pub stride : ℕ
  pub holds : ℕ

-- the live map of each handle, and whether memory was ever refused to a new map
pub record LiveMaps : Type 0 where
  pub maps : List (Option LiveMap)
  pub refused : Bool

-- the live map of handle k, if it has one
abbrev pub live_at : LiveMaps → ℕ → Option LiveMap
live_at t k = slice_index_or t.maps k None

-- the lowest handle without a map, if there is one
abbrev pub free_handle : LiveMaps → Option ℕ
free_handle t = position is_none t.maps

-- the shape of `no_live`: that of a hash map, so that `no_live` has no key; its sizes are arbitrary
abbrev pub no_shape : MapShape
no_shape = record { kind = Hash; key_size = 1; value_size = 1; max_entries = 1; listed = refl }

-- a placeholder for the map of a handle without one, for the functions below; it means nothing
abbrev pub no_live : LiveMap
no_live = record {
  keys = new_keys no_shape;
  start = 0;
  stride = 0;
  holds = 0;
}

-- the live map of an option; for None the placeholder `no_live`, which means nothing. By it
-- functions such as `keys_at` are defined for a handle without a map too
abbrev pub live_or : Option LiveMap → LiveMap
live_or None = no_live
live_or (Some l) = l

-- the table of keys of the map of handle k, if it has one (else that of `no_live`)
abbrev pub keys_at : LiveMaps → ℕ → KeyTable
keys_at t k = (live_or (live_at t k)).keys

-- the shape of the map of handle k, if it has one (else that of `no_live`)
abbrev pub shape_at : LiveMaps → ℕ → MapShape
shape_at t k = (keys_at t k).shape

-- the number of references to the map of handle k; 0 if the handle has no map
abbrev pub references_at : LiveMaps → ℕ → ℕ
references_at t k = (live_or (live_at t k)).holds

-- the table of keys of each live map is sound: so no two of its keys have the same element
abbrev pub AreSound : LiveMaps → Type 0
AreSound t = (k : ℕ) → IsSome (live_at t k) → IsSound (keys_at t k)

-- ---- the addresses of the values

-- the offset of element p's value in the tenant's part, for a live map
unfoldable pub offset : LiveMap → ℕ → ℕ
offset l p = l.start + p * l.stride

-- the offset of element p's value in the tenant's part, for the map of handle k; 0 if the handle
-- has no map
abbrev pub offset_at : LiveMaps → ℕ → ℕ → ℕ
offset_at t k p = offset (live_or (live_at t k)) p

-- the address of an element's value, modulo 2 ^ 64, for the map of handle k, if the tenant's part
-- begins at address `part`; null (0) if no element is given
abbrev pub value_address : ℕ → LiveMaps → ℕ → Option ℕ → ℕ
value_address part t k None = 0
value_address part t k (Some p) = (part + offset_at t k p) % 2 ^ 64

-- the bytes in the tenant's part (`part`) of the value of element p, in the map of handle k;
-- arbitrary bytes if the handle has no map
abbrev pub value_in : List ℕ → LiveMaps → ℕ → ℕ → List ℕ
value_in part t k p = take (shape_at t k).value_size (drop (offset_at t k p) part)

-- the map of handle k: its keys, each with the bytes that its value has in the part; no keys if the
-- handle has no map
abbrev pub map_in : List ℕ → LiveMaps → ℕ → Table (List ℕ)
map_in part t k = with_values (value_in part t k) (table_of (keys_at t k))

-- `size` bytes at this offset lie in a part after the stack and the context, and the offset is a
-- multiple of eight
pub record LiesInPart (at size : ℕ) : Type 0 where
  pub behind : STACK_AND_CONTEXT ≤ at
  pub within : at + size ≤ PART
  pub aligned : at % 8 ≡ 0

-- the values of all live maps lie in the part and don't overlap
pub record IsLaid (t : LiveMaps) : Type 0 where
  pub inside : (k p : ℕ) (l : LiveMap)
      → live_at t k ≡ Some l
      → p < l.keys.shape.max_entries
      → LiesInPart (offset l p) l.keys.shape.value_size
  pub apart : (k p j q : ℕ) (l m : LiveMap)
      → live_at t k ≡ Some l
      → live_at t j ≡ Some m
      → p < l.keys.shape.max_entries
      → q < m.keys.shape.max_entries
      → (k ≡ j → p ≢ q)
      → (offset l p + l.keys.shape.value_size ≤ offset m q)
      ⊎ (offset m q + m.keys.shape.value_size ≤ offset l p)

-- each map that is live in `new` was live in `old`, with the same shape, the same start of its
-- area, and the same distance from value to value
abbrev pub SameAreas : LiveMaps → LiveMaps → Type 0
SameAreas old new =
    (k : ℕ) (l : LiveMap)
    → live_at new k ≡ Some l
    → (m : LiveMap)
    × (live_at old k ≡ Some m)
    × (l.keys.shape ≡ m.keys.shape)
    × (l.start ≡ m.start)
    × (l.stride ≡ m.stride)

-- each element of a map that is live in `old` and in `new` has the same value; `bytes` and `later`
-- are the tenant's part before and after
abbrev pub SameValues : LiveMaps → List ℕ → LiveMaps → List ℕ → Type 0
SameValues old bytes new later =
    (k p : ℕ)
    → IsSome (live_at old k)
    → IsSome (live_at new k)
    → p < (shape_at new k).max_entries
    → value_in later new k p ≡ value_in bytes old k p

-- if the map of handle k was live it still is, with the same keys and values; `bytes` and `later`
-- are the tenant's part before and after
abbrev pub KeepsMap : ℕ → LiveMaps → List ℕ → LiveMaps → List ℕ → Type 0
KeepsMap k old bytes new later =
    IsSome (live_at old k) → IsSome (live_at new k) × (map_in later new k ≡ map_in bytes old k)

-- each map that was live still is, with the same keys and values
abbrev pub KeepsMaps : LiveMaps → List ℕ → LiveMaps → List ℕ → Type 0
KeepsMaps old bytes new later = (k : ℕ) → KeepsMap k old bytes new later

-- each map that was live, but that of handle k, still is, with the same keys and values; `bytes`
-- and `later` are the tenant's part before and after
abbrev pub KeepsOthers : ℕ → LiveMaps → List ℕ → LiveMaps → List ℕ → Type 0
KeepsOthers k old bytes new later = (other : ℕ) → other ≢ k → KeepsMap other old bytes new later

-- ---- the space that the maps take

-- the number of bytes of the area of a live map
abbrev pub area_of : LiveMap → ℕ
area_of l = shape_area l.keys.shape

-- the number of bytes that the areas of all live maps take together
abbrev pub areas : LiveMaps → ℕ
areas t = total area_of t.maps

-- ---- the addresses of the areas

-- the offset of an area in the tenant's part, for the map of handle k; 0 if the handle has no map
abbrev pub start_at : LiveMaps → ℕ → ℕ
start_at t k = (live_or (live_at t k)).start

-- the area of l lies before that of m
abbrev pub StandsBefore : LiveMap → LiveMap → Type 0
StandsBefore l m = l.start + area_of l ≤ m.start

-- the areas of all live maps don't overlap, and lie after the stack and the context in as many
-- bytes as they take together, so that there is no gap; the distance from the start of one value to
-- that of the next is the value's size, rounded up to a multiple of eight
pub record IsPacked (t : LiveMaps) : Type 0 where
  pub inside : (k : ℕ) (l : LiveMap)
      → live_at t k ≡ Some l
      → (STACK_AND_CONTEXT ≤ l.start) × (l.start + area_of l ≤ STACK_AND_CONTEXT + areas t)
  pub apart : (k j : ℕ) (l m : LiveMap)
      → live_at t k ≡ Some l
      → live_at t j ≡ Some m
      → k ≢ j
      → StandsBefore l m ⊎ StandsBefore m l
  pub stride : (k : ℕ) (l : LiveMap)
      → live_at t k ≡ Some l
      → l.stride ≡ (l.keys.shape.value_size + 7) / 8 * 8

-- the start of an area after the removal of another one, of `size` bytes, which ended at offset
-- `end`: lower by `size` if it was `end` or more, else unchanged
abbrev pub start_without : ℕ → ℕ → ℕ → ℕ
start_without end size start = if nat_le end start then start - size else start

-- the live map l once the area of the map `gone` is removed: if l came after it, l begins lower by
-- the size of that area; nothing else changes
abbrev pub map_without : LiveMap → LiveMap → LiveMap
map_without gone l = record {
  keys = l.keys;
  start = start_without (gone.start + area_of gone) (area_of gone) l.start;
  stride = l.stride;
  holds = l.holds;
}

-- the area of the map of handle k is gone: each area after it begins lower by its size, and nothing
-- else has changed of the other maps; this says nothing of handle k in `new`, nor of `refused`
abbrev pub ClosesUp : ℕ → LiveMaps → LiveMaps → Type 0
ClosesUp k old new =
    (other : ℕ)
    → other ≢ k
    → live_at new other ≡ option_map (map_without (live_or (live_at old k))) (live_at old other)

-- ---- the keys of one map change

-- only the map of handle k may have changed, and only in its keys and their elements
pub record OnlyKeysChange (k : ℕ) (old new : LiveMaps) : Type 0 where
  pub live : IsSome (live_at new k)
  pub holds : references_at new k ≡ references_at old k
  pub shape : shape_at new k ≡ shape_at old k
  -- no two of its keys have the same element
  pub sound : IsSound (keys_at new k)
  pub others : (other : ℕ) → other ≢ k → live_at new other ≡ live_at old other
  pub room : areas new ≡ areas old
  pub areas : SameAreas old new
  -- the values of all live maps lie in the part and don't overlap
  pub laid : IsLaid new
  pub refused : new.refused ≡ old.refused

-- ---- a new map

-- the fault of the creation of a map of this shape if no handle is free, or if its values and those
-- of the live maps would take too many bytes; else None
abbrev pub create_fault : LiveMaps → MapShape → Option MapFault
create_fault t shape =
    if is_none (free_handle t) || nat_lt most_bytes (areas t + shape_area shape)
    then Some NoSpace
    else None

-- a new map with one reference is live with handle k, the lowest that was free, and nothing else
-- has changed
pub record IsCreated (old : LiveMaps) (shape : MapShape) (k : ℕ) (new : LiveMaps) : Type 0 where
  pub lowest : free_handle old ≡ Some k
  pub was : live_at old k ≡ None
  pub live : IsSome (live_at new k)
  pub keys : keys_at new k ≡ new_keys shape
  pub holds : references_at new k ≡ 1
  pub others : (other : ℕ) → other ≢ k → live_at new other ≡ live_at old other
  pub refused : new.refused ≡ old.refused

-- which result `answer` the creation of a map of this shape may have if the live maps are `old`,
-- and the live maps `new` after it. The first argument is `create_fault` of `old` and the shape:
-- `NoSpace` if no handle is free, or the areas would take more than `most_bytes`, else None. If it
-- is a fault, it is the result, and nothing changes. If it is None, the result is the new map's
-- handle k (`IsCreated`), or `Memory` (out of memory), and then only the flag `refused` is set. No
-- other error is possible (⊥)
abbrev pub Creates : Option MapFault → LiveMaps → MapShape → Result ℕ MapFault → LiveMaps → Type 0
Creates (Some fault) old shape answer new = (answer ≡ Err fault) × (new ≡ old)
Creates None old shape (Ok k) new = IsCreated old shape k new
Creates None old shape (Err Memory) new = new ≡ record { maps = old.maps; refused = true }
Creates None old shape (Err NoEntry) new = ⊥
Creates None old shape (Err TooBig) new = ⊥
Creates None old shape (Err Exists) new = ⊥
Creates None old shape (Err Invalid) new = ⊥
Creates None old shape (Err NoSpace) new = ⊥

-- ---- the references to a map

-- what a live map has besides its area: its table of keys, and the number of references to it
pub record MapWithoutArea : Type 0 where
  pub keys : KeyTable
  pub holds : ℕ

-- a live map without its area
abbrev pub without_area : LiveMap → MapWithoutArea
without_area l = record { keys = l.keys; holds = l.holds }

-- the table of keys and the number of references of the live map of handle k; None if no live map
-- has this handle
abbrev pub without_area_at : LiveMaps → ℕ → Option MapWithoutArea
without_area_at t k = option_map without_area (live_at t k)

-- a live map with one more reference
abbrev pub one_more : LiveMap → LiveMap
one_more l = record { keys = l.keys; start = l.start; stride = l.stride; holds = l.holds + 1 }

-- what a live map has besides its area (`MapWithoutArea`: its table of keys, and the number of
-- references to it, `holds`), with one reference less, as after `release`: None if it had only one,
-- since the map is then freed. Without a map (None) the result is None too. What `release` does to
-- areas is in other clauses of its contract
abbrev pub one_less : Option MapWithoutArea → Option MapWithoutArea
one_less None = None
one_less (Some h) =
    if nat_le h.holds 1 then None else Some (record { keys = h.keys; holds = h.holds - 1 })
