-- The elements of an array (bpf(2), BPF_MAP_TYPE_ARRAY), as a run knows them. This project's own.
use Rattle.std.specs.Prelude.{◌≡◌, ◌≢◌, ℕ, ◌+◌, ◌*◌, ◌/◌, ◌^◌, IsSome}
use Rattle.tagged_model.specs.declared.shape.MapKind.{MapKind}
use Rattle.tagged_model.specs.declared.shape.MapKind.TheVariants.{Array, Hash}
use Rattle.tagged_model.specs.declared.shape.MapShape.{MapShape}
use Rattle.bpf_maps.specs.declared.elements.Elements.{Elements}
use Rattle.bpf_maps.specs.Live.{LiveMaps, live_at, shape_at}

-- how many elements a run finds without reading the map, if the map is of this kind and n is its
-- `max_entries`: n of an array, and none of a hash map, since only the map finds the element of a
-- key
abbrev pub element_count : MapKind → ℕ → ℕ
element_count Array n = n
element_count Hash n = 0

-- the `Elements` of a map of this shape: `count` is how many elements a run finds without reading
-- the map, 0 of a hash map; `stride` is the distance from the start of one value to that of the
-- next, in bytes, which is the value's size rounded up to a multiple of eight
abbrev pub elements_of : MapShape → Elements
elements_of s = record {
  count = element_count s.kind s.max_entries;
  stride = (s.value_size + 7) / 8 * 8;
}

-- the `Elements` (count and distance) of the map of handle k; `count` is 0 if the handle has no map
abbrev pub elements_at : LiveMaps → ℕ → Elements
elements_at t k = elements_of (shape_at t k)

-- the map of handle k is a live array, and these are its `Elements`: `count` is not 0, as it would
-- be of a hash map
abbrev pub AreOfArray : Elements → LiveMaps → ℕ → Type 0
AreOfArray e t k = IsSome (live_at t k) × (e ≡ elements_at t k) × (e.count ≢ 0)

-- `Elements` as one number of 64 bits: `count` is its low 32 bits, `stride` its high 32 bits
abbrev pub word_of : Elements → ℕ
word_of e = e.count + 2 ^ 32 * e.stride
