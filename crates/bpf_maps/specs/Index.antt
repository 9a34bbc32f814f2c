-- The fields of a hash map: its keys with their elements, and its invariant. This project's own.
use Rattle.std.specs.Prelude.{◌≡◌, ℕ, ◌+◌, ◌≤◌, List, length, take, nat_lt, if◌then◌else◌, vec_capacity}
use Rattle.std.specs.Map.{values_of}
use Rattle.tagged_model.specs.declared.shape.MapKind.TheVariants.{Hash}
use Rattle.bpf_maps.specs.KeyTable.{KeyTable, occurrences, IsSized}
use Rattle.bpf_maps.specs.declared.key_index.KeyIndex.{KeyIndex}
use Rattle.bpf_maps.specs.declared.key_index.KeyIndex.TheVariants.{Words, Middle, Long}
use Rattle.bpf_maps.specs.declared.hash_map.HashMap.TheInside.{Inside}

-- the keys of the index of a hash map, each as its bytes with the number of its element, in the
-- order in which they were added. An index is of one of three types, by the size of the map's keys:
-- it stores them as numbers (Words), in arrays of `LONGEST_MIDDLE` bytes (Middle), or in arrays of
-- `LONGEST_LONG` (Long). In contracts each type has `entries`, in which a key is its bytes, however
-- it is stored
abbrev pub entries_of : KeyIndex → List (List ℕ × ℕ)
entries_of (Words keys) = keys.entries
entries_of (Middle keys) = keys.entries
entries_of (Long keys) = keys.entries

-- the bound of the index of a hash map: the index has an element for each key, and each element is
-- less than this number, the `max_entries` of the map (`bound` of `IsWellFormedHash`). All three
-- kinds of index have it in a field: `Words`, for keys of at most `LONGEST_WORD` bytes, `Middle`,
-- for longer ones of at most `LONGEST_MIDDLE`, and `Long`, for keys that are longer still
abbrev pub bound_of : KeyIndex → ℕ
bound_of (Words keys) = keys.bound
bound_of (Middle keys) = keys.bound
bound_of (Long keys) = keys.bound

-- the index can have keys of `size` bytes. Each look-up, insertion and removal of a key requires
-- this of the key's length. In Words all keys have one size, that of the index (`keys.size`), at
-- most `LONGEST_WORD` bytes. A key in Middle has at most `LONGEST_MIDDLE` bytes, and one in Long at
-- most `LONGEST_LONG`, which is `LONGEST_KEY`, the length of the longest key of any map
abbrev pub TakesKeys : KeyIndex → ℕ → Type 0
TakesKeys (Words keys) size = size ≡ keys.size
TakesKeys (Middle keys) size = size ≤ 64
TakesKeys (Long keys) size = size ≤ 512

-- a hash map as contracts see it: of the spare elements, which no key has, the first `kept` are
-- kept apart, and the others are free
abbrev pub shown : Inside → KeyTable
shown a = record { shape = a.shape; entries = entries_of a.index; kept = take a.kept a.spare.items }

-- the elements are the numbers less than `max_entries`. Each belongs to one key or is once in the
-- list of spare elements, not both. The number of elements kept apart is at most that of the spare
-- ones. The list has room for all elements. All keys have the key size of the map's shape, and the
-- index can have keys of this size
pub record IsWellFormedHash (a : Inside) : Type 0 where
  pub kind : a.shape.kind ≡ Hash
  pub takes : TakesKeys a.index a.shape.key_size
  pub bound : bound_of a.index ≡ a.shape.max_entries
  pub once : (p : ℕ)
      → occurrences p (values_of (entries_of a.index)) + occurrences p a.spare.items
      ≡ (if nat_lt p a.shape.max_entries then 1 else 0)
  pub all : length (entries_of a.index) + length a.spare.items ≡ a.shape.max_entries
  pub kept : a.kept ≤ length a.spare.items
  pub room : a.shape.max_entries ≤ vec_capacity a.spare
  pub sized : IsSized a.shape.key_size (entries_of a.index)
