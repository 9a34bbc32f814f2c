-- The effects of writes and calls on live maps, as keys with the bytes of their values. The calls
-- are those of bpf(2); the addresses of values are this project's own.
use Rattle.std.specs.Prelude.{◌≡◌, ◌≢◌, ℕ, ◌<◌, List, length, take, Some, IsSome, Ok}
use Rattle.words.specs.Bytes.{written_at}
use Rattle.tagged_model.specs.Table as map
use Rattle.bpf_maps.specs.declared.part.TheConstants.{STACK_AND_CONTEXT, PART}
use Rattle.bpf_maps.specs.KeyTable.{table_of, Claims, with_kept, after_run}
use Rattle.bpf_maps.specs.Live.{LiveMaps, live_at, keys_at, shape_at, offset_at, value_in, map_in, IsLaid, AreSound, SameAreas}

-- ---- a value is written

-- the premises of `ValuesAreWritten`: the map of handle k is live and has element p, `bytes` have
-- the size of its values, the part has `PART` bytes, the values of live maps lie in it and don't
-- overlap, and no two keys of a map have the same element
pub record IsValueAt (part : List ℕ) (t : LiveMaps) (k p : ℕ) (bytes : List ℕ) : Type 0 where
  pub whole : length part ≡ PART
  pub laid : IsLaid t
  pub sound : AreSound t
  pub live : IsSome (live_at t k)
  pub within : p < (shape_at t k).max_entries
  pub size : length bytes ≡ (shape_at t k).value_size

-- the part with these bytes as the value of element p of the map of handle k
abbrev pub with_value : List ℕ → LiveMaps → ℕ → ℕ → List ℕ → List ℕ
with_value part t k p bytes = written_at part (offset_at t k p) bytes

-- once these bytes are written at element p of the map of handle k, they are the value of this
-- element, and of its key if it has one; no other value of a live map changes, nor do the stack and
-- the context
pub record ValueIsWritten (part : List ℕ) (t : LiveMaps) (k p : ℕ) (bytes : List ℕ) : Type 0 where
  pub here : value_in (with_value part t k p bytes) t k p ≡ bytes
  pub elsewhere : (j q : ℕ)
      → IsSome (live_at t j)
      → q < (shape_at t j).max_entries
      → (j ≡ k → q ≢ p)
      → value_in (with_value part t k p bytes) t j q ≡ value_in part t j q
  pub key : (key : List ℕ)
      → map.look_up (table_of (keys_at t k)) key ≡ Some p
      → map_in (with_value part t k p bytes) t k ≡ map.with_object (map_in part t k) key bytes
  pub others : (other : ℕ)
      → other ≢ k
      → IsSome (live_at t other)
      → map_in (with_value part t k p bytes) t other ≡ map_in part t other
  pub front : take STACK_AND_CONTEXT (with_value part t k p bytes) ≡ take STACK_AND_CONTEXT part
  pub size : length (with_value part t k p bytes) ≡ PART

-- once a value is written at an element of a live map, it is the value of this element, and of its
-- key if it has one; no other value of a live map changes (`ValueIsWritten`)
abbrev pub ValuesAreWritten : Type 0
ValuesAreWritten =
    (part : List ℕ) (t : LiveMaps) (k p : ℕ) (bytes : List ℕ)
    → IsValueAt part t k p bytes
    → ValueIsWritten part t k p bytes

-- ---- a map changes, and its area does not

-- the map t after an update of `key` to `value`, by the verdict on this update. Refused, for any
-- `fault`: t is unchanged. Present, if t has the key, with the value `old`: `value` replaces `old`,
-- and the key keeps its position. New, if t does not have the key: key and value are added after
-- all others
abbrev pub updated : map.Verdict (List ℕ)
    → map.Table (List ℕ)
    → List ℕ
    → List ℕ
    → map.Table (List ℕ)
updated (map.Refused fault) t key value = t
updated (map.Present old) t key value = map.with_object t key value
updated map.New t key value = map.with_new t key value

-- the map of handle k, with its values in the part, after an update of a key with these flags
abbrev pub updated_in : List ℕ → LiveMaps → ℕ → List ℕ → List ℕ → ℕ → map.Table (List ℕ)
updated_in part t k key value flags =
    updated (map.verdict (map_in part t k) key flags) (map_in part t k) key value

-- from `old` to `new`, the map of handle k with the values in `part` changes as its table of keys
-- does: not at all, by a deletion, at the end of a run, or by a claim, after which the value is
-- written
pub record RefinesValues (part : List ℕ) (old new : LiveMaps) (k : ℕ) : Type 0 where
  pub same : keys_at new k ≡ keys_at old k → map_in part new k ≡ map_in part old k
  pub delete : (key : List ℕ) (element : ℕ)
      → keys_at new k ≡ with_kept (keys_at old k) key element
      → map_in part new k ≡ map.with_deleted (map_in part old k) key
  pub end : keys_at new k ≡ after_run (keys_at old k)
      → map_in part new k ≡ map.after_run (map_in part old k)
  pub update : (flags p : ℕ) (key bytes : List ℕ)
      → IsValueAt part new k p bytes
      → Claims (map.verdict (table_of (keys_at old k)) key flags) key (keys_at old k) (Ok p)
      (keys_at new k)
      → map_in (with_value part new k p bytes) new k ≡ updated_in part old k key bytes flags

-- if a change keeps the areas, each map that is live after it, seen as keys with values, changes as
-- its table of keys does (`RefinesValues`)
abbrev pub LiveMapsRefineValues : Type 0
LiveMapsRefineValues =
    (part : List ℕ) (old new : LiveMaps) (k : ℕ)
    → SameAreas old new
    → IsSome (live_at new k)
    → RefinesValues part old new k
