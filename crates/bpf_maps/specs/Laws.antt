-- Laws of tables of keys and of live maps: they change as the definition of a map says, as a map of
-- elements and as one of values. This project's own.
use Rattle.std.specs.Prelude.{◌≡◌, ℕ, ◌+◌, ◌<◌, ◌≤◌, ◌==◌, if◌then◌else◌, List, Some, IsSome}
use Rattle.std.specs.Map.{values_of}
use Rattle.tagged_model.specs.declared.shape.MapShape.{MapShape}
use Rattle.tagged_model.specs.Table as map
pub use Rattle.tagged_model.specs.MapLaws.{CallsRefineValues}
use Rattle.bpf_maps.specs.KeyTable.{KeyTable, table_of, occurrences, IsSound, new_keys, with_entry, with_kept, after_run}
use Rattle.bpf_maps.specs.declared.part.TheConstants.{PART}
use Rattle.bpf_maps.specs.Live.{LiveMaps, live_at, offset_at, SameAreas}

-- ---- a table of keys

-- a table of keys, as a map whose objects are elements (`table_of`), is new, gets a new key, loses
-- a key and ends a run as `Table` of `tagged_model` defines it for maps
pub record CallsAreThoseOfAMap : Type 0 where
  pub new : (shape : MapShape) → table_of (new_keys shape) ≡ map.new_table (λ i. i) shape
  pub update : (t : KeyTable) (key : List ℕ) (element : ℕ)
      → table_of (with_entry t key element) ≡ map.with_new (table_of t) key element
  pub delete : (t : KeyTable) (key : List ℕ) (element : ℕ)
      → table_of (with_kept t key element) ≡ map.with_deleted (table_of t) key
  pub end : (t : KeyTable) → table_of (after_run t) ≡ map.after_run (table_of t)

-- if `bytes` become the value of a key's element, the map of values has them as the value of this
-- key, and is otherwise unchanged. `value` gives the value of each element before; B is the type of
-- values
abbrev pub WritesRefineValues : Type 0 → Type 0
WritesRefineValues B =
    (value : ℕ → B) (t : KeyTable) (key : List ℕ) (element : ℕ) (bytes : B)
    → IsSound t
    → map.look_up (table_of t) key ≡ Some element
    → map.with_values (λ p. if p == element then bytes else value p) (table_of t)
    ≡ map.with_object (map.with_values value (table_of t)) key bytes

-- if f and g give each element that a key has the same value, the maps of values that they make are
-- equal
abbrev pub ValuesAgree : Type 0 → Type 0
ValuesAgree B =
    (f g : ℕ → B) (t : KeyTable) → ((p : ℕ) → 1 ≤ occurrences p (values_of t.entries) → f p ≡ g p)
    → map.with_values f (table_of t) ≡ map.with_values g (table_of t)

-- an element of a key, or one that is kept apart, is less than `max_entries`
abbrev pub ElementsAreWithin : Type 0
ElementsAreWithin =
    (t : KeyTable) (p : ℕ)
    → IsSound t
    → 1 ≤ occurrences p (values_of t.entries) + occurrences p t.kept
    → p < t.shape.max_entries

-- ---- a tenant's live maps

-- if the areas are unchanged, the value of each element of a live map keeps its offset in the part
abbrev pub AreasKeepElements : Type 0
AreasKeepElements =
    (old new : LiveMaps) (k p : ℕ)
    → SameAreas old new
    → IsSome (live_at new k)
    → offset_at new k p ≡ offset_at old k p

-- a deletion frees no element: that of the key is kept apart, so each element p is that of a key or
-- kept apart as often as before
abbrev pub DeletesKeepElements : Type 0
DeletesKeepElements =
    (t : KeyTable) (key : List ℕ) (element p : ℕ) → map.look_up (table_of t) key ≡ Some element
    → occurrences p (values_of (with_kept t key element).entries)
    + occurrences p (with_kept t key element).kept
    ≡ occurrences p (values_of t.entries) + occurrences p t.kept

-- a key and a value of any shape are at most as long as a part
abbrev pub SizesFitInParts : Type 0
SizesFitInParts = (s : MapShape) → (s.key_size ≤ PART) × (s.value_size ≤ PART)
