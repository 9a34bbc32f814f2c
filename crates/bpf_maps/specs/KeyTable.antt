-- A map whose objects are elements, and the possible results and effects of its calls. The element
-- of a key that a run deletes is kept apart until the run ends. The calls are those of bpf(2);
-- elements are this project's own. The number of times that a list has an element is `occurrences`.
pub use Rattle.ordered_keys.specs.Orders.{occurrences}
use Rattle.std.specs.Prelude.{◌≡◌, ℕ, ◌+◌, ◌<◌, ◌≤◌, nat_lt, if◌then◌else◌, List, [], ◌∷◌, ◌++◌, drop, length, Option, Some, None, Result, Ok, Err}
use Rattle.std.specs.Map.{values_of}
use Rattle.tagged_model.specs.declared.shape.MapKind.TheVariants.{Array}
use Rattle.tagged_model.specs.declared.shape.MapShape.{MapShape}
use Rattle.tagged_model.specs.declared.fault.MapFault.{MapFault}
use Rattle.tagged_model.specs.declared.fault.MapFault.TheVariants.{NoEntry}
use Rattle.tagged_model.specs.Table.{Table, Verdict, Refused, Present, New, with_key, without, new_entries}

-- a map's shape, its keys in order, each with its element, and the elements that are kept apart
pub record KeyTable : Type 0 where
  pub shape : MapShape
  pub entries : List (List ℕ × ℕ)
  pub kept : List ℕ

-- the table of keys as a map (`Table` of `tagged_model`), of which the objects are the elements;
-- each element that is kept apart counts as a deleted object
abbrev pub table_of : KeyTable → Table ℕ
table_of t = record { shape = t.shape; entries = t.entries; deleted = length t.kept }

-- the table of a new map: an array has all its indices, each with itself for its element; a hash
-- map has no keys
abbrev pub new_keys : MapShape → KeyTable
new_keys shape = record {
  shape = shape;
  entries = new_entries (λ i. i) shape.kind shape.max_entries;
  kept = [];
}

-- ---- the invariant

-- each key has n bytes
abbrev pub IsSized : ℕ → List (List ℕ × ℕ) → Type 0
IsSized n [] = Unit {0}
IsSized n (e ∷ es) = (length e.0 ≡ n) × IsSized n es

-- each element less than `max_entries` belongs to at most one key or is kept apart once, not both;
-- no other element belongs to a key or is kept apart. So these are at most `max_entries`. Each key
-- has the map's key size. An array is as when it was new: it has all its indices, each with itself
-- for its element
pub record IsSound (t : KeyTable) : Type 0 where
  pub once : (p : ℕ)
      → occurrences p (values_of t.entries) + occurrences p t.kept
      ≤ (if nat_lt p t.shape.max_entries then 1 else 0)
  pub few : length t.entries + length t.kept ≤ t.shape.max_entries
  pub sized : IsSized t.shape.key_size t.entries
  pub array : t.shape.kind ≡ Array → t ≡ new_keys t.shape

-- ---- the calls

-- element p is not in use: it is less than `max_entries`, no key has it, and it is not kept apart
pub record IsFree (t : KeyTable) (p : ℕ) : Type 0 where
  pub within : p < t.shape.max_entries
  pub entries : occurrences p (values_of t.entries) ≡ 0
  pub kept : occurrences p t.kept ≡ 0

-- the table with a new key, which was absent, at the end; its element is p, which was free
abbrev pub with_entry : KeyTable → List ℕ → ℕ → KeyTable
with_entry t key p = record { shape = t.shape; entries = with_key key p t.entries; kept = t.kept }

-- the claim of an element for `key`, the first step of an update, may return `answer` and change
-- the table from `old` to `new`. The first argument is the verdict on the update. `Refused`: the
-- claim returns the fault, and the table is unchanged. `Present`: it returns p, the element that
-- the key has, and the table is unchanged. `New`: it returns any element p that no key has and that
-- is not kept apart (`IsFree`), and the key is added at the end, with p. The claim can't fail then
-- (⊥): if no element is free, the verdict on an update of an absent key is `Refused`
abbrev pub Claims : Verdict ℕ → List ℕ → KeyTable → Result ℕ MapFault → KeyTable → Type 0
Claims (Refused fault) key old answer new = (answer ≡ Err fault) × (new ≡ old)
Claims (Present p) key old answer new = (answer ≡ Ok p) × (new ≡ old)
Claims New key old (Ok p) new = IsFree old p × (new ≡ with_entry old key p)
Claims New key old (Err fault) new = ⊥

-- the table without a key, which was present; p, the element of the key, is kept apart
abbrev pub with_kept : KeyTable → List ℕ → ℕ → KeyTable
with_kept t key p = record {
  shape = t.shape;
  entries = without key t.entries;
  kept = t.kept ++ p ∷ [];
}

-- a deletion of `key` (BPF_MAP_DELETE_ELEM), by a command or in a run, from the table `old` returns
-- `answer`, and `new` is the table after it. The first argument is what `removal` returns for the
-- key. `Err fault`: there is nothing to delete, since the key is absent or the map is an array; the
-- deletion returns this fault, and the table is unchanged. `Ok p`: p is the element of the key; the
-- deletion returns Ok without a value (`tt`), and the table no longer has the key, but p is kept
-- apart (`with_kept`): no key gets p until `end_run`, which is called at the end of a run, and by a
-- command, which is in no run, at once
abbrev pub Removes : Result ℕ MapFault
    → List ℕ
    → KeyTable
    → Result (Unit {0}) MapFault
    → KeyTable
    → Type 0
Removes (Err fault) key old answer new = (answer ≡ Err fault) × (new ≡ old)
Removes (Ok p) key old answer new = (answer ≡ Ok tt) × (new ≡ with_kept old key p)

-- the result `answer` of a request for the next key (BPF_MAP_GET_NEXT_KEY), and the caller's
-- buffer, which has the bytes `old` before and `new` after it. The first argument is the next key:
-- it replaces the first bytes of the buffer, and the result is no error. If no key follows (None),
-- the error is NoEntry, and the buffer is unchanged
abbrev pub GivesKey : Option (List ℕ) → List ℕ → Result (Unit {0}) MapFault → List ℕ → Type 0
GivesKey None old answer new = (answer ≡ Err NoEntry) × (new ≡ old)
GivesKey (Some key) old answer new = (answer ≡ Ok tt) × (new ≡ key ++ drop (length key) old)

-- the table after the end of a run: no element is kept apart
abbrev pub after_run : KeyTable → KeyTable
after_run t = record { shape = t.shape; entries = t.entries; kept = [] }
