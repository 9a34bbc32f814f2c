-- What a map is (bpf(2); the kernel documentation of BPF_MAP_TYPE_ARRAY and BPF_MAP_TYPE_HASH): a
-- list of keys with their objects, in order. An object is anything that represents a value: its
-- number in a run, its element in an area, its bytes. The order of the refusals, the order of a
-- hash map's keys, and that objects deleted in a run count until the run ends are this project's
-- own.
use Rattle.std.specs.Prelude.{ℕ, zero, suc, ◌+◌, ◌==◌, ◌&&◌, nat_eq, nat_le, nat_lt, Bool, true, false}
use Rattle.std.specs.Prelude.{if◌then◌else◌, List, [], ◌∷◌, ◌++◌, length, map, Option, Some, None, is_some, Result, Ok, Err}
use Rattle.std.specs.Map.{lookup, remove_entry, set_value}
use Rattle.std.specs.Cmp.Lexicographic.{pointwise}
use Rattle.words.specs.Bytes.{low_bytes}
use Rattle.tagged_model.specs.declared.shape.MapKind.{MapKind}
use Rattle.tagged_model.specs.declared.shape.MapKind.TheVariants.{Hash, Array}
use Rattle.tagged_model.specs.declared.shape.MapShape.{MapShape}
use Rattle.tagged_model.specs.declared.fault.MapFault.{MapFault}
use Rattle.tagged_model.specs.Shape.{area}
use Rattle.tagged_model.specs.declared.fault.MapFault.TheVariants.{NoEntry, TooBig, Exists, Invalid}

-- a map: its shape, its keys in order, each with its object, and the number of objects deleted in
-- this run; an object is of the type A, which represents a value
pub record Table (A : Type 0) : Type 0 where
  pub shape : MapShape
  pub entries : List (List ℕ × A)
  pub deleted : ℕ

-- the number of bytes that the values of a map of this shape take
abbrev pub shape_area : MapShape → ℕ
shape_area shape = area shape.value_size shape.max_entries

-- ---- lists of keys with their objects

-- whether the two keys are equal
abbrev pub is_key : List ℕ → List ℕ → Bool
is_key key other = pointwise nat_eq key other

module _ {A : Type 0} where
  -- the object of a key, if the key is present
  abbrev pub found : List ℕ → List (List ℕ × A) → Option A
  found key es = lookup (is_key key) es

  -- the entries without a key; the others keep their order
  abbrev pub without : List ℕ → List (List ℕ × A) → List (List ℕ × A)
  without key es = remove_entry (is_key key) es

  -- the entries with a new key and its object at the end
  abbrev pub with_key : List ℕ → A → List (List ℕ × A) → List (List ℕ × A)
  with_key key a es = es ++ (key, a) ∷ []

  -- the first key; None if there is no key
  abbrev pub first_key : List (List ℕ × A) → Option (List ℕ)
  first_key [] = None
  first_key (e ∷ es) = Some e.0

  -- the key after `key`, which is present; None if it is the last
  abbrev pub key_after_present : List ℕ → List (List ℕ × A) → Option (List ℕ)
  key_after_present key [] = None
  key_after_present key (e ∷ es) = if is_key key e.0 then first_key es else key_after_present key es

  -- the key after `key`; the first one if `key` is empty or absent
  abbrev pub key_after : List ℕ → List (List ℕ × A) → Option (List ℕ)
  key_after key es = if is_some (found key es) then key_after_present key es else first_key es

-- the key of an index: its four bytes, little-endian
unfoldable pub index_key : ℕ → List ℕ
index_key i = low_bytes 4 i

-- the keys of the n indices from `first` on, each with the object that `object` gives for the index
unfoldable pub indexed : {A : Type 0} → (ℕ → A) → ℕ → ℕ → List (List ℕ × A)
indexed object first zero = []
indexed object first (suc n) = (index_key first, object first) ∷ indexed object (first + 1) n

-- the entries of a new map: an array has all its indices, `max` in number, a hash map has no key
abbrev pub new_entries : {A : Type 0} → (ℕ → A) → MapKind → ℕ → List (List ℕ × A)
new_entries object Array max = indexed object 0 max
new_entries object Hash max = []

-- ---- the flags of an update (bpf(2), BPF_MAP_UPDATE_ELEM): 0 allows any update

-- BPF_NOEXIST: the key must be absent
abbrev pub no_exist : ℕ
no_exist = 1

-- BPF_EXIST: the key must be present
abbrev pub exist : ℕ
exist = 2

-- ---- the calls

-- the verdict on an update: a refusal, the object of a present key, or a new key, which needs a new
-- object
pub data Verdict (A : Type 0) : Type 0 where
  Refused : (fault : MapFault) → Verdict A
  Present : (object : A) → Verdict A
  New : Verdict A

module _ {A : Type 0} where
  -- BPF_MAP_LOOKUP_ELEM: the object of a key, if the key is present
  abbrev pub look_up : Table A → List ℕ → Option A
  look_up t key = found key t.entries

  -- whether a hash map is full: its keys and the objects deleted in this run are together as many
  -- as the entries that it may have
  abbrev pub is_full : Table A → Bool
  is_full t = (length t.entries + t.deleted) == t.shape.max_entries

  -- the verdict on an update, with these flags, of a present key, which has object a
  abbrev pub of_present : ℕ → A → Verdict A
  of_present flags a = if flags == no_exist then Refused Exists else Present a

  -- the verdict on an update, with these flags, of an absent key, which in an array is an index out
  -- of range; `full`: the hash map has no room for a new key
  abbrev pub of_absent : MapKind → Bool → ℕ → Verdict A
  of_absent Array full flags = Refused TooBig
  of_absent Hash full flags =
      if flags == exist then Refused NoEntry else (if full then Refused TooBig else New)

  -- the verdict on an update with these flags, from the look-up of its key
  abbrev pub of_found : Table A → ℕ → Option A → Verdict A
  of_found t flags None = of_absent t.shape.kind (is_full t) flags
  of_found t flags (Some a) = of_present flags a

  -- BPF_MAP_UPDATE_ELEM: the verdict on an update; a flag above 2 is unknown
  abbrev pub verdict : Table A → List ℕ → ℕ → Verdict A
  verdict t key flags =
      if nat_le flags exist then of_found t flags (look_up t key) else Refused Invalid

  -- the map with a new key, at the end, and a new object
  abbrev pub with_new : Table A → List ℕ → A → Table A
  with_new t key a = record {
    shape = t.shape;
    entries = with_key key a t.entries;
    deleted = t.deleted;
  }

  -- the map with another object for a present key, which keeps its position
  abbrev pub with_object : Table A → List ℕ → A → Table A
  with_object t key a = record {
    shape = t.shape;
    entries = set_value (is_key key) t.entries a;
    deleted = t.deleted;
  }

  -- the object to delete, from the look-up of its key, or why none is: an absent key, or an array,
  -- of which no index can be deleted
  abbrev pub removal_of : MapKind → Option A → Result A MapFault
  removal_of Array o = Err Invalid
  removal_of Hash None = Err NoEntry
  removal_of Hash (Some a) = Ok a

  -- BPF_MAP_DELETE_ELEM: a refusal, or the object to delete
  abbrev pub removal : Table A → List ℕ → Result A MapFault
  removal t key = removal_of t.shape.kind (look_up t key)

  -- the map without a key, which was present; its object counts until the run ends (`is_full`)
  abbrev pub with_deleted : Table A → List ℕ → Table A
  with_deleted t key = record {
    shape = t.shape;
    entries = without key t.entries;
    deleted = t.deleted + 1;
  }

  -- BPF_MAP_GET_NEXT_KEY: the key after `key`, or the first if `key` is empty or absent; None after
  -- the last key, and in a map without keys
  abbrev pub next_of : Table A → List ℕ → Option (List ℕ)
  next_of t key = key_after key t.entries

  -- the map after a run, in which deleted objects no longer count
  abbrev pub after_run : Table A → Table A
  after_run t = record { shape = t.shape; entries = t.entries; deleted = 0 }

  -- a new map of this shape; in an array `object i` is the object of index i
  abbrev pub new_table : (ℕ → A) → MapShape → Table A
  new_table object shape = record {
    shape = shape;
    entries = new_entries object shape.kind shape.max_entries;
    deleted = 0;
  }

-- ---- the value that a program may load without a call (linux/bpf.h, BPF_PSEUDO_MAP_VALUE): that
-- of an array of one element, at an offset in it, as the kernel's array maps have it
-- (map_direct_value_addr)

-- whether maps of this kind are arrays
abbrev pub is_array : MapKind → Bool
is_array Array = true
is_array Hash = false

-- whether a map of this shape has a direct value, which is the value of an array of one value, and
-- the offset, in bytes, lies in it
abbrev pub has_direct_value : MapShape → ℕ → Bool
has_direct_value shape offset =
    is_array shape.kind && (shape.max_entries == 1) && nat_lt offset shape.value_size

-- the object of the direct value, that of index 0; None if the offset lies in no direct value
abbrev pub direct_object : {A : Type 0} → Table A → ℕ → Option A
direct_object t offset = if has_direct_value t.shape offset then look_up t (index_key 0) else None

-- ---- the values that objects represent

module _ {A B : Type 0} (value : A → B) where
  -- the map with the same keys in the same order, each with the value that its object represents
  abbrev pub with_values : Table A → Table B
  with_values t = record {
    shape = t.shape;
    entries = map (λ e. (e.0, value e.1)) t.entries;
    deleted = t.deleted;
  }

  -- the verdict with the value that its object represents; a refusal and a new key have no object
  abbrev pub verdict_with : Verdict A → Verdict B
  verdict_with (Refused fault) = Refused fault
  verdict_with (Present a) = Present (value a)
  verdict_with New = New
