-- A new array is the list of its indices, and no call changes it.
use Rattle.std.proofs.Common.{◌≡◌, ℕ, ◌+◌, ◌*◌, ◌<◌, ◌^◌, ◌/◌, ◌%◌, Bool, List, [], ◌∷◌, length, Some}
use Rattle.std.proofs.Common.{None, refl, sym, ap, subst, ◌∙◌, nat_lt, if◌then◌else◌, arith, get_or}
use Rattle.std.specs.Map.{values_of}
use Rattle.words.specs.Bytes.{low_bytes}
use Rattle.tagged_model.specs.declared.shape.MapKind.{MapKind}
use Rattle.tagged_model.specs.declared.shape.MapKind.TheVariants.{Array, Hash}
use Rattle.tagged_model.specs.declared.shape.MapShape.{MapShape}
use Rattle.tagged_model.specs.Table.{found, key_after, look_up, next_of, index_key, indexed, new_entries}
use Rattle.bpf_maps.specs.KeyTable.{KeyTable, table_of, new_keys, after_run, occurrences, IsSound, IsSized}
use Rattle.bpf_maps.proofs.Shapes.{few_entries, array_key, hash_no_array}
use Rattle.bpf_maps.proofs.Indices.{found_index, after_index, after_other, length_indexed, once_indexed, sized_indexed}

-- ---- the table of an array

module _ (s : MapShape) (array : s.kind ≡ Array) where
  entries_are : new_entries (λ i. i) s.kind s.max_entries ≡ indexed (λ i. i) 0 s.max_entries
  entries_are = ap (λ (d : MapKind). new_entries (λ i. i) d s.max_entries) array

  -- it has as many keys as entries
  pub length_new : length (new_keys s).entries ≡ s.max_entries
  length_new = ap length entries_are ∙ length_indexed 0 s.max_entries

  -- the table of keys of a new array is sound
  pub sound_array : IsSound (new_keys s)
  sound_array = record {
    once = λ p.
        let e : occurrences p (values_of (new_entries (λ i. i) s.kind s.max_entries))
        ≡ (if nat_lt p s.max_entries then 1 else 0) =
        ap (λ (es : List (List ℕ × ℕ)). occurrences p (values_of es)) entries_are ∙ once_indexed p s.max_entries in
        omega arith;
    few = let all = length_new in omega arith;
    sized =
        subst (λ (es : List (List ℕ × ℕ)). IsSized s.key_size es) (sym entries_are)
        (subst (λ (n : ℕ). IsSized n (indexed (λ i. i) 0 s.max_entries)) (sym (array_key s array))
        (sized_indexed 0 s.max_entries));
    array = λ _. refl;
  }

  -- an index is found if it is in range
  found_new : (key : List ℕ) (i : ℕ)
      → index_key i ≡ key → i < 2 ^ 32
      → look_up (table_of (new_keys s)) key ≡ (if nat_lt i s.max_entries then Some i else None)
  found_new key i same small =
      let few = few_entries s in
      let m : 0 + s.max_entries ≡ s.max_entries = omega arith in
      ap (found key) entries_are
      ∙ ap (λ (k : List ℕ). found k (indexed (λ i. i) 0 s.max_entries)) (sym same)
      ∙ found_index 0 s.max_entries i (omega arith) small (omega arith)
      ∙ ap (λ (x : ℕ). if nat_lt i x then Some i else None) m

  -- the key after an index that is in range
  next_new : (key : List ℕ) (i : ℕ)
      → index_key i ≡ key → i < s.max_entries
      → next_of (table_of (new_keys s)) key ≡ (if nat_lt (i + 1) s.max_entries then Some (index_key (i + 1)) else None)
  next_new key i same below =
      let few = few_entries s in
      ap (key_after key) entries_are
      ∙ ap (λ (k : List ℕ). key_after k (indexed (λ i. i) 0 s.max_entries)) (sym same)
      ∙ after_index s.max_entries i (omega arith) below

  -- the key after an absent key
  next_other : (key : List ℕ)
      → look_up (table_of (new_keys s)) key ≡ None
      → next_of (table_of (new_keys s)) key ≡ (if nat_lt 0 s.max_entries then Some (index_key 0) else None)
  next_other key none =
      ap (key_after key) entries_are ∙ after_other s.max_entries key (ap (found key) (sym entries_are) ∙ none)

-- ---- the same of a table that is that of an array

module _ {t : KeyTable} (array : t.shape.kind ≡ Array) (whole : t ≡ new_keys t.shape) where
  -- a look-up of an index finds the index as its own element if it is in range, else nothing
  pub found_array : (key : List ℕ) (i : ℕ) (b : Bool)
      → index_key i ≡ key → i < 2 ^ 32
      → nat_lt i t.shape.max_entries ≡ b
      → (if b then Some i else None) ≡ look_up (table_of t) key
  found_array key i b same small is =
      ap (λ (x : Bool). if x then Some i else None) (sym is)
      ∙ sym (found_new t.shape array key i same small)
      ∙ ap (λ (u : KeyTable). look_up (table_of u) key) (sym whole)

  -- the key after that of an index in range is the key of the next index, if this is in range too
  pub after_present : (key : List ℕ) (i : ℕ)
      → index_key i ≡ key → i < t.shape.max_entries
      → next_of (table_of t) key ≡ (if nat_lt (i + 1) t.shape.max_entries then Some (index_key (i + 1)) else None)
  after_present key i same below =
      ap (λ (u : KeyTable). next_of (table_of u) key) whole ∙ next_new t.shape array key i same below

  -- the key after an absent key is that of index 0
  pub after_absent : (key : List ℕ)
      → look_up (table_of t) key ≡ None
      → next_of (table_of t) key ≡ (if nat_lt 0 t.shape.max_entries then Some (index_key 0) else None)
  after_absent key none =
      ap (λ (u : KeyTable). next_of (table_of u) key) whole
      ∙ next_other t.shape array key (ap (λ (u : KeyTable). look_up (table_of u) key) (sym whole) ∙ none)

  -- no element is kept apart
  pub run_ends : t ≡ after_run t
  run_ends = whole ∙ ap after_run (sym whole)

-- the bytes of an index
pub spells : (i : ℕ) → low_bytes 4 i ≡ index_key i
unfolding index_key
spells i = refl

-- the index that four bytes spell
pub spelled : (key : List ℕ) (n : ℕ)
    → length key ≡ 4 → ((i : ℕ) → get_or key i 0 < 256)
    → n ≡ get_or key 0 0 + get_or key 1 0 * 256 + get_or key 2 0 * 65536 + get_or key 3 0 * 16777216
    → index_key n ≡ key
unfolding index_key
spelled [] n size small is = absurd (omega arith)
spelled (a ∷ []) n size small is = absurd (omega arith)
spelled (a ∷ b ∷ []) n size small is = absurd (omega arith)
spelled (a ∷ b ∷ c ∷ []) n size small is = absurd (omega arith)
spelled (a ∷ b ∷ c ∷ d ∷ []) n size small is =
    let p : a < 256 = small 0 in
    let q : b < 256 = small 1 in
    let r : c < 256 = small 2 in
    let s : d < 256 = small 3 in
    let e : n ≡ a + b * 256 + c * 65536 + d * 16777216 = is in
    let w : n % 256 ≡ a = omega arith in
    let x : n / 256 % 256 ≡ b = omega arith in
    let y : n / 256 / 256 % 256 ≡ c = omega arith in
    let z : n / 256 / 256 / 256 % 256 ≡ d = omega arith in
    λ k. w k ∷ x k ∷ y k ∷ z k ∷ []
spelled (a ∷ b ∷ c ∷ d ∷ e ∷ rest) n size small is = absurd (omega arith)

-- ---- a new map

no_keys : (s : MapShape) → s.kind ≡ Hash → new_entries (λ i. i) s.kind s.max_entries ≡ []
no_keys s hash = ap (λ (d : MapKind). new_entries (λ i. i) d s.max_entries) hash

sound_hash : (s : MapShape) → s.kind ≡ Hash → IsSound (new_keys s)
sound_hash s hash = record {
  once = λ p.
      let e : occurrences p (values_of (new_entries (λ i. i) s.kind s.max_entries)) ≡ 0 =
      ap (λ (es : List (List ℕ × ℕ)). occurrences p (values_of es)) (no_keys s hash) in
      omega arith;
  few = let e : length (new_entries (λ i. i) s.kind s.max_entries) ≡ 0 = ap length (no_keys s hash) in omega arith;
  sized = subst (λ (es : List (List ℕ × ℕ)). IsSized s.key_size es) (sym (no_keys s hash)) tt;
  array = λ array. absurd (hash_no_array s.kind hash array);
}

-- the table of keys of a new map is sound
pub sound_new : (s : MapShape) → IsSound (new_keys s)
sound_new s = by s.kind refl
  where
    by : (d : MapKind) → s.kind ≡ d → IsSound (new_keys s)
    by Array e = sound_array s e
    by Hash e = sound_hash s e
