-- The values of the elements of a map.
use Rattle.std.proofs.Common.{◌≡◌, ℕ, zero, suc, ◌+◌, ◌<◌, ◌≤◌, ◌==◌, Bool, true, false, cond, List, []}
use Rattle.std.proofs.Common.{◌∷◌, map, Some, refl, ap, ◌∙◌, nat_eq, nat_lt, if◌then◌else◌, arith, eq-eqb}
use Rattle.std.proofs.lemmas.Option.{same_Some}
use Rattle.std.specs.Map.{values_of, set_value}
use Rattle.tagged_model.specs.declared.shape.MapKind.{MapKind}
use Rattle.tagged_model.specs.declared.shape.MapKind.TheVariants.{Hash, Array}
use Rattle.tagged_model.specs.declared.shape.MapShape.{MapShape}
use Rattle.tagged_model.specs.Table.{Table, is_key, found, index_key, indexed, new_entries, new_table, with_object, with_values}
use Rattle.bpf_maps.specs.KeyTable.{KeyTable, table_of, new_keys, IsSound, occurrences}
use Rattle.bpf_maps.specs.Live.{LiveMaps, keys_at, value_in, map_in}
use Rattle.bpf_maps.proofs.Counts.{in_use}

module _ {B : Type 0} (value : ℕ → B) where
  abbrev pub valued : List (List ℕ × ℕ) → List (List ℕ × B)
  valued es = map (λ e. (e.0, value e.1)) es

-- ---- values that agree on the elements in use

module _ {B : Type 0} (f g : ℕ → B) where
  in_front : (p n : ℕ) → p ≡ p → 1 ≤ (if nat_eq p p then 1 else 0) + n
  in_front p n e = grind arith

  -- if the values of all elements in use are equal, the keys have equal values
  pub agreeing : (es : List (List ℕ × ℕ))
      → ((p : ℕ) → 1 ≤ occurrences p (values_of es) → f p ≡ g p) → valued f es ≡ valued g es
  agreeing [] h = refl
  agreeing (e ∷ es) h =
      let head = h e.1 (in_front e.1 (occurrences e.1 (values_of es)) refl) in
      let rest = agreeing es (λ p used. h p (omega arith)) in
      λ i. (e.0, head i) ∷ rest i

  -- if the values of all elements in use are equal, the maps of values are equal
  pub agreeing_tables : (t : KeyTable)
      → ((p : ℕ) → 1 ≤ occurrences p (values_of t.entries) → f p ≡ g p)
      → with_values f (table_of t) ≡ with_values g (table_of t)
  agreeing_tables t h =
      ap (λ (es : List (List ℕ × B)).
      let m : Table B = record { shape = t.shape; entries = es; deleted = (table_of t).deleted } in m)
      (agreeing t.entries h)

-- an element in use is one of the map
used_below : (p n m k : ℕ) → n + m ≤ (if nat_lt p k then 1 else 0) → 1 ≤ n + m → p < k
used_below p n m k h used = grind arith

-- an element that is in use or kept apart is less than `max_entries`
pub used_within : (t : KeyTable) (p : ℕ)
    → IsSound t
    → 1 ≤ occurrences p (values_of t.entries) + occurrences p t.kept
    → p < t.shape.max_entries
used_within t p sound used =
    used_below p (occurrences p (values_of t.entries)) (occurrences p t.kept) t.shape.max_entries (sound.once p) used

-- in a sound table, the element of a key is less than `max_entries`
pub used_in_entries : (t : KeyTable) (p : ℕ)
    → IsSound t → 1 ≤ occurrences p (values_of t.entries) → p < t.shape.max_entries
used_in_entries t p sound used = used_within t p sound (omega arith)

-- ---- a value is written

module _ {B : Type 0} (value : ℕ → B) (p : ℕ) (bytes : B) where
  abbrev pub written : ℕ → B
  written q = if q == p then bytes else value q

  written_here : (q : ℕ) → q ≡ p → written q ≡ bytes
  written_here q e = ap (λ b. if b then bytes else value q) (eq-eqb q p e)

  written_apart : (q : ℕ) → (q == p) ≡ false → written q ≡ value q
  written_apart q e = ap (λ b. if b then bytes else value q) e

  not_among : (q n : ℕ) → (if nat_eq p q then 1 else 0) + n ≡ 0 → ((q == p) ≡ false) × (n ≡ 0)
  not_among q n h = (grind arith, omega arith)

  once_here : (q n : ℕ) → q ≡ p → (if nat_eq p q then 1 else 0) + n ≤ 1 → n ≡ 0
  once_here q n e h = grind arith

  once_behind : (q n : ℕ) → (if nat_eq p q then 1 else 0) + n ≤ 1 → 1 ≤ n → (q == p) ≡ false
  once_behind q n h m = grind arith

  elsewhere : (es : List (List ℕ × ℕ)) → occurrences p (values_of es) ≡ 0 → valued written es ≡ valued value es
  elsewhere [] h = refl
  elsewhere (e ∷ es) h =
      let n = not_among e.1 (occurrences p (values_of es)) h in
      λ i. (e.0, written_apart e.1 n.0 i) ∷ elsewhere es n.1 i

  -- if only one key has the element, a write of its value changes the value of this key and no other
  pub valued_written : (key : List ℕ) (es : List (List ℕ × ℕ))
      → occurrences p (values_of es) ≤ 1 → found key es ≡ Some p
      → valued written es ≡ set_value (is_key key) (valued value es) bytes
  valued_written key [] once h = refl
  valued_written key (e ∷ es) once h = by (valued_written key es) (is_key key e.0) h
    where
      by : (occurrences p (values_of es) ≤ 1 → found key es ≡ Some p
          → valued written es ≡ set_value (is_key key) (valued value es) bytes)
          → (b : Bool) → cond b (Some e.1) (found key es) ≡ Some p
          → valued written (e ∷ es)
          ≡ cond b ((e.0, bytes) ∷ valued value es) ((e.0, value e.1) ∷ set_value (is_key key) (valued value es) bytes)
      by rest true h =
          let same = same_Some e.1 p h in
          λ i. (e.0, written_here e.1 same i) ∷ elsewhere es (once_here e.1 (occurrences p (values_of es)) same once) i
      by rest false h =
          let there = in_use p key es h in
          λ i.
          (e.0, written_apart e.1 (once_behind e.1 (occurrences p (values_of es)) once there) i)
          ∷ rest (let all : (if nat_eq p e.1 then 1 else 0) + occurrences p (values_of es) ≤ 1 = once in omega arith)
          h i

once_at_most : (p n m k : ℕ) → n + m ≤ (if nat_lt p k then 1 else 0) → n ≤ 1
once_at_most p n m k h = grind arith

-- in a sound table, each element is that of at most one key
pub elements_once : (t : KeyTable) → IsSound t → (p : ℕ) → occurrences p (values_of t.entries) ≤ 1
elements_once t sound p =
    once_at_most p (occurrences p (values_of t.entries)) (occurrences p t.kept) t.shape.max_entries (sound.once p)

-- if the value of a key's element is written, the key has this value in the map of values, and nothing else changes
pub table_written : {B : Type 0} (value : ℕ → B) (t : KeyTable) (key : List ℕ) (element : ℕ) (bytes : B)
    → IsSound t → found key t.entries ≡ Some element
    → with_values (written value element bytes) (table_of t) ≡ with_object (with_values value (table_of t)) key bytes
table_written {B} value t key element bytes sound h =
    ap (λ (es : List (List ℕ × B)).
    let m : Table B = record { shape = t.shape; entries = es; deleted = (table_of t).deleted } in m)
    (valued_written value element bytes key t.entries (elements_once t sound element) h)

-- ---- a new map

-- an array has these bytes at all its indices, and a hash map has no key
module _ (value : ℕ → List ℕ) (bytes : List ℕ) where
  valued_indices : (first n : ℕ)
      → ((i : ℕ) → i < first + n → value i ≡ bytes)
      → valued value (indexed (λ i. i) first n) ≡ indexed (λ i. bytes) first n
  unfolding indexed
  valued_indices first zero h = refl
  valued_indices first (suc n) h =
      let head = h first (omega arith) in
      let rest = valued_indices (first + 1) n (λ i lt. h i (omega (arith, lt))) in
      λ i. (index_key first, head i) ∷ rest i

-- a new table of keys gives a new map of values, if all values of an array are these bytes
pub new_map_in : (part : List ℕ) (t : LiveMaps) (k : ℕ) (shape : MapShape) (bytes : List ℕ)
    → keys_at t k ≡ new_keys shape
    → (shape.kind ≡ Array → (p : ℕ) → p < shape.max_entries → value_in part t k p ≡ bytes)
    → map_in part t k ≡ new_table (λ i. bytes) shape
new_map_in part t k shape bytes keys cleared =
    ap (λ (q : KeyTable). with_values (value_in part t k) (table_of q)) keys
    ∙ ap (λ es. let m : Table (List ℕ) = record { shape = shape; entries = es; deleted = 0 } in m) (by shape.kind refl)
  where
    by : (d : MapKind)
        → shape.kind ≡ d
        → valued (value_in part t k) (new_entries (λ i. i) d shape.max_entries)
        ≡ new_entries (λ i. bytes) d shape.max_entries
    by Array e = valued_indices (value_in part t k) bytes 0 shape.max_entries (λ i lt. cleared e i (omega (arith, lt)))
    by Hash e = refl
