-- The addresses of the elements of an array.
use Rattle.std.proofs.Common.{◌≡◌, ◌≢◌, ℕ, ◌+◌, ◌*◌, ◌/◌, ◌%◌, ◌^◌, ◌<◌, ◌≤◌, Bool, true, false, List}
use Rattle.std.proofs.Common.{length, Option, Some, None, nat_lt, if◌then◌else◌, refl, sym, ap, ◌∙◌, arith}
use Rattle.std.specs.Option.{IsSome}
use Rattle.std.proofs.lemmas.Bool.{false≢true, lt-ltb, le-ltb}
use Rattle.tagged_model.specs.declared.shape.MapKind.{MapKind}
use Rattle.tagged_model.specs.declared.shape.MapKind.TheVariants.{Array, Hash}
use Rattle.tagged_model.specs.declared.shape.MapShape.{MapShape}
use Rattle.tagged_model.specs.Table.{look_up, index_key}
use Rattle.bpf_maps.specs.declared.elements.Elements.{Elements}
use Rattle.bpf_maps.specs.KeyTable.{table_of}
use Rattle.bpf_maps.specs.Live.{LiveMap, LiveMaps, live_at, live_or, keys_at, shape_at, offset}
use Rattle.bpf_maps.specs.Live.{offset_at, value_address, LiesInPart, IsLaid, IsPacked, AreSound}
use Rattle.bpf_maps.specs.LiveLaws.{laid_inside}
use Rattle.bpf_maps.specs.Elements.{element_count, elements_of, elements_at, word_of}
use Rattle.bpf_maps.proofs.Shapes.{array_key, few_entries}
use Rattle.bpf_maps.proofs.Arrays.{found_array}
use Rattle.bpf_maps.proofs.Following.{absent_by_size}

-- a map with elements is an array, and has as many as entries
array_only : (d : MapKind) (n : ℕ) → element_count d n ≢ 0 → (d ≡ Array) × (element_count d n ≡ n)
array_only Array n some = (refl, refl)
array_only Hash n some = absurd (some refl)

-- both numbers of a word, if they are below 2 ^ 32
from_word : (c s w : ℕ) → c < 2 ^ 32 → w ≡ c + 2 ^ 32 * s → (w % 2 ^ 32 ≡ c) × (w / 2 ^ 32 ≡ s)
from_word c s w small is = (omega (arith, is), omega (arith, is))

-- a map has fewer than 2 ^ 32 elements
few_elements : (d : MapKind) (n : ℕ) → n < 2 ^ 32 → element_count d n < 2 ^ 32
few_elements Array n small = small
few_elements Hash n small = omega arith

-- the low half of the word of elements is their number, and the high half the distance of their values
pub elements_from : (s : MapShape) (w : ℕ)
    → w ≡ word_of (elements_of s)
    → (w % 2 ^ 32 ≡ (elements_of s).count) × (w / 2 ^ 32 ≡ (elements_of s).stride)
elements_from s w is =
    let few = few_entries s in
    from_word (elements_of s).count (elements_of s).stride w (few_elements s.kind s.max_entries (omega arith)) is

-- a shape with elements is that of an array, whose keys have four bytes
pub shape_key_size : (s : MapShape) → element_count s.kind s.max_entries ≢ 0 → s.key_size ≡ 4
shape_key_size s some = array_key s (array_only s.kind s.max_entries some).0

along : (p s x f : ℕ) → f ≡ p + s → (f + x) % 2 ^ 64 ≡ (p + (s + x)) % 2 ^ 64
along p s x f e = omega (arith, e)

module _ (t : LiveMaps) (k : ℕ) (e : Elements) (is : e ≡ elements_at t k) (some : e.count ≢ 0) where
  count_is : e.count ≡ element_count (shape_at t k).kind (shape_at t k).max_entries
  count_is = ap (λ (x : Elements). x.count) is

  is_array : ((shape_at t k).kind ≡ Array) × (e.count ≡ (shape_at t k).max_entries)
  is_array =
      let only = array_only (shape_at t k).kind (shape_at t k).max_entries (λ none. some (count_is ∙ none)) in
      (only.0, count_is ∙ only.1)

  -- a key of another size
  pub no_key : IsSome (live_at t k)
      → AreSound t → (key : List ℕ) → (length key ≡ 4 → ⊥)
      → None ≡ look_up (table_of (keys_at t k)) key
  no_key live sound key differ =
      sym (absent_by_size (shape_at t k).key_size key
      (λ same. differ (same ∙ array_key (shape_at t k) is_array.0))
      (keys_at t k).entries (sound k live).sized)

  module _ (live : IsSome (live_at t k)) (laid : IsLaid t) (packed : IsPacked t)
      (sound : AreSound t) (key : List ℕ) (i : ℕ) (spells : index_key i ≡ key) (small : i < 2 ^ 32) where
    stride_of : (o : Option LiveMap)
        → live_at t k ≡ o → IsSome o
        → (live_or o).stride ≡ ((live_or o).keys.shape.value_size + 7) / 8 * 8
    stride_of None at some = absurd (false≢true some)
    stride_of (Some l) at some = packed.stride k l at

    -- the offset of an element
    offset_along : (j : ℕ) → offset_at t k 0 + j * e.stride ≡ offset_at t k j
    unfolding offset
    offset_along j =
        let stride : e.stride ≡ (live_or (live_at t k)).stride =
        ap (λ (x : Elements). x.stride) is ∙ sym (stride_of (live_at t k) refl live) in
        let start : (live_or (live_at t k)).start + 0 * (live_or (live_at t k)).stride ≡ (live_or (live_at t k)).start =
        omega arith in
        ap (λ (n : ℕ). n + j * e.stride) start ∙ ap (λ (n : ℕ). (live_or (live_at t k)).start + j * n) stride

    found_at : (b : Bool)
        → nat_lt i (shape_at t k).max_entries ≡ b
        → (if b then Some i else None) ≡ look_up (table_of (keys_at t k)) key
    found_at b b_is = found_array is_array.0 ((sound k live).array is_array.0) key i b spells small b_is

    -- an index that is out of range
    pub no_element : e.count ≤ i → None ≡ look_up (table_of (keys_at t k)) key
    no_element past = let count = is_array.1 in found_at false (le-ltb i (shape_at t k).max_entries (omega arith))

    module _ (below : i < e.count) where
      within : i < (shape_at t k).max_entries
      within = let count = is_array.1 in omega arith

      -- the look-up of an index in range finds the index
      pub element : Some i ≡ look_up (table_of (keys_at t k)) key
      element = found_at true (lt-ltb i (shape_at t k).max_entries within)

      -- the value of an index in range lies in the part
      pub element_lies : LiesInPart (offset_at t k i) (shape_at t k).value_size
      element_lies = laid_inside t laid k i live within

      -- the address that is computed from that of index 0 is the address of the value that the look-up finds
      pub element_address : (first part : ℕ)
          → first ≡ part + offset_at t k 0
          → (first + i * e.stride) % 2 ^ 64 ≡ value_address part t k (look_up (table_of (keys_at t k)) key)
      element_address first part first_is =
          along part (offset_at t k 0) (i * e.stride) first first_is
          ∙ ap (λ (n : ℕ). (part + n) % 2 ^ 64) (offset_along i)
          ∙ ap (value_address part t k) element
