-- The limits of a shape.
use Rattle.std.proofs.Common.{◌≡◌, ℕ, ◌≤◌, true, IsTrue, sym, ◌∙◌, arith, eqb-true}
use Rattle.std.proofs.lemmas.Bool.{and_parts, leb-true}
use Rattle.tagged_model.specs.declared.shape.MapKind.{MapKind}
use Rattle.tagged_model.specs.declared.shape.MapKind.TheVariants.{Hash, Array}
use Rattle.tagged_model.specs.declared.shape.MapShape.{MapShape}
use Rattle.tagged_model.specs.Shape.{is_from_to, is_shape, longest_key, longest_value, most_entries}

within : (low high n : ℕ) → is_from_to low high n ≡ true → n ≤ high
within low high n h = leb-true n high (and_parts _ _ h).1

key_fits : (k : MapKind) (key value max : ℕ) → IsTrue (is_shape k key value max) → key ≤ longest_key
key_fits Array key value max h =
    let e = eqb-true key 4 (and_parts _ _ (and_parts _ _ (and_parts _ _ (and_parts _ _ h).0).0).0).0 in omega arith
key_fits Hash key value max h =
    within 1 longest_key key (and_parts _ _ (and_parts _ _ (and_parts _ _ (and_parts _ _ h).0).0).0).0

pub key_fits_room : (s : MapShape) → s.key_size ≤ longest_key
key_fits_room s = key_fits s.kind s.key_size s.value_size s.max_entries s.listed

value_fits : (k : MapKind) (key value max : ℕ) → IsTrue (is_shape k key value max) → value ≤ longest_value
value_fits k key value max h =
    within 1 longest_value value (and_parts _ _ (and_parts _ _ (and_parts _ _ (and_parts _ _ h).0).0).0).1

pub value_fits_room : (s : MapShape) → s.value_size ≤ longest_value
value_fits_room s = value_fits s.kind s.key_size s.value_size s.max_entries s.listed

few : (k : MapKind) (key value max : ℕ) → IsTrue (is_shape k key value max) → max ≤ most_entries
few k key value max h = within 1 most_entries max (and_parts _ _ (and_parts _ _ (and_parts _ _ h).0).0).1

-- the maximum of entries of a shape is at most `most_entries`
pub few_entries : (s : MapShape) → s.max_entries ≤ most_entries
few_entries s = few s.kind s.key_size s.value_size s.max_entries s.listed

key_of_array : (k : MapKind) (key value max : ℕ) → k ≡ Array → IsTrue (is_shape k key value max) → key ≡ 4
key_of_array Array key value max e h =
    eqb-true key 4 (and_parts _ _ (and_parts _ _ (and_parts _ _ (and_parts _ _ h).0).0).0).0
key_of_array Hash key value max e h = cc

-- the keys of an array have four bytes
pub array_key : (s : MapShape) → s.kind ≡ Array → s.key_size ≡ 4
array_key s e = key_of_array s.kind s.key_size s.value_size s.max_entries e s.listed

-- no kind is both
pub hash_no_array : (k : MapKind) → k ≡ Hash → k ≡ Array → ⊥
hash_no_array k hash array = let same : ◌≡◌ {A = MapKind} Hash Array = sym hash ∙ array in cc
