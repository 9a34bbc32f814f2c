-- The limits of a shape.
use Rattle.std.proofs.Common.{◌≡◌, ℕ, ◌≤◌, true, sym, ap, ◌∙◌, arith}
use Rattle.std.specs.Prelude.{◌==◌, ◌&&◌, nat_le}
use Rattle.std.proofs.lemmas.Bool.{and_parts, leb-true, eqb-true}
use Rattle.tagged_model.specs.declared.shape.MapKind.{MapKind}
use Rattle.tagged_model.specs.declared.shape.MapKind.TheVariants.{Hash, Array}
use Rattle.tagged_model.specs.declared.shape.MapShape.{MapShape}
use Rattle.tagged_model.specs.Shape.{has_key, is_from_to, is_valid, fits, longest_key, longest_value, most_entries}

pub record IsLimited (shape : MapShape) : Type 0 where
  -- a map of this kind may have keys of this size
  pub kind : has_key shape.kind shape.key_size ≡ true
  -- the key size is at most that of the longest key
  pub key : shape.key_size ≤ longest_key
  -- the value size is at most that of the longest value
  pub value : shape.value_size ≤ longest_value
  -- the maximum of entries is at most the largest that a map may have
  pub entries : shape.max_entries ≤ most_entries

key_limit : (kind : MapKind) (size : ℕ) → has_key kind size ≡ true → size ≤ longest_key
key_limit Array size e = let is = eqb-true size 4 e in omega arith
key_limit Hash size e = leb-true size longest_key (and_parts (nat_le 1 size) (nat_le size longest_key) e).1

-- each shape of a map is within the limits
pub limited : (shape : MapShape) → IsLimited shape
limited shape =
    let valid =
    (and_parts (is_valid shape.kind shape.key_size shape.value_size shape.max_entries 0)
    (fits shape.value_size shape.max_entries) shape.listed).0 in
    let sizes =
    (and_parts (has_key shape.kind shape.key_size
    && is_from_to 1 longest_value shape.value_size
    && is_from_to 1 most_entries shape.max_entries)
    (0 == 0) valid).0 in
    let sized =
    and_parts (has_key shape.kind shape.key_size && is_from_to 1 longest_value shape.value_size)
    (is_from_to 1 most_entries shape.max_entries) sizes in
    let key = and_parts (has_key shape.kind shape.key_size) (is_from_to 1 longest_value shape.value_size) sized.0 in
    record {
      kind = key.0;
      key = key_limit shape.kind shape.key_size key.0;
      value =
          leb-true shape.value_size longest_value
          (and_parts (nat_le 1 shape.value_size) (nat_le shape.value_size longest_value) key.1).1;
      entries =
          leb-true shape.max_entries most_entries
          (and_parts (nat_le 1 shape.max_entries) (nat_le shape.max_entries most_entries) sized.1).1;
    }

-- the key size of an array is 4
pub array_key : (shape : MapShape) → shape.kind ≡ Array → shape.key_size ≡ 4
array_key shape e =
    eqb-true shape.key_size 4 (sym (ap (λ (k : MapKind). has_key k shape.key_size) e) ∙ (limited shape).kind)
