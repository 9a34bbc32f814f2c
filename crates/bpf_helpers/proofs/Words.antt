-- The maps, keys and values that words name, from the results of the code.
use Rattle.std.proofs.Common.{◌≡◌, ℕ, ◌+◌, ◌≤◌, List, slice_range, Option, Some, None, option_map, sym, ap, ◌∙◌}
use Rattle.words.specs.Bytes.{bytes_at}
use Rattle.words.specs.ByteLaws.{bytes_within, range_is_bytes}
use Rattle.tagged_model.specs.Cells.{and_then}
use Rattle.arena.specs.Memory.{Memory, part_start, part_bytes}
use Rattle.bpf_maps.specs.Live.{shape_at}
use Rattle.bpf_helpers.specs.Named.{bound_map, named_offset, part_input, key_input, value_input, NamedKey, NamedPair, key_at, pair_at, key_named, pair_named}
use Rattle.bpf_helpers.specs.States.{CallState}
use Rattle.bpf_helpers.specs.inside.Flat.{key_bytes, value_bytes}

-- ---- bytes at an address

module _ (memory : Memory) (t size n address : ℕ) (same : n ≡ size) where
  offset_is : (o : Option ℕ) → o ≡ named_offset memory t n address → named_offset memory t size address ≡ o
  offset_is o e = ap (λ (k : ℕ). named_offset memory t k address) (sym same) ∙ sym e

  input_is : (at : ℕ)
      → Some at ≡ named_offset memory t n address
      → part_input memory t size address ≡ Some (bytes_at memory.bytes (part_start memory t + at) size)
  input_is at e =
      ap (λ o. and_then o (λ p. Some (bytes_at memory.bytes (part_start memory t + p) size))) (offset_is (Some at) e)

  no_input : None ≡ named_offset memory t n address → part_input memory t size address ≡ None
  no_input e =
      ap (λ o. and_then o (λ p. Some (bytes_at memory.bytes (part_start memory t + p) size))) (offset_is None e)

-- a range of a borrowed part has the bytes at this offset of the part in the memory
pub part_range : (memory : Memory) (t at n : ℕ) (part : List ℕ)
    → part ≡ part_bytes memory t → at + n ≤ memory.part
    → slice_range part at (at + n) ≡ bytes_at memory.bytes (part_start memory t + at) n
part_range memory t at n part is fits =
    range_is_bytes part at n
    ∙ ap (λ (x : List ℕ). bytes_at x at n) is
    ∙ bytes_within memory.bytes (part_start memory t) memory.part at n fits

-- ---- a map with a key, and with a value

module _ (call_state : CallState) (map key : ℕ) where
  -- if the word of the map names no map, it and a key's address name no key
  pub no_map : bound_map call_state.bind map ≡ None → key_named call_state map key ≡ None
  no_map e = ap (λ o. and_then o (key_at call_state key)) e

  module _ {k : ℕ} (bound : bound_map call_state.bind map ≡ Some k) where
    by_map : (o : Option (List ℕ))
        → key_input call_state k key ≡ o
        → key_named call_state map key ≡ option_map (λ bs. let n : NamedKey = record { map = k; key = bs } in n) o
    by_map o e =
        ap (λ o. and_then o (key_at call_state key)) bound
        ∙ ap (option_map (λ bs. let n : NamedKey = record { map = k; key = bs } in n)) e

    -- if the bytes at the key's address are in the part, the words name the map with this key
    pub key_is : (bs : List ℕ)
        → key_input call_state k key ≡ Some bs
        → key_named call_state map key ≡ Some (record { map = k; key = bs })
    key_is bs e = by_map (Some bs) e

    -- the size that the code has requested is the map's key size
    module _ {n : ℕ} (size : n ≡ (shape_at call_state.maps k).key_size) where
      -- if the bytes at the key's address are not in the part, the words name no key
      pub no_key : None ≡ named_offset call_state.memory call_state.tenant n key → key_named call_state map key ≡ None
      no_key e = by_map None (no_input call_state.memory call_state.tenant (shape_at call_state.maps k).key_size n key size e)

      -- if the bytes at the key's address have an offset in the part, the words name the map with the key there
      pub key_found : {at : ℕ}
          → Some at ≡ named_offset call_state.memory call_state.tenant n key
          → key_named call_state map key ≡ Some (record { map = k; key = key_bytes call_state k at })
      key_found {at} e =
          key_is (key_bytes call_state k at)
          (input_is call_state.memory call_state.tenant (shape_at call_state.maps k).key_size n key size at e)

      -- if the bytes at the key's address are in the borrowed part, the words name the map with them as the key
      pub key_there : (at : ℕ) {part : List ℕ}
          → Some at ≡ named_offset call_state.memory call_state.tenant n key
          → part ≡ part_bytes call_state.memory call_state.tenant → at + n ≤ call_state.memory.part
          → key_named call_state map key ≡ Some (record { map = k; key = slice_range part at (at + n) })
      key_there at {part} offset is fits =
          let there : key_bytes call_state k at ≡ slice_range part at (at + n) =
          ap (λ (m : ℕ). bytes_at call_state.memory.bytes (part_start call_state.memory call_state.tenant + at) m) (sym size)
          ∙ sym (part_range call_state.memory call_state.tenant at n part is fits) in
          key_found offset
          ∙ ap (λ (bs : List ℕ). let o : Option NamedKey = Some (record { map = k; key = bs }) in o) there

  -- if the words of a map and a key name no key, they name no pair with a value
  pub no_pair : (value : ℕ) → key_named call_state map key ≡ None → pair_named call_state map key value ≡ None
  no_pair value e = ap (λ o. and_then o (pair_at call_state value)) e

  module _ (value : ℕ) {k : NamedKey} (named : key_named call_state map key ≡ Some k) where
    by_key : (o : Option (List ℕ))
        → value_input call_state k.map value ≡ o
        → pair_named call_state map key value
        ≡ option_map (λ vs. let p : NamedPair = record { map = k.map; key = k.key; value = vs } in p) o
    by_key o e =
        ap (λ o. and_then o (pair_at call_state value)) named
        ∙ ap (option_map (λ vs. let p : NamedPair = record { map = k.map; key = k.key; value = vs } in p)) e

    -- if the bytes at the value's address are in the part, the words name the key with this value
    pub pair_is : (vs : List ℕ)
        → value_input call_state k.map value ≡ Some vs
        → pair_named call_state map key value ≡ Some (record { map = k.map; key = k.key; value = vs })
    pair_is vs e = by_key (Some vs) e

    module _ {n : ℕ} (size : n ≡ (shape_at call_state.maps k.map).value_size) where
      -- if the bytes at the value's address are not in the part, the words name no pair
      pub no_value : None ≡ named_offset call_state.memory call_state.tenant n value → pair_named call_state map key value ≡ None
      no_value e = by_key None (no_input call_state.memory call_state.tenant (shape_at call_state.maps k.map).value_size n value size e)

      -- if the bytes at the value's address have an offset in the part, the words name the key with the value there
      pub pair_found : {at : ℕ}
          → Some at ≡ named_offset call_state.memory call_state.tenant n value
          → pair_named call_state map key value
          ≡ Some (record { map = k.map; key = k.key; value = value_bytes call_state k.map at })
      pair_found {at} e =
          pair_is (value_bytes call_state k.map at)
          (input_is call_state.memory call_state.tenant (shape_at call_state.maps k.map).value_size n value size at e)
