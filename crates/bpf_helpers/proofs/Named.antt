-- Bytes that have an offset in a part lie in it; and what words name if they name a key, or a key and a value.
use Rattle.std.proofs.Common.{◌≡◌, ℕ, ◌+◌, ◌-◌, ◌≤◌, leb, ◌&&◌, Bool, true, false, if◌then◌else◌}
use Rattle.std.proofs.Common.{List, Option, Some, None, option_map, refl, ap, subst}
use Rattle.std.specs.Option.{IsSome}
use Rattle.std.proofs.lemmas.Bool.{and_parts, leb-true, false≢true}
use Rattle.words.specs.Bytes.{bytes_at}
use Rattle.tagged_model.specs.Cells.{and_then}
use Rattle.arena.specs.Memory.{Memory, base, part_start}
use Rattle.bpf_maps.specs.Live.{shape_at}
use Rattle.bpf_helpers.specs.Named.{bound_map, named_offset, key_input, value_input, NamedKey, NamedPair, key_at, pair_at, key_named, pair_named}
use Rattle.bpf_helpers.specs.States.{CallState}

-- they begin at or after the beginning of the part, end at or before its end, and have this offset
pub record IsNamed (m : Memory) (t n address : ℕ) : Type 0 where
  -- the bytes begin at or after the beginning of the part
  pub from : base + part_start m t ≤ address
  -- the bytes end at or before the end of the part
  pub to : address + n ≤ base + part_start m t + m.part
  -- the offset of the bytes is the distance from the beginning of the part
  pub offset : named_offset m t n address ≡ Some (address - (base + part_start m t))

-- bytes at an address that have an offset in a part lie in it
pub is_named : (m : Memory) (t n address : ℕ) → IsSome (named_offset m t n address) → IsNamed m t n address
is_named m t n address some =
    by (leb (base + part_start m t) address && leb (address + n) (base + part_start m t + m.part)) refl some
  where
    by : (b : Bool)
        → (leb (base + part_start m t) address && leb (address + n) (base + part_start m t + m.part)) ≡ b
        → IsSome (if b then Some (address - (base + part_start m t)) else None)
        → IsNamed m t n address
    by false e h = absurd (false≢true h)
    by true e h =
        let both =
        and_parts (leb (base + part_start m t) address) (leb (address + n) (base + part_start m t + m.part)) e in
        record {
          from = leb-true (base + part_start m t) address both.0;
          to = leb-true (address + n) (base + part_start m t + m.part) both.1;
          offset = ap (λ (b : Bool). if b then Some (address - (base + part_start m t)) else None) e;
        }

-- ---- what words name

module _ {A B : Type 0} where
  some_before : (o : Option A) (f : A → Option B) → IsSome (and_then o f) → IsSome o
  some_before None f h = h
  some_before (Some a) f h = refl

  some_mapped : (o : Option A) (f : A → B) → IsSome (option_map f o) → IsSome o
  some_mapped None f h = h
  some_mapped (Some a) f h = refl

module _ (call_state : CallState) (map key : ℕ) where
  -- if words name a map and a key, the first names a map
  pub map_of_key : IsSome (key_named call_state map key) → IsSome (bound_map call_state.bind map)
  map_of_key some = some_before (bound_map call_state.bind map) (key_at call_state key) some

  module _ (k : ℕ) (bound : bound_map call_state.bind map ≡ Some k) where
    -- the bytes of the key have an offset in the part
    pub offset_of_key : IsSome (key_named call_state map key)
        → IsSome (named_offset call_state.memory call_state.tenant (shape_at call_state.maps k).key_size key)
    offset_of_key some =
        some_before (named_offset call_state.memory call_state.tenant (shape_at call_state.maps k).key_size key)
        (λ at. Some (bytes_at call_state.memory.bytes (part_start call_state.memory call_state.tenant + at) (shape_at call_state.maps k).key_size))
        (some_mapped (key_input call_state k key) (λ bs. let n : NamedKey = record { map = k; key = bs } in n)
        (subst (λ o. IsSome (and_then o (key_at call_state key))) bound some))

    -- if the words name a value too, its bytes have an offset in the part
    pub offset_of_value : (value : ℕ) → IsSome (pair_named call_state map key value)
        → IsSome (named_offset call_state.memory call_state.tenant (shape_at call_state.maps k).value_size value)
    offset_of_value value some =
        some_before (named_offset call_state.memory call_state.tenant (shape_at call_state.maps k).value_size value)
        (λ at. Some (bytes_at call_state.memory.bytes (part_start call_state.memory call_state.tenant + at) (shape_at call_state.maps k).value_size))
        (by (key_input call_state k key)
        (subst (λ o. IsSome (and_then (and_then o (key_at call_state key)) (pair_at call_state value))) bound some))
      where
        by : (o : Option (List ℕ))
            → IsSome (and_then (option_map (λ bs. let n : NamedKey = record { map = k; key = bs } in n) o) (pair_at call_state value))
            → IsSome (value_input call_state k value)
        by None h = absurd (false≢true h)
        by (Some bs) h =
            some_mapped (value_input call_state k value)
            (λ vs. let n : NamedPair = record { map = k; key = bs; value = vs } in n) h

  -- if words name a map, a key and a value, they name the map and the key
  pub key_of_pair : (value : ℕ) → IsSome (pair_named call_state map key value) → IsSome (key_named call_state map key)
  key_of_pair value some = some_before (key_named call_state map key) (pair_at call_state value) some
