-- The entries of a live map, as a tenant lends them. This project's own.
use Rattle.std.specs.Prelude.{ℕ, List, map}
use Rattle.bpf_maps.specs.KeyRef.{key_bytes}
use Rattle.bpf_maps.specs.Live.{LiveMaps, keys_at, value_in}
use Rattle.tenant.specs.declared.readers.MapEntry.{MapEntry}

-- a key and its value, with the number of the element
abbrev pub NumberedEntry : Type 0
NumberedEntry = (List ℕ × List ℕ) × ℕ

-- the entries of the map of handle k, in their order: of each the key, its value in the tenant's
-- part (`part`), and the number of its element; none if the handle has no live map
abbrev pub numbered_entries : List ℕ → LiveMaps → ℕ → List NumberedEntry
numbered_entries part t k =
    map (λ (e : List ℕ × ℕ). ((e.0, value_in part t k e.1), e.1)) (keys_at t k).entries

-- the bytes of the key and of the value of an entry that is lent, with the number of its element
abbrev pub lent_entry : MapEntry → NumberedEntry
lent_entry e = ((key_bytes e.key, e.value.now), e.element)
