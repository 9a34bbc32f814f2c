-- Worked cases of helpers, by hand from the kernel's documentation of them and from this project's rules.
use Rattle.std.proofs.Common.{◌≡◌, ℕ, ◌-◌, ◌^◌, List, [], ◌∷◌, refl}
use Rattle.std.specs.Prelude.{Some}
use Rattle.tagged_model.specs.declared.shape.MapKind.TheVariants.{Hash}
use Rattle.tagged_model.specs.State.{RunMap}
use Rattle.tagged_model.specs.Table.{look_up}
use Rattle.tagged_model.specs.Helpers.{packet_bytes, packet_result, updated, removed}

-- ---- bytes of the packet

abbrev packet : List ℕ
packet = 1 ∷ 2 ∷ 3 ∷ 4 ∷ []

-- the offset is read in 32 bits; if the bytes leave the packet, zeros are written and the result is -14
bytes_of_the_packet :
    (packet_bytes packet 0 4 ≡ packet)
    × (packet_bytes packet 0x1_0000_0001 2 ≡ 2 ∷ 3 ∷ [])
    × (packet_bytes packet 1 4 ≡ 0 ∷ 0 ∷ 0 ∷ 0 ∷ [])
bytes_of_the_packet = (refl, refl, refl)

answers_of_loads :
    (packet_result packet 0 4 ≡ 0)
    × (packet_result packet 1 4 ≡ 2 ^ 64 - 14)
    × (packet_result packet 0x8000_0000 1 ≡ 2 ^ 64 - 14)
answers_of_loads = (refl, refl, refl)

-- ---- a hash map of one entry, whose key has one byte and whose values have two

abbrev empty : RunMap
empty = record {
  table = record {
    shape = record { kind = Hash; key_size = 1; value_size = 2; max_entries = 1; listed = refl };
    entries = [];
    deleted = 0;
  };
  count = 0;
  values = λ number. [];
}

abbrev one : RunMap
one = (updated empty (7 ∷ []) (5 ∷ 6 ∷ []) 0).map

new_key :
    ((updated empty (7 ∷ []) (5 ∷ 6 ∷ []) 0).answer ≡ 0)
    × (look_up one.table (7 ∷ []) ≡ Some 0)
    × (one.values 0 ≡ 5 ∷ 6 ∷ [])
new_key = (refl, refl, refl)

-- a present key keeps its object
present_key :
    ((updated one (7 ∷ []) (8 ∷ 9 ∷ []) 0).answer ≡ 0)
    × ((updated one (7 ∷ []) (8 ∷ 9 ∷ []) 0).map.values 0 ≡ 8 ∷ 9 ∷ [])
present_key = (refl, refl)

-- a second key, flags that are unknown, and an absent key
faults :
    ((updated one (8 ∷ []) (5 ∷ 6 ∷ []) 0).answer ≡ 2 ^ 64 - 7)
    × ((updated one (7 ∷ []) (5 ∷ 6 ∷ []) 3).answer ≡ 2 ^ 64 - 22)
    × ((removed one (8 ∷ [])).answer ≡ 2 ^ 64 - 2)
faults = (refl, refl, refl)

-- a deleted object keeps its bytes, and counts until the run ends
deleted_key :
    ((removed one (7 ∷ [])).answer ≡ 0)
    × ((removed one (7 ∷ [])).map.values 0 ≡ 5 ∷ 6 ∷ [])
    × ((updated (removed one (7 ∷ [])).map (8 ∷ []) (5 ∷ 6 ∷ []) 0).answer ≡ 2 ^ 64 - 7)
deleted_key = (refl, refl, refl)
