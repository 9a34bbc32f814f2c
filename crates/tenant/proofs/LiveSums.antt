-- Sums over the live maps of a tenant, and over the maps of its state.
use Rattle.std.proofs.Common.{◌≡◌, ℕ, ◌<◌, ◌≤◌, List, length, get_or, Option, Some, None, IsSome, refl, sym, ap, ◌∙◌, inl, inr, arith}
use Rattle.std.specs.Prelude.{◌⊎◌}
use Rattle.std.proofs.lemmas.Bool.{cases_lt}
use Rattle.std.proofs.lemmas.List.{length-map}
use Rattle.bpf_maps.specs.Limits.{most_maps}
use Rattle.bpf_maps.specs.Live.{LiveMap, live_at, areas, area_of}
use Rattle.bpf_maps.specs.Sum.{weight, total}
use Rattle.tenant.specs.State.{Map, map_area, maps_area}
use Rattle.tenant.specs.Kept.{KeptTenant, AreHeld, at_handles, map_at, state_in}
use Rattle.tenant.proofs.AtHandles.{at-within, at-past, map_if, live_or_not}
use Rattle.tenant.proofs.Sums.{total-each}

-- if a map in a state has the same number as the live map, the sums are equal
module _ (f : Map → ℕ) (g : LiveMap → ℕ)
    (same : (part : List ℕ) (o : Option LiveMap) → weight f (map_if part o) ≡ weight g o) where
  sums_are : (part : List ℕ) (k : KeptTenant) → AreHeld k.live → total f (state_in part k).maps ≡ total g k.live.maps
  sums_are part k is = total-each f g (at_handles (map_at part k.live)) k.live.maps (λ j. by j (cases_lt j most_maps))
    where
      none : (j : ℕ) → most_maps ≤ j → IsSome (live_at k.live j) ⊎ (live_at k.live j ≡ None) → live_at k.live j ≡ None
      none j past (inl live) = absurd (let within = is.within j live in omega arith)
      none j past (inr e) = e

      by : (j : ℕ)
          → (j < most_maps) ⊎ (most_maps ≤ j)
          → weight f (get_or (at_handles (map_at part k.live)) j None) ≡ weight g (get_or k.live.maps j None)
      by j (inl lt) = ap (weight f) (at-within (map_at part k.live) j lt) ∙ same part (live_at k.live j)
      by j (inr past) =
          ap (weight f) (at-past (map_at part k.live) j past)
          ∙ sym (ap (weight g) (none j past (live_or_not (live_at k.live j))))

same_area : (part : List ℕ) (o : Option LiveMap) → weight map_area (map_if part o) ≡ weight area_of o
same_area part None = refl
same_area part (Some l) = refl

-- the bytes that the machine counts under the handles are the bytes of all live maps
pub areas_are : (part : List ℕ) (k : KeptTenant) → AreHeld k.live → maps_area (state_in part k).maps ≡ areas k.live
areas_are = sums_are map_area area_of same_area

one_each : (part : List ℕ) (o : Option LiveMap) → weight (λ t. 1) (map_if part o) ≡ weight (λ l. 1) o
one_each part None = refl
one_each part (Some l) = refl

-- the state has as many maps as are live
pub maps_are : (part : List ℕ) (k : KeptTenant)
    → AreHeld k.live → total (λ t. 1) (state_in part k).maps ≡ total (λ l. 1) k.live.maps
maps_are = sums_are (λ t. 1) (λ l. 1) one_each

same_keys : (part : List ℕ) (o : Option LiveMap)
    → weight (λ t. length t.entries) (map_if part o) ≡ weight (λ l. length l.keys.entries) o
same_keys part None = refl
same_keys part (Some l) = length-map l.keys.entries _

-- the maps of the state have as many keys as the live maps
pub keys_are : (part : List ℕ) (k : KeptTenant)
    → AreHeld k.live
    → total (λ t. length t.entries) (state_in part k).maps ≡ total (λ l. length l.keys.entries) k.live.maps
keys_are = sums_are (λ t. length t.entries) (λ l. length l.keys.entries) same_keys
