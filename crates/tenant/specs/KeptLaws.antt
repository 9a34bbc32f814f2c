-- Laws of the maps under their handles, proved here for the proofs of this crate and of the crates
-- above. This project's own. No contract cites them, so they are not part of what has to be
-- trusted.
use Rattle.std.proofs.Common.{◌≡◌, ℕ, ◌<◌, ◌≤◌, ◌⊎◌, inl, inr, List, length, Option, Some, None, is_some, refl, sym, ap, ◌∙◌, get_or, arith}
use Rattle.std.specs.Prelude.{option_map}
use Rattle.std.proofs.lemmas.Bool.{cases_lt}
use Rattle.std.proofs.lemmas.List.{get_or_past}
use Rattle.std.proofs.lemmas.List.FromFn.{length-map-range_with_len, get_or-map-range_with_len}
use Rattle.bpf_maps.specs.Live.{LiveMaps, live_at, map_in}
use Rattle.bpf_maps.specs.Limits.{most_maps}
use Rattle.tenant.specs.State.{Map}
use Rattle.tenant.specs.Kept.{at_handles, map_at}

-- the list of `at_handles` has one item for each handle
pub length-at : (f : ℕ → Option Map) → length (at_handles f) ≡ most_maps
unfolding at_handles
length-at f = length-map-range_with_len f 0 most_maps

-- at a handle, the list of `at_handles` has what f gives for the handle
pub at-within : (f : ℕ → Option Map) (i : ℕ) → i < most_maps → get_or (at_handles f) i None ≡ f i
unfolding at_handles
at-within f i lt = get_or-map-range_with_len f 0 most_maps i i None lt (omega arith)

-- after the last handle, the list of `at_handles` has no map
pub at-past : (f : ℕ → Option Map) (i : ℕ) → most_maps ≤ i → get_or (at_handles f) i None ≡ None
at-past f i past = let long = length-at f in get_or_past (at_handles f) i None (omega arith)

-- whether an option has something does not change if a function is applied to it
pub is_some-mapped : {A B : Type 0} (f : A → B) (o : Option A)
    → is_some (option_map f o) ≡ is_some o
is_some-mapped f None = refl
is_some-mapped f (Some x) = refl

-- whether a map is live does not depend on the bytes of its values
pub some_at_each : (p q : List ℕ) (t : LiveMaps) (handle : ℕ)
    → is_some (get_or (at_handles (map_at p t)) handle None)
    ≡ is_some (get_or (at_handles (map_at q t)) handle None)
some_at_each p q t handle = by (cases_lt handle most_maps)
  where
    by : (handle < most_maps) ⊎ (most_maps ≤ handle)
        → is_some (get_or (at_handles (map_at p t)) handle None)
        ≡ is_some (get_or (at_handles (map_at q t)) handle None)
    by (inl lt) =
        ap is_some (at-within (map_at p t) handle lt)
        ∙ is_some-mapped (λ l. map_in p t handle) (live_at t handle)
        ∙ sym (is_some-mapped (λ l. map_in q t handle) (live_at t handle))
        ∙ sym (ap is_some (at-within (map_at q t) handle lt))
    by (inr past) =
        ap is_some (at-past (map_at p t) handle past)
        ∙ sym (ap is_some (at-past (map_at q t) handle past))
