-- The list of a tenant's maps by handle.
use Rattle.std.proofs.Common.{◌≡◌, ◌≢◌, ℕ, ◌<◌, ◌≤◌, List, length, take, drop, set, get_or, Option, Some, None, IsSome, is_some}
use Rattle.std.proofs.Common.{refl, sym, ap, subst, ◌∙◌, inl, inr, arith, length-set, get_or-set_same, get_or-set_other, true≢false}
use Rattle.std.specs.Prelude.{◌⊎◌, is_none, position, option_map}
use Rattle.std.proofs.Math.Path.{fun_ext}
use Rattle.std.proofs.lemmas.Bool.{cases_eq, cases_lt}
use Rattle.std.proofs.lemmas.List.{ext_get_or, get_or_past}
use Rattle.bpf_maps.specs.Live.{LiveMaps, LiveMap, live_or, live_at, references_at, offset, map_in}
use Rattle.bpf_maps.specs.LiveLaws.{same_lowest}
use Rattle.bpf_maps.specs.KeyTable.{table_of}
use Rattle.tagged_model.specs.Table.{with_values}
use Rattle.bpf_maps.specs.Limits.{most_maps}
use Rattle.tenant.specs.State.{Map}
use Rattle.tenant.specs.Kept.{at_handles, map_at}
pub use Rattle.tenant.specs.KeptLaws.{length-at, at-within, at-past}
use Rattle.tenant.specs.KeptLaws.{is_some-mapped}

-- ---- handles

-- a property that holds for one handle and for all others holds for each
pub at_each : (P : ℕ → Type 0) (m : ℕ) → P m → ((other : ℕ) → other ≢ m → P other) → (handle : ℕ) → P handle
at_each P m here others handle = by (cases_eq handle m)
  where
    by : (handle ≡ m) ⊎ (handle ≡ m → ⊥) → P handle
    by (inl same) = subst P (sym same) here
    by (inr other) = others handle other

-- two lists of maps by handles are equal if each handle has the same map in both
pub same_at : (f g : ℕ → Option Map) → ((i : ℕ) → f i ≡ g i) → at_handles f ≡ at_handles g
same_at f g h = ap at_handles (fun_ext h)

-- if one handle has this map and each other one the same as before, the list is that of before with this map set
pub set_at : (f g : ℕ → Option Map) (n : ℕ) (x : Option Map)
    → n < most_maps → f n ≡ x
    → ((i : ℕ) → i ≢ n → f i ≡ g i)
    → at_handles f ≡ set (at_handles g) n x
set_at f g n x within here others =
    ext_get_or None (at_handles f) (set (at_handles g) n x)
    (length-at f ∙ sym (length-at g) ∙ sym (length-set {A = Option Map} (at_handles g) n x))
    (λ i lt. by i (let long = length-at f in omega arith) (cases_eq i n))
  where
    room : n < length (at_handles g)
    room = let long = length-at g in omega arith

    by : (i : ℕ)
        → i < most_maps → (i ≡ n) ⊎ (i ≡ n → ⊥)
        → get_or (at_handles f) i None ≡ get_or (set (at_handles g) n x) i None
    by i lt (inl same) =
        at-within f i lt
        ∙ ap f same
        ∙ here
        ∙ sym (get_or-set_same (at_handles g) n x None room)
        ∙ ap (λ (j : ℕ). get_or (set (at_handles g) n x) j None) (sym same)
    by i lt (inr other) =
        at-within f i lt
        ∙ others i other
        ∙ sym (at-within g i lt)
        ∙ sym (get_or-set_other (at_handles g) n i x None other)

-- if f has maps under the same handles as a list, so has the list of f under all handles
pub some_at : (f : ℕ → Option Map) (xs : List (Option LiveMap))
    → length xs ≡ most_maps
    → ((i : ℕ) → is_some (f i) ≡ is_some (get_or xs i None))
    → (i : ℕ) → is_some (get_or (at_handles f) i None) ≡ is_some (get_or xs i None)
some_at f xs long same i = by (cases_lt i most_maps)
  where
    none : most_maps ≤ i → get_or xs i None ≡ None
    none past = let all = long in get_or_past xs i None (omega arith)

    by : (i < most_maps) ⊎ (most_maps ≤ i) → is_some (get_or (at_handles f) i None) ≡ is_some (get_or xs i None)
    by (inl lt) = ap (λ (o : Option Map). is_some o) (at-within f i lt) ∙ same i
    by (inr past) =
        ap (λ (o : Option Map). is_some o) (at-past f i past) ∙ sym (ap (λ (o : Option LiveMap). is_some o) (none past))

-- if f has maps under the same handles as a list, the lowest free handle is the same
pub free_at : (f : ℕ → Option Map) (xs : List (Option LiveMap))
    → length xs ≡ most_maps
    → ((i : ℕ) → is_some (f i) ≡ is_some (get_or xs i None))
    → position is_none (at_handles f) ≡ position is_none xs
free_at f xs long same = same_lowest (at_handles f) xs (length-at f ∙ sym long) (some_at f xs long same)

-- ---- the live map of a handle

abbrev pub map_of : List ℕ → Option LiveMap → Map
map_of part o =
    with_values (λ p. take (live_or o).keys.shape.value_size (drop (offset (live_or o) p) part))
    (table_of (live_or o).keys)

abbrev pub map_if : List ℕ → Option LiveMap → Option Map
map_if part o = option_map (λ l. map_of part o) o

-- a handle has a live map, or none
pub live_or_not : (o : Option LiveMap) → IsSome o ⊎ (o ≡ None)
live_or_not None = inr refl
live_or_not (Some l) = inl refl

-- a live map that is present is not absent
pub not_live : (o : Option LiveMap) → IsSome o → o ≡ None → ⊥
not_live o some none = true≢false (sym some ∙ ap (λ (x : Option LiveMap). is_some x) none)

-- a map that has a hold is live
pub held_is_live : (t : LiveMaps) (handle : ℕ) → 1 ≤ references_at t handle → IsSome (live_at t handle)
held_is_live t handle some = by (live_or_not (live_at t handle))
  where
    by : IsSome (live_at t handle) ⊎ (live_at t handle ≡ None) → IsSome (live_at t handle)
    by (inl live) = live
    by (inr gone) =
        absurd (let none : references_at t handle ≡ 0 = ap (λ (o : Option LiveMap). (live_or o).holds) gone in omega arith)

-- a handle with a live map has the map whose values are in the bytes of the part
pub map_there : (part : List ℕ) (t : LiveMaps) (handle : ℕ)
    → IsSome (live_at t handle) → map_at part t handle ≡ Some (map_in part t handle)
map_there part t handle live = by (live_at t handle) live
  where
    by : (o : Option LiveMap) → IsSome o → map_if part o ≡ Some (map_of part o)
    by None some = absurd (true≢false (sym some))
    by (Some l) some = refl

-- a handle without a live map has no map
pub none_there : (part : List ℕ) (t : LiveMaps) (handle : ℕ) → live_at t handle ≡ None → map_at part t handle ≡ None
none_there part t handle e = ap (map_if part) e

-- a handle with the same live map has the same map in the same bytes
pub same_live : (part : List ℕ) (old new : LiveMaps) (handle : ℕ)
    → live_at new handle ≡ live_at old handle → map_at part new handle ≡ map_at part old handle
same_live part old new handle e = ap (map_if part) e

-- a map that is live before and after, with the same pairs, is the same map in the state
pub same_map_at : (part later : List ℕ) (old new : LiveMaps) (handle : ℕ)
    → IsSome (live_at old handle) → IsSome (live_at new handle)
    → map_in later new handle ≡ map_in part old handle
    → map_at later new handle ≡ map_at part old handle
same_map_at part later old new handle was now e =
    map_there later new handle now ∙ ap (λ (t : Map). Some t) e ∙ sym (map_there part old handle was)

-- a handle with the same live map has the same map, if its pairs are the same
pub other_at : (part later : List ℕ) (old new : LiveMaps) (handle : ℕ)
    → live_at new handle ≡ live_at old handle
    → (IsSome (live_at new handle) → map_in later new handle ≡ map_in part old handle)
    → map_at later new handle ≡ map_at part old handle
other_at part later old new handle same pairs = by (live_or_not (live_at new handle))
  where
    by : IsSome (live_at new handle) ⊎ (live_at new handle ≡ None) → map_at later new handle ≡ map_at part old handle
    by (inl now) =
        same_map_at part later old new handle (sym (ap (λ (o : Option LiveMap). is_some o) same) ∙ now) now (pairs now)
    by (inr none) = none_there later new handle none ∙ sym (none_there part old handle (sym same ∙ none))

-- the list has a map of a handle if and only if a map is live there
pub live_is : (part : List ℕ) (t : LiveMaps)
    → length t.maps ≡ most_maps → (handle : ℕ)
    → is_some (get_or (at_handles (map_at part t)) handle None) ≡ is_some (live_at t handle)
live_is part t long handle =
    some_at (map_at part t) t.maps long (λ i. is_some-mapped (λ l. map_in part t i) (live_at t i)) handle
