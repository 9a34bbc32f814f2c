-- A call that changes one map, which keeps its shape and its area.
use Rattle.std.proofs.Common.{◌≡◌, ◌≢◌, ℕ, ◌-◌, ◌<◌, ◌≤◌, Bool, if◌then◌else◌, nat_le, List, Option, Some}
use Rattle.std.proofs.Common.{None, IsSome, is_some, option_map, refl, sym, ap, subst, ◌∙◌, get_or, arith}
use Rattle.std.proofs.lemmas.Bool.{lt-leb, le-leb}
use Rattle.bpf_maps.specs.declared.stored_map.StoredMap.{StoredMap}
use Rattle.bpf_maps.specs.declared.maps.Maps.TheInside.{Inside}
use Rattle.bpf_maps.specs.KeyTable.{IsSound}
use Rattle.bpf_maps.specs.BpfMap.{keys_in}
use Rattle.bpf_maps.specs.Live.{LiveMap, LiveMaps, live_at, live_or, keys_at, references_at, AreSound, IsLaid, SameAreas}
use Rattle.bpf_maps.specs.Live.{SameValues, KeepsMap, KeepsOthers, areas, MapWithoutArea, without_area, without_area_at, one_less}
use Rattle.slab.specs.Slab.{get, with_value}
use Rattle.bpf_maps.specs.InMaps.{live_of, live_maps_of, stored_in, as_live_maps, IsInItsArea, IsWellFormedMaps}
use Rattle.bpf_maps.proofs.Slots.{some_stored, live_by, others_by, one_changed, value_stays}
use Rattle.bpf_maps.proofs.ByHandle.{under_key, changed_here, changed_others, changed_keys}
use Rattle.bpf_maps.proofs.Whole.{laid, sound_at, whole_replaced}
use Rattle.bpf_maps.proofs.Stays.{keeps_live, keeps_keys}

-- the fields with another map under a key
abbrev pub with_stored : Inside → ℕ → StoredMap → Inside
with_stored a key new = record a { maps = with_value a.maps key new }

-- a property of the map of a handle is that of the live map
pub seen_of : {P : Type 0} (f : LiveMap → P) {o : Option LiveMap} {l : LiveMap} → o ≡ Some l → f (live_or o) ≡ f l
seen_of f is = ap (λ (x : Option LiveMap). f (live_or x)) is

-- the map without its area after one hold is released; None if it was the last
abbrev held_less : LiveMap → Bool → Option MapWithoutArea
held_less l last =
    if last then None else Some (let h : MapWithoutArea = record { keys = l.keys; holds = l.holds - 1 } in h)

less_than_held : {o : Option LiveMap} {l : LiveMap} {last : Bool}
    → o ≡ Some l → nat_le l.holds 1 ≡ last
    → one_less (option_map without_area o) ≡ held_less l last
less_than_held {l = l} at is =
    ap (λ (x : Option LiveMap). one_less (option_map without_area x)) at ∙ ap (held_less l) is

-- the map of `handle` is under `key`
pub record IsUnder (a : Inside) (t : LiveMaps) (handle map key : ℕ) (e : StoredMap) : Type 0 where
  -- contracts see the fields as these live maps
  pub view : as_live_maps a ≡ t
  -- the invariant of the live maps holds
  pub whole : IsWellFormedMaps a
  -- the handle of the call is the number that contracts see
  pub same : handle ≡ map
  -- the handle has this key
  pub keyed : get_or a.keys handle None ≡ Some key
  -- the slab has this map under the key
  pub here : get a.maps key ≡ Some e

-- the same, from the clauses of the calls that lead to the map
pub is_under : {a : Inside} {t : LiveMaps} {handle map key : ℕ} {e : StoredMap}
    → as_live_maps a ≡ t → IsWellFormedMaps a
    → handle ≡ map → get_or a.keys handle None ≡ Some key
    → get a.maps key ≡ Some e
    → IsUnder a t handle map key e
is_under view whole same keyed here = record { view = view; whole = whole; same = same; keyed = keyed; here = here }

-- it is replaced by one with the same shape and area
pub record IsChange (a : Inside) (t : LiveMaps) (handle map key : ℕ) (old new : StoredMap) : Type 0 where
  -- the old map is in the slab under the key of the handle
  pub under : IsUnder a t handle map key old
  -- the offset of the area in the part is not changed
  pub start : new.start ≡ old.start
  -- the distance from one value to the next is not changed
  pub stride : new.stride ≡ old.stride
  -- the word with the number of elements and their distance is not changed
  pub elements : new.elements ≡ old.elements
  -- the shape is not changed
  pub shape : (keys_in new.map).shape ≡ (keys_in old.map).shape
  -- the new map has at least one reference
  pub held : 1 ≤ new.holds
  -- the table of keys of the new map is sound
  pub sound : IsSound (keys_in new.map)

-- a map is live
pub live_here : (a : Inside) {t : LiveMaps} {handle map : ℕ} {e : StoredMap}
    → as_live_maps a ≡ t → handle ≡ map
    → get_or (stored_in a) handle None ≡ Some e
    → live_at t map ≡ Some (live_of e)
live_here a {handle = handle} {map = map} {e = e} view same here =
    ap (λ (u : LiveMaps). live_at u map) (sym view)
    ∙ ap (λ (p : ℕ). get_or (live_maps_of (stored_in a)) p None) (sym same)
    ∙ live_by (stored_in a) (stored_in a) handle e here

-- a live map is stored
pub live_stored : (a : Inside) {t : LiveMaps} {handle map : ℕ}
    → as_live_maps a ≡ t → handle ≡ map
    → IsSome (live_at t map)
    → (e : StoredMap) × (get_or (stored_in a) handle None ≡ Some e) × (live_at t map ≡ Some (live_of e))
live_stored a {t = t} {handle = handle} view same live =
    let there : IsSome (live_at (as_live_maps a) handle) =
    subst (λ (u : LiveMaps). IsSome (live_at u handle)) (sym view)
    (subst (λ (k : ℕ). IsSome (live_at t k)) (sym same) live) in
    let e = some_stored (stored_in a) handle there in
    (e.0, e.1, live_here a view same e.1)

-- it is under its key
module _ {a : Inside} {t : LiveMaps} {handle map key : ℕ} {e : StoredMap} (u : IsUnder a t handle map key e) where
  -- the stored map of the handle is the one under the key
  pub at_handle : get_or (stored_in a) handle None ≡ Some e
  at_handle = under_key a.maps a.keys handle key u.keyed ∙ u.here

  -- the live map of the handle is the one under the key
  pub live_under : live_at t map ≡ Some (live_of e)
  live_under = live_here a u.view u.same at_handle

  -- the map under the key lies in its area, has a reference, and has a sound table of keys
  pub placed_under : IsInItsArea a.bytes e
  placed_under = u.whole.placed handle e at_handle

module _ {a : Inside} {t : LiveMaps} {handle map key : ℕ} {old new : StoredMap}
    (c : IsChange a t handle map key old new) where
  abbrev now : Inside
  now = with_stored a key new

  is : get_or (stored_in now) handle None ≡ Some new
  is = changed_here a.keys a.maps c.under.whole.keys handle key c.under.keyed old new c.under.here

  others : (p : ℕ) → p ≢ handle → get_or (stored_in now) p None ≡ get_or (stored_in a) p None
  others = changed_others a.keys a.maps c.under.whole.keys handle key c.under.keyed old new c.under.here

  -- before the change, the live map of the handle is the old one
  pub live_old : live_at t map ≡ Some (live_of old)
  live_old = live_under c.under

  -- after the change, the live map of the handle is the new one
  pub live_new : live_at (as_live_maps now) map ≡ Some (live_of new)
  live_new = live_here now refl c.under.same is

  -- the live maps of the other handles are not changed
  pub others_stay : (other : ℕ) → other ≢ map → live_at (as_live_maps now) other ≡ live_at t other
  others_stay other ne =
      others_by (stored_in a) (stored_in now) handle others other (λ e. ne (e ∙ c.under.same))
      ∙ ap (λ (u : LiveMaps). live_at u other) c.under.view

  -- each map that is live after the change was live before it, with the same shape and the same area
  pub areas_stay : SameAreas t (as_live_maps now)
  areas_stay =
      one_changed t (as_live_maps now) map (live_of old) (live_of new) live_old live_new c.shape
      c.start c.stride others_stay

  -- the invariant of the live maps holds after the change
  pub whole_stays : IsWellFormedMaps now
  whole_stays =
      whole_replaced now handle c.under.whole others old new (at_handle c.under) is c.start c.stride
      c.elements c.shape c.held c.sound refl
      (changed_keys a.keys a.maps c.under.whole.keys handle key c.under.keyed old new c.under.here) c.under.whole.room

  -- after the change, the values of all live maps lie in the part and do not overlap
  pub laid_stays : IsLaid (as_live_maps now)
  laid_stays = laid whole_stays

  -- all areas take as many bytes as before the change
  pub room_stays : areas (as_live_maps now) ≡ areas t
  room_stays = sym whole_stays.sum ∙ c.under.whole.sum ∙ ap areas c.under.view

  -- a property of the map that does not change
  pub part_stays : {P : Type 0} (f : LiveMap → P)
      → f (live_of new) ≡ f (live_of old)
      → f (live_or (live_at (as_live_maps now) map)) ≡ f (live_or (live_at t map))
  part_stays f same = seen_of f live_new ∙ same ∙ sym (seen_of f live_old)

  -- ---- with the bytes, which the call leaves

  -- if the bytes of the part are not changed, the values of all live maps are not changed
  pub values_stay : (bytes : List ℕ) → SameValues t bytes (as_live_maps now) bytes
  values_stay bytes k p old_live new_live lt = value_stays t (as_live_maps now) k areas_stay new_live bytes p

  sound_before : AreSound t
  sound_before = subst AreSound c.under.view (sound_at c.under.whole)

  -- each other map that was live still is, with the same keys and values
  pub others_keep : (bytes : List ℕ) → KeepsOthers map t bytes (as_live_maps now) bytes
  others_keep bytes other ne =
      keeps_live t (as_live_maps now) bytes bytes other (values_stay bytes) (sound_before other) (others_stay other ne)

  -- ---- a change of only the holds

  module _ (same : new.map ≡ old.map) where
    keys_stay : keys_at (as_live_maps now) map ≡ keys_at t map
    keys_stay = part_stays (λ l. l.keys) (ap keys_in same)

    -- if only its references change, the map is still live, with the same keys and values
    pub itself_keeps : (bytes : List ℕ) → KeepsMap map t bytes (as_live_maps now) bytes
    itself_keeps bytes =
        keeps_keys t (as_live_maps now) bytes bytes map (values_stay bytes) (sound_before map)
        (ap is_some live_new) keys_stay

    -- if the map had more than one reference, one reference less is the release of a reference
    pub one_held_less : new.holds ≡ old.holds - 1
        → 1 < old.holds → without_area_at (as_live_maps now) map ≡ one_less (without_area_at t map)
    one_held_less holds more =
        ap (option_map without_area) live_new
        ∙ (λ i. let h : MapWithoutArea = record { keys = keys_in (same i); holds = holds i } in Some h)
        ∙ sym (less_than_held live_old (lt-leb old.holds 1 more))

-- a live map with at most one reference doesn't have more than one
pub not_more : (t : LiveMaps) (key : ℕ) {l : LiveMap} → live_at t key ≡ Some l → l.holds ≤ 1 → 1 < references_at t key → ⊥
not_more t key here last more = let held = seen_of (λ (x : LiveMap). x.holds) here in omega arith

-- a map that is removed had at most one hold
pub none_held : (t u : LiveMaps) (map : ℕ) {l : LiveMap}
    → live_at t map ≡ Some l → live_at u map ≡ None
    → l.holds ≤ 1
    → without_area_at u map ≡ one_less (without_area_at t map)
none_held t u map {l = l} at bt last = ap (option_map without_area) bt ∙ sym (less_than_held at (le-leb l.holds 1 last))
