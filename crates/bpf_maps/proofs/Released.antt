-- A map that is removed.
use Rattle.std.proofs.Common.{◌≡◌, ◌≢◌, ℕ, ◌+◌, ◌-◌, ◌*◌, ◌<◌, ◌≤◌, List, ◌++◌, length, take, drop, Option, Some, None}
use Rattle.std.proofs.Common.{is_some, option_map, refl, sym, ap, subst, ◌∙◌, arith, get_or, set, ⊎_elim, true≢false}
use Rattle.std.proofs.lemmas.List.{drop-take, drop-drop, length-drop}
use Rattle.std.proofs.Math.Seq.{length-take-le, take-take}
use Rattle.slab.specs.Slab.{Slab, get, slab_len, with_value}
use Rattle.bpf_maps.specs.declared.part.TheConstants.{STACK_AND_CONTEXT, PART}
use Rattle.bpf_maps.specs.declared.stored_map.StoredMap.{StoredMap}
use Rattle.bpf_maps.specs.declared.spare_maps.SpareMaps.{SpareMaps}
use Rattle.bpf_maps.specs.declared.maps.Maps.TheInside.{Inside}
use Rattle.bpf_maps.specs.BpfMap.{keys_in}
use Rattle.bpf_maps.specs.Live.{LiveMap, LiveMaps, live_at, live_or, shape_at, offset, areas, without_area}
use Rattle.tagged_model.specs.Table.{shape_area}
use Rattle.bpf_maps.specs.Live.{without_area_at, one_less, area_of, IsLaid, AreSound, SameValues, KeepsOthers, map_without, ClosesUp}
use Rattle.bpf_maps.specs.Sum.{weight}
use Rattle.bpf_maps.specs.InMaps.{live_of, live_maps_of, by_handle, stored_in, as_live_maps, AreKeys, closed_up, IsWellFormedMaps}
use Rattle.bpf_maps.proofs.Slots.{at_lives, live_by, none_by, same_some}
use Rattle.bpf_maps.proofs.ByHandle.{changed_stored, changed_others, changed_keys, removed_here, removed_others, removed_keys}
use Rattle.bpf_maps.proofs.Totals.{weight_most}
use Rattle.bpf_maps.proofs.Changes.{seen_of, IsUnder, at_handle, live_here, live_stored, none_held}
use Rattle.bpf_maps.proofs.Stays.{keeps_held}
use Rattle.bpf_maps.proofs.InAreas.{value_ends, before_or_behind}
use Rattle.bpf_maps.proofs.Written.{front_same, before_same, own}
use Rattle.bpf_maps.proofs.Whole.{laid, sound_at, offset_of, offset_without, beside, whole_removed}

-- the map that is taken out is the one of the handle
pub record IsTaken (a : Inside) (t : LiveMaps) (handle map key : ℕ) (old gone : StoredMap) : Type 0 where
  -- the map of the handle is in the slab under its key
  pub under : IsUnder a t handle map key old
  -- the map that is taken out is the one under this key
  pub value : get (with_value a.maps key old) key ≡ Some gone

-- the keys and the slab without it
pub record IsLeft (a : Inside) (handle key : ℕ) (old : StoredMap) (keys : List (Option ℕ))
    (left : Slab StoredMap) : Type 0 where
  -- the handle loses its key, and no other handle's key changes
  pub keys_are : keys ≡ set a.keys handle None
  -- the slab has no map under the lost key
  pub gap : get left key ≡ None
  -- no map under another key is changed
  pub others : (j : ℕ) → j ≢ key → get left j ≡ get (with_value a.maps key old) j
  -- the slab has one map less
  pub len : slab_len left + 1 ≡ slab_len (with_value a.maps key old)
  -- the capacity of the slab is not changed
  pub capacity : left.capacity ≡ a.maps.capacity

-- the maps after it are moved down, with these keys
pub record IsClosed (keys : List (Option ℕ)) (end size : ℕ) (left maps : Slab StoredMap) : Type 0 where
  -- each map whose area began at `end` or later begins lower by `size`, and nothing else of the maps changes
  pub each : (p : ℕ)
      → get_or (by_handle keys maps) p None ≡ option_map (closed_up end size) (get_or (by_handle keys left) p None)
  -- the keys of the handles are those of the slab
  pub are_keys : AreKeys keys maps
  -- the capacity of the slab is not changed by the move
  pub capacity : maps.capacity ≡ left.capacity

-- the map is removed: it is taken out, and the later ones move down by the size of its area
pub record Goes (a : Inside) (t : LiveMaps) (handle map key size : ℕ) (old gone : StoredMap)
    (keys : List (Option ℕ)) (left maps : Slab StoredMap) (spares : SpareMaps) : Type 0 where
  -- the map that is taken out of the slab is the one of the handle
  pub taken : IsTaken a t handle map key old gone
  -- the size is that of the map's area
  pub size_is : size ≡ area_of (live_of gone)
  -- the handle has lost its key and the slab this map, and nothing else has changed
  pub rest : IsLeft a handle key old keys left
  -- the maps whose areas are after the removed one move down by its size
  pub closed : IsClosed keys (gone.start + size) size left maps

-- the fields without it
abbrev pub without_stored : Inside → SpareMaps → ℕ → List (Option ℕ) → Slab StoredMap → Inside
without_stored a spares size keys maps = record a { keys = keys; maps = maps; bytes = a.bytes - size; spares = spares }

-- a map without its area is the same at another address
held_still : (gone : LiveMap) (o : Option LiveMap)
    → option_map without_area (option_map (map_without gone) o) ≡ option_map without_area o
held_still gone None = refl
held_still gone (Some l) = refl

lives_closed : (gone : StoredMap) (o : Option StoredMap)
    → option_map live_of (option_map (closed_up (gone.start + area_of (live_of gone)) (area_of (live_of gone))) o)
    ≡ option_map (map_without (live_of gone)) (option_map live_of o)
lives_closed gone None = refl
lives_closed gone (Some e) = refl

module _ {a : Inside} {t : LiveMaps} {handle map key : ℕ} {old gone : StoredMap}
    (c : IsTaken a t handle map key old gone) where
  abbrev whole : IsWellFormedMaps a
  whole = c.under.whole

  is_gone : old ≡ gone
  is_gone = same_some (changed_stored a.keys a.maps whole.keys handle key c.under.keyed old old c.under.here) c.value

  was_there : get_or (stored_in a) handle None ≡ Some gone
  was_there = subst (λ (e : StoredMap). get_or (stored_in a) handle None ≡ Some e) is_gone (at_handle c.under)

  -- the area of the removed map
  gone_behind : STACK_AND_CONTEXT ≤ gone.start
  gone_behind = (whole.placed handle gone was_there).behind

  -- the removed area lies in the bytes that all areas take
  pub gone_within : gone.start + area_of (live_of gone) ≤ STACK_AND_CONTEXT + a.bytes
  gone_within = (whole.placed handle gone was_there).within

  -- the removed area is at most as long as all areas together
  pub size_most : {size : ℕ} → size ≡ area_of (live_of gone) → size ≤ a.bytes
  size_most is =
      let s = whole.sum in
      let w = weight_most area_of handle (live_maps_of (stored_in a)) in
      let x = ap (weight area_of) (live_by (stored_in a) (stored_in a) handle gone was_there) in
      omega arith

  keys_before : AreKeys a.keys (with_value a.maps key old)
  keys_before = changed_keys a.keys a.maps whole.keys handle key c.under.keyed old old c.under.here

  module _ {keys : List (Option ℕ)} {left : Slab StoredMap} (l : IsLeft a handle key old keys left) where
    -- after the map is taken out, the keys of the handles are those of the slab
    pub left_keys : AreKeys keys left
    left_keys =
        subst (λ (ks : List (Option ℕ)). AreKeys ks left) (sym l.keys_are)
        (removed_keys a.keys (with_value a.maps key old) left keys_before handle key c.under.keyed l.gap l.others l.len)

    none_left : get_or (by_handle keys left) handle None ≡ None
    none_left =
        ap (λ (ks : List (Option ℕ)). get_or (by_handle ks left) handle None) l.keys_are
        ∙ removed_here a.keys (with_value a.maps key old) left keys_before handle key c.under.keyed l.gap l.others

    others_left : (p : ℕ) → p ≢ handle → get_or (by_handle keys left) p None ≡ get_or (stored_in a) p None
    others_left p ne =
        ap (λ (ks : List (Option ℕ)). get_or (by_handle ks left) p None) l.keys_are
        ∙ removed_others a.keys (with_value a.maps key old) left keys_before handle key
        c.under.keyed l.gap l.others p ne
        ∙ changed_others a.keys a.maps whole.keys handle key c.under.keyed old old c.under.here p ne

module _ {a : Inside} {t : LiveMaps} {handle map key size : ℕ} {old gone : StoredMap}
    {keys : List (Option ℕ)} {left maps : Slab StoredMap} {spares : SpareMaps}
    (g : Goes a t handle map key size old gone keys left maps spares) where
  abbrev new : Inside
  new = without_stored a spares size keys maps

  abbrev was_whole : IsWellFormedMaps a
  was_whole = g.taken.under.whole

  was : get_or (stored_in a) handle None ≡ Some gone
  was = was_there g.taken

  closed : (p : ℕ)
      → p ≢ handle
      → get_or (stored_in new) p None
      ≡ option_map (closed_up (gone.start + area_of (live_of gone)) (area_of (live_of gone)))
      (get_or (stored_in a) p None)
  closed p ne =
      g.closed.each p
      ∙ ap (λ (n : ℕ). option_map (closed_up (gone.start + n) n) (get_or (by_handle keys left) p None)) g.size_is
      ∙ ap (option_map (closed_up (gone.start + area_of (live_of gone)) (area_of (live_of gone))))
      (others_left g.taken g.rest p ne)

  empty : get_or (stored_in new) handle None ≡ None
  empty = g.closed.each handle ∙ ap (option_map (closed_up (gone.start + size) size)) (none_left g.taken g.rest)

  bytes_now : a.bytes - size + area_of (live_of gone) ≡ a.bytes
  bytes_now = let m = size_most g.taken g.size_is in let s = g.size_is in omega arith

  -- the invariant of the live maps holds without the removed map
  pub whole_gone : IsWellFormedMaps new
  whole_gone =
      let room = was_whole.room in
      let same = g.rest.capacity in
      let still = g.closed.capacity in
      whole_removed new handle was_whole gone was empty closed bytes_now g.closed.are_keys (omega arith)

  -- after the removal, the values of all live maps lie in the part and do not overlap
  pub laid_gone : IsLaid (as_live_maps new)
  laid_gone = laid whole_gone

  live_gone : live_at t map ≡ Some (live_of gone)
  live_gone = live_here a g.taken.under.view g.taken.under.same was

  -- all areas take fewer bytes than before, by the area of the removed map
  pub freed_gone : areas t ≡ areas (as_live_maps new) + shape_area (shape_at t map)
  freed_gone =
      let shape : shape_area (shape_at t map) ≡ area_of (live_of gone) = seen_of (λ (x : LiveMap). area_of x) live_gone in
      let bytes = whole_gone.sum in
      let sum = was_whole.sum in
      let seen = ap areas g.taken.under.view in
      let most = size_most g.taken g.size_is in
      let is = g.size_is in
      omega arith

  -- after the removal, the handle has no live map
  pub none_now : live_at (as_live_maps new) map ≡ None
  none_now =
      ap (λ (p : ℕ). get_or (live_maps_of (stored_in new)) p None) (sym g.taken.under.same)
      ∙ none_by (stored_in new) (stored_in new) handle empty

  -- the other maps
  lives_close : (p : ℕ)
      → p ≢ handle
      → live_at (as_live_maps new) p ≡ option_map (map_without (live_of gone)) (live_at t p)
  lives_close p ne =
      at_lives (stored_in new) p
      ∙ ap (option_map live_of) (closed p ne)
      ∙ lives_closed gone (get_or (stored_in a) p None)
      ∙ ap (option_map (map_without (live_of gone)))
      (sym (at_lives (stored_in a) p) ∙ ap (λ (u : LiveMaps). live_at u p) g.taken.under.view)

  -- each area after the removed one begins lower by its size, and nothing else of the other maps changes
  pub closes_up : ClosesUp map t (as_live_maps new)
  closes_up p ne =
      lives_close p (λ e. ne (e ∙ g.taken.under.same))
      ∙ ap (λ (o : Option LiveMap). option_map (map_without (live_or o)) (live_at t p)) (sym live_gone)

  -- if the map had at most one reference, its removal is the release of a reference
  pub less_gone : old.holds ≤ 1 → without_area_at (as_live_maps new) map ≡ one_less (without_area_at t map)
  less_gone last =
      none_held t (as_live_maps new) map live_gone none_now
      (subst (λ (e : StoredMap). e.holds ≤ 1) (is_gone g.taken) last)

  -- the removal does not change the keys and the references of another map
  pub others_gone : (p : ℕ) → p ≢ map → without_area_at (as_live_maps new) p ≡ without_area_at t p
  others_gone p ne =
      ap (option_map without_area) (lives_close p (λ e. ne (e ∙ g.taken.under.same)))
      ∙ held_still (live_of gone) (live_at t p)

  -- ---- the bytes

  module _ (bytes : List ℕ) {later : List ℕ} (long : length bytes ≡ PART)
      (written : later
      ≡ take gone.start bytes
      ++ (take (STACK_AND_CONTEXT + a.bytes - (gone.start + size)) (drop (gone.start + size) bytes)
      ++ drop (gone.start + (STACK_AND_CONTEXT + a.bytes - (gone.start + size))) bytes)) where
    abbrev many : ℕ
    many = STACK_AND_CONTEXT + a.bytes - (gone.start + size)

    abbrev moved : List ℕ
    moved = take many (drop (gone.start + size) bytes)

    in_part : STACK_AND_CONTEXT + a.bytes ≤ length bytes
    in_part = let f = was_whole.few in omega arith

    long_moved : length moved ≡ many
    long_moved =
        let w = gone_within g.taken in
        let p = in_part in
        length-take-le many (drop (gone.start + size) bytes) (omega (arith, length-drop (gone.start + size) bytes))

    room : gone.start + many ≤ length bytes
    room = let w = gone_within g.taken in let p = in_part in omega arith

    -- the move of the areas does not change the stack and the context
    pub front_gone : take STACK_AND_CONTEXT later ≡ take STACK_AND_CONTEXT bytes
    front_gone =
        ap (take STACK_AND_CONTEXT) written
        ∙ front_same bytes moved gone.start many long_moved room STACK_AND_CONTEXT (gone_behind g.taken)

    -- the bytes that move are those after it
    from_behind : (x n : ℕ) → x + n ≤ many → take n (drop x moved) ≡ take n (drop (gone.start + size + x) bytes)
    from_behind x n l =
        sym (drop-take x n moved)
        ∙ ap (drop x) (take-take (x + n) many (drop (gone.start + size) bytes) l)
        ∙ drop-take x n (drop (gone.start + size) bytes)
        ∙ ap (take n) (drop-drop x (gone.start + size) bytes)

    -- a value of another map
    kept_at : (j p : ℕ) (f : StoredMap)
        → j ≢ handle → get_or (stored_in a) j None ≡ Some f
        → p < (keys_in f.map).shape.max_entries
        → take (keys_in f.map).shape.value_size (drop (offset (map_without (live_of gone) (live_of f)) p) later)
        ≡ take (keys_in f.map).shape.value_size (drop (offset (live_of f) p) bytes)
    kept_at j p f ne ft l =
        let s = (keys_in f.map).shape in
        let i = was_whole.placed j f ft in
        let o = offset_of f p in
        let m = offset_without gone f p in
        let x = value_ends s.value_size s.max_entries f.stride i.stride p l in
        let w = i.within in
        let all = gone_within g.taken in
        ap (λ (b : List ℕ). take s.value_size (drop (offset (map_without (live_of gone) (live_of f)) p) b)) written
        ∙ ⊎_elim
        (λ y.
        let before = y.0 in
        let stays = y.1 in
        let same : offset (map_without (live_of gone) (live_of f)) p ≡ offset (live_of f) p = omega arith in
        ap (λ (n : ℕ). take s.value_size (drop n (take gone.start bytes ++ (moved ++ drop (gone.start + many) bytes))))
        same
        ∙ before_same bytes moved gone.start many long_moved room (offset (live_of f) p) s.value_size (omega arith))
        (λ y.
        let behind = y.0 in
        let falls = y.1 in
        let at_now :
        offset (map_without (live_of gone) (live_of f)) p ≡ gone.start +
        (f.start - (gone.start + size) + p * f.stride) =
        omega arith in
        let at_then : gone.start + size + (f.start - (gone.start + size) + p * f.stride) ≡ offset (live_of f) p =
        omega arith in
        let fits : f.start - (gone.start + size) + p * f.stride + s.value_size ≤ many = omega arith in
        ap (λ (n : ℕ). take s.value_size (drop n (take gone.start bytes ++ (moved ++ drop (gone.start + many) bytes))))
        at_now
        ∙ own bytes moved gone.start many long_moved room
        (f.start - (gone.start + size) + p * f.stride) s.value_size
        fits
        ∙ from_behind (f.start - (gone.start + size) + p * f.stride) s.value_size fits
        ∙ ap (λ (n : ℕ). take s.value_size (drop n bytes)) at_then)
        (before_or_behind gone.start (area_of (live_of gone)) f.start (area_of (live_of f))
        (beside new handle was_whole gone was empty closed bytes_now j f ne ft))

    -- the move of the areas does not change the values of the maps that are still live
    pub values_gone : SameValues t bytes (as_live_maps new) later
    values_gone j p old_live new_live l =
        let ne : j ≢ map =
        λ (s : j ≡ map). true≢false (sym new_live ∙ ap is_some (ap (live_at (as_live_maps new)) s ∙ none_now)) in
        let f = live_stored a {map = j} g.taken.under.view refl old_live in
        let n : live_at (as_live_maps new) j ≡ Some (map_without (live_of gone) (live_of f.0)) =
        lives_close j (λ e. ne (e ∙ g.taken.under.same)) ∙ ap (option_map (map_without (live_of gone))) f.2 in
        let m = seen_of (λ x. x.keys.shape.max_entries) n in
        ap (λ (x : Option LiveMap). take (live_or x).keys.shape.value_size (drop (offset (live_or x) p) later)) n
        ∙ kept_at j p f.0 (λ e. ne (e ∙ g.taken.under.same)) f.1 (omega arith)
        ∙ ap (λ (x : Option LiveMap). take (live_or x).keys.shape.value_size (drop (offset (live_or x) p) bytes))
        (sym f.2)

    -- each other map that was live still is, with the same keys and values
    pub others_kept : KeepsOthers map t bytes (as_live_maps new) later
    others_kept other ne =
        keeps_held t (as_live_maps new) bytes later other values_gone
        (subst AreSound g.taken.under.view (sound_at was_whole) other)
        (others_gone other ne)
