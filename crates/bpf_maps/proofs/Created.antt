-- A map that is new.
use Rattle.std.proofs.Common.{◌≡◌, ◌≢◌, ℕ, ◌+◌, ◌*◌, ◌/◌, ◌<◌, ◌≤◌, ◌⊎◌, ◌||◌, Bool, true, false, if◌then◌else◌, nat_lt}
use Rattle.std.proofs.Common.{List, ◌++◌, length, take, drop, replicate, Option, Some, None, Result, Ok, Err, IfOk, IsSome}
use Rattle.std.proofs.Common.{is_some, refl, sym, ap, ap₂, subst, ◌∙◌, arith, get_or, set, ⊎_elim, inl, inr, true≢false}
use Rattle.std.specs.Prelude.{is_none, position}
use Rattle.std.proofs.lemmas.Bool.{lt-ltb, le-ltb}
use Rattle.std.proofs.lemmas.List.{length-replicate}
use Rattle.std.proofs.lemmas.List.Quantifiers.{position-Some}
use Rattle.tagged_model.specs.declared.shape.MapShape.{MapShape}
use Rattle.tagged_model.specs.Table.{new_table, shape_area}
use Rattle.tagged_model.specs.declared.fault.MapFault.{MapFault}
use Rattle.tagged_model.specs.declared.fault.MapFault.TheVariants.{NoEntry, TooBig, Memory, Exists, Invalid, NoSpace}
use Rattle.slab.specs.Slab.{Slab, get, slab_len}
use Rattle.bpf_maps.specs.declared.part.TheConstants.{STACK_AND_CONTEXT, LARGEST_SUM, MAPS, PART}
use Rattle.bpf_maps.specs.declared.stored_map.StoredMap.{StoredMap}
use Rattle.bpf_maps.specs.declared.spare_maps.SpareMaps.{SpareMaps}
use Rattle.bpf_maps.specs.declared.maps.Maps.TheInside.{Inside}
use Rattle.bpf_maps.specs.KeyTable.{KeyTable, IsSound, new_keys}
use Rattle.bpf_maps.specs.BpfMap.{keys_in}
use Rattle.bpf_maps.specs.Elements.{elements_of, word_of}
use Rattle.bpf_maps.specs.Live.{LiveMap, LiveMaps, live_at, live_or, free_handle, keys_at, offset, value_in, map_in, start_at}
use Rattle.bpf_maps.specs.Live.{areas, create_fault, Creates, IsCreated, IsLaid, AreSound, SameValues, KeepsMaps}
use Rattle.bpf_maps.specs.InMaps.{live_of, by_handle, stored_in, as_live_maps, AreKeys, IsWellFormedMaps}
use Rattle.bpf_maps.specs.LiveLaws.{lowest_most}
use Rattle.bpf_maps.proofs.Slots.{live_by, none_by, others_by, same_or_other}
use Rattle.bpf_maps.proofs.ByHandle.{fewer_keys, no_key, lowest_is, added_here, added_others, added_keys}
use Rattle.bpf_maps.proofs.InAreas.{value_ends}
use Rattle.bpf_maps.proofs.Arrays.{sound_new}
use Rattle.bpf_maps.proofs.Changes.{seen_of, live_stored}
use Rattle.bpf_maps.proofs.Written.{front_same, before_same, zeros}
use Rattle.bpf_maps.proofs.Whole.{laid, sound_at, whole_added, offset_of}
use Rattle.bpf_maps.proofs.Values.{new_map_in}
use Rattle.bpf_maps.proofs.Stays.{keeps_live}

-- if a handle is free, and the areas would not exceed LARGEST_SUM, `create` has no fault
pub no_fault : (t : LiveMaps) (s : MapShape)
    → is_none (free_handle t) ≡ false → areas t + shape_area s ≤ LARGEST_SUM
    → create_fault t s ≡ None
no_fault t s free fits =
    let b : nat_lt LARGEST_SUM (areas t + shape_area s) ≡ false = le-ltb LARGEST_SUM (areas t + shape_area s) fits in
    ap (λ (x : Bool). if x || nat_lt LARGEST_SUM (areas t + shape_area s) then Some NoSpace else None) free
    ∙ ap (λ (x : Bool). if x then Some NoSpace else None) b

or_true : (b : Bool) → (b || true) ≡ true
or_true true = refl
or_true false = refl

full_fault : (t : LiveMaps) (s : MapShape)
    → (free_handle t ≡ None) ⊎ (LARGEST_SUM < areas t + shape_area s) → create_fault t s ≡ Some NoSpace
full_fault t s full =
    ⊎_elim
    (λ (e : free_handle t ≡ None).
    ap (λ (o : Option ℕ). if is_none o || nat_lt LARGEST_SUM (areas t + shape_area s) then Some NoSpace else None) e)
    (λ (l : LARGEST_SUM < areas t + shape_area s).
    ap (λ (x : Bool). if x then Some NoSpace else None)
    (ap (λ (x : Bool). is_none (free_handle t) || x) (lt-ltb LARGEST_SUM (areas t + shape_area s) l)
    ∙ or_true (is_none (free_handle t))))
    full

-- there is no room
module _ {a : Inside} {t : LiveMaps} (shape : MapShape) {size : ℕ} (view : as_live_maps a ≡ t)
    (h : IsWellFormedMaps a) (size_is : size ≡ shape_area shape) where
  -- if no handle is free, or the areas would exceed LARGEST_SUM, `create` returns NoSpace and changes nothing
  pub creates_full : (position is_none a.keys ≡ None) ⊎ (LARGEST_SUM < a.bytes + size)
      → Creates (create_fault t shape) t shape (Err NoSpace) t
  creates_full full =
      let s = h.sum in
      subst (λ (o : Option MapFault). Creates o t shape (Err NoSpace) t)
      (sym
      (ap (λ (u : LiveMaps). create_fault u shape) (sym view)
      ∙ full_fault (as_live_maps a) shape
      (⊎_elim (λ e. inl (lowest_is a.keys a.maps h.keys ∙ e)) (λ l. inr (omega arith)) full)))
      (refl, refl)

-- there is room for another map, at this handle
pub record IsRoom (a : Inside) (t : LiveMaps) (shape : MapShape) (size handle : ℕ) : Type 0 where
  -- contracts see the fields as these live maps
  pub view : as_live_maps a ≡ t
  -- the invariant of the live maps holds
  pub whole : IsWellFormedMaps a
  -- the size is that of the area of a map of this shape
  pub size_is : size ≡ shape_area shape
  -- the handle is the lowest one without a key
  pub free : position is_none a.keys ≡ Some handle
  -- with the new one, the areas do not exceed LARGEST_SUM
  pub room : a.bytes + size ≤ LARGEST_SUM

-- the map is in the slab, and its key is that of the handle
pub record IsAdded (a : Inside) (shape : MapShape) (spares : SpareMaps) (keys : List (Option ℕ))
    (maps : Slab StoredMap) (handle key : ℕ) (e : StoredMap) : Type 0 where
  -- the handle gets this key, and no other handle's key changes
  pub keys_are : keys ≡ set a.keys handle (Some key)
  -- the slab had no map under this key
  pub was : get a.maps key ≡ None
  -- the slab has the new map under this key
  pub there : get maps key ≡ Some e
  -- no map under another key is changed
  pub others : (j : ℕ) → j ≢ key → get maps j ≡ get a.maps j
  -- the slab has one map more
  pub len : slab_len maps ≡ slab_len a.maps + 1
  -- the capacity of the slab is not changed
  pub capacity : maps.capacity ≡ a.maps.capacity
  -- the table of keys is that of a new map of this shape
  pub table : keys_in e.map ≡ new_keys shape
  -- the area begins after the stack, the context and all other areas
  pub start : e.start ≡ STACK_AND_CONTEXT + a.bytes
  -- the distance from one value to the next is the value's size, rounded up to a multiple of eight
  pub stride : e.stride ≡ (shape.value_size + 7) / 8 * 8
  -- the elements are those of a map of this shape, as one word
  pub elements : e.elements ≡ word_of (elements_of shape)
  -- the map has one reference
  pub holds : e.holds ≡ 1

-- the fields with it
abbrev pub with_new : Inside → SpareMaps → ℕ → List (Option ℕ) → Slab StoredMap → Inside
with_new a spares size keys maps = record a { keys = keys; maps = maps; bytes = a.bytes + size; spares = spares }

module _ {a : Inside} {t : LiveMaps} {shape : MapShape} {size handle : ℕ} (r : IsRoom a t shape size handle) where
  view : as_live_maps a ≡ t
  view = r.view

  h : IsWellFormedMaps a
  h = r.whole

  -- the handle is the lowest that has no key
  front : (handle < length a.keys)
      × (is_none (get_or a.keys handle None) ≡ true)
      × ((q : ℕ) → q < handle → is_none (get_or a.keys q None) ≡ false)
  front = position-Some is_none a.keys handle None r.free

  free : get_or a.keys handle None ≡ None
  free = by (get_or a.keys handle None) front.1
    where
      by : (o : Option ℕ) → is_none o ≡ true → o ≡ None
      by None is = refl
      by (Some key) is = absurd (true≢false (sym is))

  -- the free handle is less than MAPS
  pub below : handle < MAPS
  below = let l = front.0 in let long = h.keys.long in omega arith

  lowest : free_handle t ≡ Some handle
  lowest = ap free_handle (sym view) ∙ lowest_is a.keys a.maps h.keys ∙ r.free

  empty : get_or (stored_in a) handle None ≡ None
  empty = no_key a.maps a.keys handle free

  no_fault_here : create_fault t shape ≡ None
  no_fault_here =
      ap (λ (u : LiveMaps). create_fault u shape) (sym view)
      ∙ no_fault (as_live_maps a) shape (ap is_none (ap free_handle view ∙ lowest))
      (let s = h.sum in let z = r.size_is in let m = r.room in omega arith)

  -- before the creation, the handle has no live map
  pub was_none : live_at t handle ≡ None
  was_none = ap (λ (u : LiveMaps). live_at u handle) (sym view) ∙ none_by (stored_in a) (stored_in a) handle empty

  -- memory was refused
  pub creates_none : Creates (create_fault t shape) t shape (Err Memory) (as_live_maps (record a { refused = true }))
  creates_none =
      subst (λ (o : Option MapFault). Creates o t shape (Err Memory) (as_live_maps (record a { refused = true })))
      (sym no_fault_here)
      (ap (λ (u : LiveMaps). let v : LiveMaps = record { maps = u.maps; refused = true } in v) view)

  -- there is room for one more map in the slab
  pub has_room : slab_len a.maps + 1 ≤ a.maps.capacity
  has_room =
      let few = fewer_keys a.keys handle front.0 free in
      let all = h.keys.all in
      let long = h.keys.long in
      let room = h.room in
      omega arith

  module _ {spares : SpareMaps} {keys : List (Option ℕ)} {maps : Slab StoredMap} {key : ℕ}
      {e : StoredMap}
      (d : IsAdded a shape spares keys maps handle key e) where
    abbrev after : Inside
    after = with_new a spares size keys maps

    stride : e.stride ≡ (shape.value_size + 7) / 8 * 8
    stride = d.stride

    there : get_or (stored_in after) handle None ≡ Some e
    there =
        ap (λ (ks : List (Option ℕ)). get_or (by_handle ks maps) handle None) d.keys_are
        ∙ added_here a.keys a.maps maps h.keys handle key free below d.was e d.there d.others

    others : (q : ℕ) → q ≢ handle → get_or (stored_in after) q None ≡ get_or (stored_in a) q None
    others q ne =
        ap (λ (ks : List (Option ℕ)). get_or (by_handle ks maps) q None) d.keys_are
        ∙ added_others a.keys a.maps maps h.keys handle key free below d.was e d.there d.others q ne

    live_new : live_at (as_live_maps after) handle ≡ Some (live_of e)
    live_new = live_by (stored_in after) (stored_in after) handle e there

    others_stay : (q : ℕ) → q ≢ handle → live_at (as_live_maps after) q ≡ live_at t q
    others_stay q ne =
        others_by (stored_in a) (stored_in after) handle others q ne ∙ ap (λ (u : LiveMaps). live_at u q) view

    -- a map that was live before the creation is not changed
    pub older_stay : (k : ℕ) → IsSome (live_at t k) → live_at (as_live_maps after) k ≡ live_at t k
    older_stay k live = others_stay k (λ e. true≢false (sym live ∙ ap is_some (ap (live_at t) e ∙ was_none)))

    keys_one : keys_at (as_live_maps after) handle ≡ new_keys shape
    keys_one = seen_of (λ l. l.keys) live_new ∙ d.table

    -- with the new map stored, the result and the effect are those of a `create` that returns the handle
    pub creates_one : Creates (create_fault t shape) t shape (Ok handle) (as_live_maps after)
    creates_one =
        subst (λ (o : Option MapFault). Creates o t shape (Ok handle) (as_live_maps after)) (sym no_fault_here)
        (record {
          lowest = lowest;
          was = was_none;
          live = ap is_some live_new;
          keys = keys_one;
          holds = seen_of (λ l. l.holds) live_new ∙ d.holds;
          others = others_stay;
          refused = ap (λ (u : LiveMaps). u.refused) view;
        })

    value_of : (keys_in e.map).shape.value_size ≡ shape.value_size
    value_of = ap (λ (q : KeyTable). q.shape.value_size) d.table

    round : e.stride ≡ ((keys_in e.map).shape.value_size + 7) / 8 * 8
    round = stride ∙ ap (λ (v : ℕ). (v + 7) / 8 * 8) (sym value_of)

    elements_there : e.elements ≡ word_of (elements_of (keys_in e.map).shape)
    elements_there = d.elements ∙ ap (λ (q : KeyTable). word_of (elements_of q.shape)) (sym d.table)

    -- the invariant of the live maps holds with the new map
    pub whole_one : IsWellFormedMaps after
    whole_one =
        let x : shape_area (keys_in e.map).shape ≡ shape_area shape = ap (λ (q : KeyTable). shape_area q.shape) d.table in
        let room = h.room in
        let same = d.capacity in
        whole_added after handle h others e empty there d.start round elements_there
        (let o = d.holds in omega arith) (subst IsSound (sym d.table) (sound_new shape))
        (let s = r.size_is in omega arith) r.room
        (subst (λ (ks : List (Option ℕ)). AreKeys ks maps) (sym d.keys_are)
        (added_keys a.keys a.maps maps h.keys handle key free below d.was e d.there d.others d.len))
        (omega arith)

    -- with the new map, the values of all live maps lie in the part and do not overlap
    pub laid_one : IsLaid (as_live_maps after)
    laid_one = laid whole_one

    -- its area is after the others
    pub last_one : start_at (as_live_maps after) handle ≡ STACK_AND_CONTEXT + areas t
    last_one = seen_of (λ l. l.start) live_new ∙ d.start ∙ ap (λ (n : ℕ). STACK_AND_CONTEXT + n) (h.sum ∙ ap areas view)

    -- all areas take more bytes than before, by the area of the new map
    pub more_one : areas (as_live_maps after) ≡ areas t + shape_area shape
    more_one =
        let bytes = whole_one.sum in
        let sum = h.sum in
        let seen_bytes = ap areas view in
        let size_is = r.size_is in
        omega arith

    -- ---- the bytes

    module _ (bytes : List ℕ) {later : List ℕ} (long : length bytes ≡ PART)
        (written : later
        ≡ take (STACK_AND_CONTEXT + a.bytes) bytes
        ++ (replicate size 0 ++ drop (STACK_AND_CONTEXT + a.bytes + size) bytes)) where
      enough : STACK_AND_CONTEXT + a.bytes + size ≤ length bytes
      enough = let m = r.room in omega arith

      -- zeros in the new area do not change the stack and the context
      pub front_kept : take STACK_AND_CONTEXT later ≡ take STACK_AND_CONTEXT bytes
      front_kept =
          ap (take STACK_AND_CONTEXT) written
          ∙ front_same bytes (replicate size 0) (STACK_AND_CONTEXT + a.bytes) size
          (length-replicate size 0) enough STACK_AND_CONTEXT (omega arith)

      -- each value of the new map is zeros
      pub cleared_one : (p : ℕ)
          → p < shape.max_entries
          → value_in later (as_live_maps after) handle p ≡ replicate shape.value_size 0
      cleared_one p l =
          let o : offset (live_of e) p ≡ STACK_AND_CONTEXT + a.bytes + p * e.stride =
          offset_of e p ∙ ap (λ (n : ℕ). n + p * e.stride) d.start in
          ap (λ (x : Option LiveMap). take (live_or x).keys.shape.value_size (drop (offset (live_or x) p) later))
          live_new
          ∙ ap (λ (v : ℕ). take v (drop (offset (live_of e) p) later)) value_of
          ∙ ap (λ (n : ℕ). take shape.value_size (drop n later)) o
          ∙ ap (λ (b : List ℕ). take shape.value_size (drop (STACK_AND_CONTEXT + a.bytes + p * e.stride) b)) written
          ∙ zeros bytes (STACK_AND_CONTEXT + a.bytes) size enough (p * e.stride) shape.value_size
          (let x = value_ends shape.value_size shape.max_entries e.stride stride p l in let z = r.size_is in omega arith)

      kept_at : (j p : ℕ) (f : StoredMap)
          → get_or (stored_in a) j None ≡ Some f → p < (keys_in f.map).shape.max_entries
          → take (keys_in f.map).shape.value_size (drop (offset (live_of f) p) later)
          ≡ take (keys_in f.map).shape.value_size (drop (offset (live_of f) p) bytes)
      kept_at j p f at l =
          let i = h.placed j f at in
          let s = (keys_in f.map).shape in
          let o = offset_of f p in
          let x = value_ends s.value_size s.max_entries f.stride i.stride p l in
          let w = i.within in
          ap (λ (b : List ℕ). take s.value_size (drop (offset (live_of f) p) b)) written
          ∙ before_same bytes (replicate size 0) (STACK_AND_CONTEXT + a.bytes) size
          (length-replicate size 0) enough (offset (live_of f) p)
          s.value_size (omega arith)

      -- zeros in the new area do not change the values of the maps that were live
      pub values_kept : SameValues t bytes (as_live_maps after) later
      values_kept j p old_live new_live l =
          same_or_other j handle
          (λ (s : j ≡ handle). absurd (true≢false (sym old_live ∙ ap is_some (ap (live_at t) s ∙ was_none))))
          (λ (ne : j ≢ handle).
          let f = live_stored a {map = j} view refl old_live in
          let n = others_stay j ne ∙ f.2 in
          let m = seen_of (λ x. x.keys.shape.max_entries) n in
          ap (λ (x : Option LiveMap). take (live_or x).keys.shape.value_size (drop (offset (live_or x) p) later)) n
          ∙ kept_at j p f.0 f.1 (omega arith)
          ∙ ap (λ (x : Option LiveMap). take (live_or x).keys.shape.value_size (drop (offset (live_or x) p) bytes))
          (sym f.2))

      -- with its values in the part, the map of the handle is a new map of this shape whose values are zeros
      pub fresh_one : map_in later (as_live_maps after) handle ≡ new_table (λ i. replicate shape.value_size 0) shape
      fresh_one =
          new_map_in later (as_live_maps after) handle shape (replicate shape.value_size 0) keys_one
          (λ array. cleared_one)

      -- each map that was live still is, with the same keys and values
      pub maps_kept : KeepsMaps t bytes (as_live_maps after) later
      maps_kept k live =
          keeps_live t (as_live_maps after) bytes later k values_kept
          (subst AreSound view (sound_at h) k) (older_stay k live)
          live

-- ---- a creation that returns a key

-- if `create` returns a handle, this was the lowest free one, has a new map, and nothing else has changed
pub created : (f : Option MapFault) (old new : LiveMaps) (s : MapShape) (k : ℕ)
    → Creates f old s (Ok k) new → IsCreated old s k new
created None old new s k h = h
created (Some f) old new s k h = cc (h.0)

-- ---- what a caller can conclude

-- if there is room, a creation is not refused with `NoSpace`
pub not_full : (old new : LiveMaps) (s : MapShape) (answer : Result ℕ MapFault)
    → create_fault old s ≡ None
    → Creates (create_fault old s) old s answer new
    → answer ≢ Err NoSpace
not_full old new s answer none made e =
    subst (λ (a : Result ℕ MapFault). Creates None old s a new) e
    (subst (λ (f : Option MapFault). Creates f old s answer new) none made)

-- a new map is at no higher handle than one that was free
pub made_low : (f : Option MapFault) (old new : LiveMaps) (s : MapShape) (k : ℕ)
    (answer : Result ℕ MapFault)
    → live_at old k ≡ None → Creates f old s answer new
    → IfOk answer (λ made. made ≤ k)
made_low f old new s k (Ok made) none h = lowest_most made k old (created f old new s made h).lowest none
made_low f old new s k (Err e) none h = tt

-- a refusal changes no map
pub maps_refused : (f : Option MapFault) (old new : LiveMaps) (s : MapShape) (e : MapFault)
    → Creates f old s (Err e) new → new.maps ≡ old.maps
maps_refused (Some f) old new s e h = ap (λ (t : LiveMaps). t.maps) h.1
maps_refused None old new s Memory h = ap (λ (t : LiveMaps). t.maps) h
maps_refused None old new s NoEntry h = absurd h
maps_refused None old new s TooBig h = absurd h
maps_refused None old new s Exists h = absurd h
maps_refused None old new s Invalid h = absurd h
maps_refused None old new s NoSpace h = absurd h

-- there is as much room if the same handle is the lowest free one, and the areas take as many bytes
pub same_fault : (old new : LiveMaps) (s : MapShape)
    → free_handle new ≡ free_handle old → areas new ≡ areas old
    → create_fault new s ≡ create_fault old s
same_fault old new s free bytes =
    ap₂ (λ (o : Option ℕ) (n : ℕ). if is_none o || nat_lt LARGEST_SUM (n + shape_area s) then Some NoSpace else None)
    free bytes
