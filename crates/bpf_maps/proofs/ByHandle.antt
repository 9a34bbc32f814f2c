-- The stored map of each handle, after one map or one key is changed.
use Rattle.std.proofs.Common.{◌≡◌, ◌≢◌, ℕ, zero, suc, ◌+◌, ◌<◌, ◌≤◌, ◌⊎◌, inl, inr, List, [], ◌∷◌, length, Option, Some, None, IsSome, is_some}
use Rattle.std.proofs.Common.{option_map, refl, sym, ap, ◌∙◌, get_or, set, arith, cond, count_by, get_or-set_same, get_or-set_other, true≢false, length-set}
use Rattle.std.specs.Prelude.{is_none, position}
use Rattle.std.specs.Option.{option_and_then}
use Rattle.std.proofs.lemmas.Option.{none-some}
use Rattle.std.proofs.lemmas.Bool.{cases_lt}
use Rattle.std.proofs.lemmas.List.{length-map, get_or_past}
use Rattle.std.proofs.lemmas.List.Sums.{sum_by-set, count_by-le-length}
use Rattle.slab.specs.Slab.{Slab, get, slab_len, with_value}
use Rattle.bpf_maps.specs.declared.part.TheConstants.{MAPS}
use Rattle.bpf_maps.specs.declared.stored_map.StoredMap.{StoredMap}
use Rattle.bpf_maps.specs.declared.maps.Maps.TheInside.{Inside}
use Rattle.bpf_maps.specs.Live.{LiveMaps, live_at}
use Rattle.bpf_maps.specs.InMaps.{live_of, live_maps_of, by_handle, stored_in, as_live_maps, AreKeys}
use Rattle.bpf_maps.specs.LiveLaws.{same_lowest}
use Rattle.bpf_maps.proofs.Slots.{at_lives, within, same_or_other, same_at}

-- ---- the map of a handle is the one under its key

module _ (maps : Slab StoredMap) where
  at_handle : (keys : List (Option ℕ)) (p : ℕ)
      → get_or (by_handle keys maps) p None ≡ option_and_then (get maps) (get_or keys p None)
  at_handle [] p = refl
  at_handle (o ∷ os) zero = refl
  at_handle (o ∷ os) (suc p) = at_handle os p

  module _ (keys : List (Option ℕ)) (p : ℕ) where
    -- the stored map of a handle is the one that the slab has under the key of the handle
    pub under_key : (key : ℕ) → get_or keys p None ≡ Some key → get_or (by_handle keys maps) p None ≡ get maps key
    under_key key at = at_handle keys p ∙ ap (option_and_then (get maps)) at

    -- a handle without a key has no stored map
    pub no_key : get_or keys p None ≡ None → get_or (by_handle keys maps) p None ≡ None
    no_key at = at_handle keys p ∙ ap (option_and_then (get maps)) at

-- ---- how many there are after a write

abbrev one_if : {A : Type 0} → Option A → ℕ
one_if o = cond (is_some o) 1 0

module _ {A : Type 0} (xs : List (Option A)) (i : ℕ) where
  counted : (y : Option A)
      → i < length xs
      → count_by is_some (set xs i y) + one_if (get_or xs i None) ≡ count_by is_some xs + one_if y
  counted y l = sum_by-set one_if xs i y None l

  one_in : (x : A) → get_or xs i None ≡ Some x → one_if (get_or xs i None) ≡ 1
  one_in x at = ap one_if at

  in_list : (x : A) → get_or xs i None ≡ Some x → i < length xs
  in_list x at = by_length (cases_lt i (length xs))
    where
      by_length : (i < length xs) ⊎ (length xs ≤ i) → i < length xs
      by_length (inl l) = l
      by_length (inr l) = absurd (none-some x (sym (get_or_past xs i None l) ∙ at))

  -- if a present item of a list is replaced by another, as many items are present as before
  pub replaced_len : (x y : A) → get_or xs i None ≡ Some x → count_by is_some (set xs i (Some y)) ≡ count_by is_some xs
  replaced_len x y at =
      let n : count_by is_some (set xs i (Some y)) + one_if (get_or xs i None) ≡ count_by is_some xs + 1 =
      counted (Some y) (in_list x at) in
      let one : one_if (get_or xs i None) ≡ 1 = one_in x at in
      omega arith

  -- if an item is put at an index without one, one more is present
  pub filled_len : (y : A)
      → i < length xs → get_or xs i None ≡ None
      → count_by is_some (set xs i (Some y)) ≡ count_by is_some xs + 1
  filled_len y l at =
      let n : count_by is_some (set xs i (Some y)) + one_if (get_or xs i None) ≡ count_by is_some xs + 1 =
      counted (Some y) l in
      let none : one_if (get_or xs i None) ≡ 0 = ap one_if at in
      omega arith

  -- if a present item is removed, one fewer is present
  pub emptied_len : (x : A) → get_or xs i None ≡ Some x → count_by is_some (set xs i None) + 1 ≡ count_by is_some xs
  emptied_len x at =
      let n : count_by is_some (set xs i None) + one_if (get_or xs i None) ≡ count_by is_some xs + 0 =
      counted None (in_list x at) in
      let one : one_if (get_or xs i None) ≡ 1 = one_in x at in
      omega arith

-- there are fewer keys than handles if one handle has none
pub fewer_keys : (keys : List (Option ℕ)) (p : ℕ)
    → p < length keys → get_or keys p None ≡ None
    → count_by is_some keys + 1 ≤ length keys
fewer_keys keys p l free =
    let n : count_by is_some (set keys p (Some 0)) ≡ count_by is_some keys + 1 = filled_len keys p 0 l free in
    let most : count_by is_some (set keys p (Some 0)) ≤ length (set keys p (Some 0)) =
    count_by-le-length is_some (set keys p (Some 0)) in
    let long = length-set keys p (Some 0) in
    omega arith

-- ---- which handles have a map

-- the list of stored maps has an entry for each of the MAPS handles
pub by_handle_len : (keys : List (Option ℕ)) (maps : Slab StoredMap)
    → AreKeys keys maps → length (by_handle keys maps) ≡ MAPS
by_handle_len keys maps is = length-map keys _ ∙ is.long

some_mapped : (o : Option StoredMap) → is_some (option_map live_of o) ≡ is_some o
some_mapped None = refl
some_mapped (Some e) = refl

-- a map is live if its handle has a key, and no other is
module _ (keys : List (Option ℕ)) (maps : Slab StoredMap) (is : AreKeys keys maps) where
  -- the list of live maps has an entry for each of the MAPS handles
  pub handles_are : length (live_maps_of (by_handle keys maps)) ≡ MAPS
  handles_are = length-map (by_handle keys maps) _ ∙ by_handle_len keys maps is

  live_where : (p : ℕ) → is_some (get_or (live_maps_of (by_handle keys maps)) p None) ≡ is_some (get_or keys p None)
  live_where p =
      ap is_some (at_lives (by_handle keys maps) p)
      ∙ some_mapped (get_or (by_handle keys maps) p None)
      ∙ by (get_or keys p None) refl
    where
      by : (o : Option ℕ)
          → get_or keys p None ≡ o
          → is_some (get_or (by_handle keys maps) p None) ≡ is_some (get_or keys p None)
      by None at = ap is_some (no_key maps keys p at) ∙ sym (ap is_some at)
      by (Some key) at = ap is_some (under_key maps keys p key at) ∙ is.there p key at ∙ sym (ap is_some at)

  -- the lowest handle that is free is the lowest without a key
  pub lowest_is : position is_none (live_maps_of (by_handle keys maps)) ≡ position is_none keys
  lowest_is = same_lowest (live_maps_of (by_handle keys maps)) keys (handles_are ∙ sym is.long) live_where

-- an option that has no value is None
pub no_value : {A : Type 0} (o : Option A) → ((x : A) → o ≡ Some x → ⊥) → o ≡ None
no_value None h = refl
no_value (Some x) h = absurd (h x refl)

-- the handle of a live map has a key
pub has_key : (a : Inside) {t : LiveMaps} {handle map : ℕ}
    → as_live_maps a ≡ t → handle ≡ map
    → IsSome (live_at t map)
    → IsSome (get_or a.keys handle None)
has_key a {handle = handle} {map = map} view same live = by (get_or a.keys handle None) refl
  where
    by : (o : Option ℕ) → get_or a.keys handle None ≡ o → IsSome o
    by (Some key) at = refl
    by None at =
        absurd (true≢false
        (sym live
        ∙ ap (λ (u : LiveMaps). is_some (live_at u map)) (sym view)
        ∙ ap (λ (p : ℕ). is_some (get_or (live_maps_of (stored_in a)) p None)) (sym same)
        ∙ ap is_some (at_lives (stored_in a) handle ∙ ap (option_map live_of) (no_key a.maps a.keys handle at))))

-- a map is live if and only if its handle has a key
pub live_with_key : (a : Inside) {t : LiveMaps} {handle map : ℕ}
    → as_live_maps a ≡ t → handle ≡ map
    → AreKeys a.keys a.maps
    → is_some (get_or a.keys handle None) ≡ is_some (live_at t map)
live_with_key a {handle = handle} {map = map} view same is =
    sym (live_where a.keys a.maps is handle)
    ∙ ap (λ (p : ℕ). is_some (get_or (live_maps_of (stored_in a)) p None)) same
    ∙ ap (λ (u : LiveMaps). is_some (live_at u map)) view

-- ---- the map under one key is replaced, and the others are not changed

module _ (keys : List (Option ℕ)) (old new : Slab StoredMap) (is : AreKeys keys old) (p key : ℕ)
    (at : get_or keys p None ≡ Some key)
    (others : (j : ℕ) → j ≢ key → get new j ≡ get old j) where
  -- a new map under one handle's key does not change the stored maps of the other handles
  pub others_by_handle : (q : ℕ) → q ≢ p → get_or (by_handle keys new) q None ≡ get_or (by_handle keys old) q None
  others_by_handle q ne = by (get_or keys q None) refl
    where
      by : (o : Option ℕ)
          → get_or keys q None ≡ o
          → get_or (by_handle keys new) q None ≡ get_or (by_handle keys old) q None
      by None e = no_key new keys q e ∙ sym (no_key old keys q e)
      by (Some j) e =
          under_key new keys q j e
          ∙ others j (λ s. ne (is.own q p key (e ∙ ap Some s) at))
          ∙ sym (under_key old keys q j e)

-- it was written through a `&mut`
module _ (keys : List (Option ℕ)) (old : Slab StoredMap) (is : AreKeys keys old) (p key : ℕ)
    (at : get_or keys p None ≡ Some key) (e f : StoredMap) (there : get old key ≡ Some e) where
  abbrev new : Slab StoredMap
  new = with_value old key f

  -- the slab has the new map under the key
  pub changed_stored : get new key ≡ Some f
  changed_stored = get_or-set_same old.slots key (Some f) None (within old.slots key e there)

  -- the maps under the other keys of the slab are not changed
  pub kept_entries : (j : ℕ) → j ≢ key → get new j ≡ get old j
  kept_entries j ne = get_or-set_other old.slots key j (Some f) None ne

  -- the stored map of the handle is the new one
  pub changed_here : get_or (by_handle keys new) p None ≡ Some f
  changed_here = under_key new keys p key at ∙ changed_stored

  -- the stored maps of the other handles are not changed
  pub changed_others : (q : ℕ) → q ≢ p → get_or (by_handle keys new) q None ≡ get_or (by_handle keys old) q None
  changed_others = others_by_handle keys old new is p key at kept_entries

  -- the keys of the handles are still those of the slab
  pub changed_keys : AreKeys keys new
  changed_keys = record {
    long = is.long;
    there = λ q j ej. same_or_other j key
        (λ (s : j ≡ key). ap (λ (i : ℕ). is_some (get new i)) s ∙ ap is_some changed_stored)
        (λ (ne : j ≢ key). ap is_some (kept_entries j ne) ∙ is.there q j ej);
    own = is.own;
    all = replaced_len old.slots key e f there ∙ is.all;
  }

-- ---- a handle gets a key that none has

module _ (keys : List (Option ℕ)) (old new : Slab StoredMap) (is : AreKeys keys old) (p key : ℕ)
    (free : get_or keys p None ≡ None) (below : p < MAPS) (was : get old key ≡ None) (e : StoredMap)
    (there : get new key ≡ Some e)
    (others : (j : ℕ) → j ≢ key → get new j ≡ get old j) where
  abbrev more : List (Option ℕ)
  more = set keys p (Some key)

  in_range : p < length keys
  in_range = let long = is.long in omega arith

  new_key : get_or more p None ≡ Some key
  new_key = get_or-set_same keys p (Some key) None in_range

  other_key : (q : ℕ) → q ≢ p → get_or more q None ≡ get_or keys q None
  other_key q ne = get_or-set_other keys p q (Some key) None ne

  unused : (q j : ℕ) → get_or keys q None ≡ Some j → j ≢ key
  unused q j ej s = true≢false (sym (is.there q j ej) ∙ ap (λ (i : ℕ). is_some (get old i)) s ∙ ap is_some was)

  is_new : (q j : ℕ) → q ≡ p → get_or more q None ≡ Some j → key ≡ j
  is_new q j s ej = same_at more new_key s ej

  -- the stored map of the handle is the one under the new key
  pub added_here : get_or (by_handle more new) p None ≡ Some e
  added_here = under_key new more p key new_key ∙ there

  -- a new key of one handle does not change the stored maps of the other handles
  pub added_others : (q : ℕ) → q ≢ p → get_or (by_handle more new) q None ≡ get_or (by_handle keys old) q None
  added_others q ne = by (get_or keys q None) refl
    where
      by : (o : Option ℕ)
          → get_or keys q None ≡ o
          → get_or (by_handle more new) q None ≡ get_or (by_handle keys old) q None
      by None at = no_key new more q (other_key q ne ∙ at) ∙ sym (no_key old keys q at)
      by (Some j) at =
          under_key new more q j (other_key q ne ∙ at) ∙ others j (unused q j at) ∙ sym (under_key old keys q j at)

  -- if the slab has one map more, the keys of the handles, with the new one, are those of the slab
  pub added_keys : slab_len new ≡ slab_len old + 1 → AreKeys more new
  added_keys one = record {
    long = length-set keys p (Some key) ∙ is.long;
    there = λ q j ej. same_or_other q p
        (λ (s : q ≡ p). ap (λ (i : ℕ). is_some (get new i)) (sym (is_new q j s ej)) ∙ ap is_some there)
        (λ (ne : q ≢ p). let at = sym (other_key q ne) ∙ ej in ap is_some (others j (unused q j at)) ∙ is.there q j at);
    own = λ q r j eq er. same_or_other q p
        (λ (s : q ≡ p). same_or_other r p
        (λ (t : r ≡ p). s ∙ sym t)
        (λ (nr : r ≢ p). absurd (unused r j (sym (other_key r nr) ∙ er) (sym (is_new q j s eq)))))
        (λ (nq : q ≢ p). same_or_other r p
        (λ (t : r ≡ p). absurd (unused q j (sym (other_key q nq) ∙ eq) (sym (is_new r j t er))))
        (λ (nr : r ≢ p). is.own q r j (sym (other_key q nq) ∙ eq) (sym (other_key r nr) ∙ er)));
    all = one ∙ ap (λ (n : ℕ). n + 1) is.all ∙ sym (filled_len keys p key in_range free);
  }

-- ---- a handle loses its key

module _ (keys : List (Option ℕ)) (old new : Slab StoredMap) (is : AreKeys keys old) (p key : ℕ)
    (at : get_or keys p None ≡ Some key) (gap : get new key ≡ None)
    (others : (j : ℕ) → j ≢ key → get new j ≡ get old j) where
  abbrev fewer : List (Option ℕ)
  fewer = set keys p None

  same_less : {m n : ℕ} → m + 1 ≡ n + 1 → m ≡ n
  same_less e = omega arith

  lost : get_or fewer p None ≡ None
  lost = get_or-set_same keys p None None (in_list keys p key at)

  kept_key : (q : ℕ) → q ≢ p → get_or fewer q None ≡ get_or keys q None
  kept_key q ne = get_or-set_other keys p q None None ne

  another : (q j : ℕ) → q ≢ p → get_or keys q None ≡ Some j → j ≢ key
  another q j ne ej s = ne (is.own q p key (ej ∙ ap Some s) at)

  not_lost : (q j : ℕ) → get_or fewer q None ≡ Some j → q ≢ p
  not_lost q j ej s = none-some j (sym lost ∙ ap (λ (i : ℕ). get_or fewer i None) (sym s) ∙ ej)

  -- the handle that lost its key has no stored map
  pub removed_here : get_or (by_handle fewer new) p None ≡ None
  removed_here = no_key new fewer p lost

  -- the loss of one handle's key does not change the stored maps of the other handles
  pub removed_others : (q : ℕ) → q ≢ p → get_or (by_handle fewer new) q None ≡ get_or (by_handle keys old) q None
  removed_others q ne = by (get_or keys q None) refl
    where
      by : (o : Option ℕ)
          → get_or keys q None ≡ o
          → get_or (by_handle fewer new) q None ≡ get_or (by_handle keys old) q None
      by None e = no_key new fewer q (kept_key q ne ∙ e) ∙ sym (no_key old keys q e)
      by (Some j) e =
          under_key new fewer q j (kept_key q ne ∙ e) ∙ others j (another q j ne e) ∙ sym (under_key old keys q j e)

  -- if the slab has one map less, the keys of the handles, without the lost one, are those of the slab
  pub removed_keys : slab_len new + 1 ≡ slab_len old → AreKeys fewer new
  removed_keys one = record {
    long = length-set keys p None ∙ is.long;
    there = λ q j ej.
        let ne = not_lost q j ej in
        let was = sym (kept_key q ne) ∙ ej in
        ap is_some (others j (another q j ne was)) ∙ is.there q j was;
    own = λ q r j eq er.
        is.own q r j (sym (kept_key q (not_lost q j eq)) ∙ eq) (sym (kept_key r (not_lost r j er)) ∙ er);
    all = same_less (one ∙ is.all ∙ sym (emptied_len keys p key at));
  }
