-- A live map among the others.
use Rattle.std.proofs.Common.{◌≡◌, ◌≢◌, ℕ, zero, suc, ◌+◌, ◌<◌, List, [], ◌∷◌, length, take, drop, Option, Some, None, option_map, refl}
use Rattle.std.proofs.Common.{sym, ap, ◌∙◌, get_or, arith, Bool, true, false, IsSome, is_some, nat_eq, eqb-true, eq-eqb, true≢false, ◌*◌}
use Rattle.std.proofs.lemmas.Option.{none-some, same_Some}
use Rattle.bpf_maps.specs.declared.stored_map.StoredMap.{StoredMap}
use Rattle.bpf_maps.specs.Live.{LiveMap, LiveMaps, live_at, live_or, shape_at, offset, offset_at, value_in, SameAreas}
use Rattle.bpf_maps.specs.InMaps.{live_of, live_maps_of}

-- the live map at an index is the stored map at this index, as contracts see it
pub at_lives : (xs : List (Option StoredMap)) (k : ℕ)
    → get_or (live_maps_of xs) k None ≡ option_map live_of (get_or xs k None)
at_lives [] k = refl
at_lives (x ∷ xs) zero = refl
at_lives (x ∷ xs) (suc k) = at_lives xs k

-- an index with a stored map is less than the length of the list
pub within : (xs : List (Option StoredMap)) (k : ℕ) (e : StoredMap) → get_or xs k None ≡ Some e → k < length xs
within [] k e h = absurd (none-some e h)
within (x ∷ xs) zero e h = omega arith
within (x ∷ xs) (suc k) e h = let r = within xs k e h in omega arith

-- a live map as it is stored
pub stored_of : (xs : List (Option StoredMap)) (k : ℕ) (l : LiveMap)
    → get_or (live_maps_of xs) k None ≡ Some l
    → (e : StoredMap) × (get_or xs k None ≡ Some e) × (live_of e ≡ l)
stored_of xs k l h = by (get_or xs k None) refl
  where
    by : (o : Option StoredMap) → get_or xs k None ≡ o → (e : StoredMap) × (get_or xs k None ≡ Some e) × (live_of e ≡ l)
    by None e = absurd (none-some l (sym (ap (option_map live_of) e) ∙ sym (at_lives xs k) ∙ h))
    by (Some x) e = (x, e, same_Some (live_of x) l (sym (ap (option_map live_of) e) ∙ sym (at_lives xs k) ∙ h))

-- an index with a live map has a stored map
pub some_stored : (xs : List (Option StoredMap)) (k : ℕ)
    → IsSome (get_or (live_maps_of xs) k None) → (e : StoredMap) × (get_or xs k None ≡ Some e)
some_stored xs k h = by (get_or xs k None) refl
  where
    by : (o : Option StoredMap) → get_or xs k None ≡ o → (e : StoredMap) × (get_or xs k None ≡ Some e)
    by None e = absurd (true≢false (sym h ∙ ap is_some (at_lives xs k ∙ ap (option_map live_of) e)))
    by (Some x) e = (x, e)

module _ (xs ys : List (Option StoredMap)) (k : ℕ) where
  -- an index with a stored map has this map as its live map
  pub live_by : (e : StoredMap) → get_or xs k None ≡ Some e → get_or (live_maps_of xs) k None ≡ Some (live_of e)
  live_by e at = at_lives xs k ∙ ap (option_map live_of) at

  -- an index without a stored map has no live map
  pub none_by : get_or xs k None ≡ None → get_or (live_maps_of xs) k None ≡ None
  none_by at = at_lives xs k ∙ ap (option_map live_of) at

  -- the other slots
  pub others_by : ((l : ℕ) → l ≢ k → get_or ys l None ≡ get_or xs l None)
      → (l : ℕ) → l ≢ k
      → get_or (live_maps_of ys) l None ≡ get_or (live_maps_of xs) l None
  others_by h l ne = at_lives ys l ∙ ap (option_map live_of) (h l ne) ∙ sym (at_lives xs l)

-- a value has the same offset in two maps with equal starts and equal distances of values
pub offset_same : (l m : LiveMap) (p : ℕ) → l.start ≡ m.start → l.stride ≡ m.stride → offset l p ≡ offset m p
unfolding offset
offset_same l m p e f = λ i. e i + p * f i

-- ---- the same areas

-- for a handle with a live map, `live_or` returns this map
pub live_is : (t : LiveMaps) (k : ℕ) → IsSome (live_at t k) → live_at t k ≡ Some (live_or (live_at t k))
live_is t k live = by (live_at t k) live
  where
    by : (o : Option LiveMap) → IsSome o → o ≡ Some (live_or o)
    by None h = absurd (true≢false (sym h))
    by (Some l) h = refl

-- they keep the address of each value, and its bytes
module _ (old new : LiveMaps) (k : ℕ) (areas : SameAreas old new) (live : IsSome (live_at new k)) where
  -- the offset of each value is not changed
  pub offsets_stay : (p : ℕ) → offset_at new k p ≡ offset_at old k p
  offsets_stay p =
      let m = areas k (live_or (live_at new k)) (live_is new k live) in
      offset_same (live_or (live_at new k)) m.0 p m.3 m.4 ∙ ap (λ (o : Option LiveMap). offset (live_or o) p) (sym m.1)

  shape_stays : shape_at new k ≡ shape_at old k
  shape_stays =
      let m = areas k (live_or (live_at new k)) (live_is new k live) in
      m.2 ∙ ap (λ (o : Option LiveMap). (live_or o).keys.shape) (sym m.1)

  -- in the same bytes of the part, each value is not changed
  pub value_stays : (part : List ℕ) (p : ℕ) → value_in part new k p ≡ value_in part old k p
  value_stays part p =
      ap (λ (n : ℕ). take (shape_at new k).value_size (drop n part)) (offsets_stay p)
      ∙ ap (λ s. take s.value_size (drop (offset_at old k p) part)) shape_stays

-- two keys are equal or different
pub same_or_other : {P : Type 0} (j k : ℕ) → (j ≡ k → P) → (j ≢ k → P) → P
same_or_other {P} j k f g = by (nat_eq j k) refl
  where
    by : (b : Bool) → nat_eq j k ≡ b → P
    by true e = f (eqb-true j k e)
    by false e = g (λ q. true≢false (sym (eq-eqb j k q) ∙ e))

-- an option has at most one value
pub same_some : {A : Type 0} {o : Option A} {l m : A} → o ≡ Some l → o ≡ Some m → l ≡ m
same_some {l = l} {m = m} e f = same_Some l m (sym e ∙ f)

-- an index has one entry
pub same_at : {A : Type 0} (xs : List (Option A)) {j k : ℕ} {f g : A}
    → get_or xs k None ≡ Some f → j ≡ k → get_or xs j None ≡ Some g → f ≡ g
same_at xs there same at = same_some there (ap (λ (i : ℕ). get_or xs i None) (sym same) ∙ at)

-- one map that keeps its shape and its area
pub one_changed : (old new : LiveMaps) (k : ℕ) (a b : LiveMap)
    → live_at old k ≡ Some a → live_at new k ≡ Some b
    → b.keys.shape ≡ a.keys.shape → b.start ≡ a.start
    → b.stride ≡ a.stride
    → ((j : ℕ) → j ≢ k → live_at new j ≡ live_at old j)
    → SameAreas old new
one_changed old new k a b at bt shape start stride others j l h =
    same_or_other j k
    (λ (q : j ≡ k). let is : l ≡ b = same_some (ap (live_at new) (sym q) ∙ h) bt in (
      a,
      ap (live_at old) q ∙ at,
      ap (λ (x : LiveMap). x.keys.shape) is ∙ shape,
      ap (λ (x : LiveMap). x.start) is ∙ start,
      ap (λ (x : LiveMap). x.stride) is ∙ stride,
    ))
    (λ (ne : j ≢ k). (l, sym (others j ne) ∙ h, refl, refl, refl))
