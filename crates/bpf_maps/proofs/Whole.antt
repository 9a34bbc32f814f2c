-- The invariant of the live maps, which each change preserves.
use Rattle.std.proofs.Common.{◌≡◌, ◌≢◌, ℕ, ◌+◌, ◌*◌, ◌/◌, ◌%◌, ◌<◌, ◌≤◌, ◌⊎◌, Bool, Option, Some, None}
use Rattle.std.proofs.Common.{IsSome, option_map, refl, sym, ap, subst, ◌∙◌, arith, get_or, ⊎_elim, inl, inr}
use Rattle.std.proofs.lemmas.Option.{none-some, same_Some}
use Rattle.tagged_model.specs.declared.shape.MapShape.{MapShape}
use Rattle.tagged_model.specs.Shape.{area}
use Rattle.bpf_maps.specs.declared.part.TheConstants.{STACK_AND_CONTEXT, LARGEST_SUM, MAPS}
use Rattle.bpf_maps.specs.declared.stored_map.StoredMap.{StoredMap}
use Rattle.bpf_maps.specs.declared.spare_maps.SpareMaps.{SpareMaps}
use Rattle.bpf_maps.specs.declared.maps.Maps.TheInside.{Inside}
use Rattle.bpf_maps.specs.BpfMap.{keys_in}
use Rattle.bpf_maps.specs.KeyTable.{IsSound}
use Rattle.bpf_maps.specs.Elements.{elements_of, word_of}
use Rattle.bpf_maps.specs.Live.{LiveMap, live_at, live_or, keys_at, offset, LiesInPart, IsLaid}
use Rattle.bpf_maps.specs.Live.{IsPacked, area_of, areas, StandsBefore, start_without, map_without}
use Rattle.bpf_maps.specs.Sum.{weight}
use Rattle.bpf_maps.specs.InMaps.{live_of, live_maps_of, stored_in, as_live_maps, AreKeys, closed_up, IsInItsArea, IsWellFormedMaps}
use Rattle.bpf_maps.proofs.Slots.{at_lives, stored_of, some_stored, live_by, none_by, others_by, same_or_other, same_at}
use Rattle.bpf_maps.proofs.Totals.{total_but_one}
use Rattle.bpf_maps.proofs.InAreas.{area_aligned, value_ends, element_inside, apart_elements, before_or_behind, apart_still}

-- ---- the values do not overlap

abbrev stored_at : Inside → ℕ → StoredMap → Type 0
stored_at a k e = get_or (stored_in a) k None ≡ Some e

abbrev AreApart : LiveMap → LiveMap → Type 0
AreApart l m = StandsBefore l m ⊎ StandsBefore m l

-- the offset of a value is the start of the area plus the distance of values times the element
pub offset_of : (e : StoredMap) (p : ℕ) → offset (live_of e) p ≡ e.start + p * e.stride
unfolding offset
offset_of e p = refl

-- after an area is removed, the offset of a value of another map is counted from the new start of its area
pub offset_without : (gone e : StoredMap) (p : ℕ)
    → offset (map_without (live_of gone) (live_of e)) p
    ≡ start_without (gone.start + area_of (live_of gone)) (area_of (live_of gone)) e.start + p * e.stride
unfolding offset
offset_without gone e p = refl

abbrev IsApart : LiveMap → LiveMap → ℕ → ℕ → Type 0
IsApart l m p q =
    (offset l p + l.keys.shape.value_size ≤ offset m q) ⊎ (offset m q + m.keys.shape.value_size ≤ offset l p)

module _ {a : Inside} (h : IsWellFormedMaps a) where
  inside : (k p : ℕ) (e : StoredMap)
      → stored_at a k e → p < (keys_in e.map).shape.max_entries
      → LiesInPart (offset (live_of e) p) (keys_in e.map).shape.value_size
  inside k p e at l =
      let i = h.placed k e at in
      let s = (keys_in e.map).shape in
      subst (λ (o : ℕ). LiesInPart o s.value_size) (sym (offset_of e p))
      (element_inside s.value_size s.max_entries e.stride i.stride e.start a.bytes p i.behind i.aligned i.within h.few l)

  apart_in_one : (k p q : ℕ) (e : StoredMap) → stored_at a k e → p ≢ q → IsApart (live_of e) (live_of e) p q
  apart_in_one k p q e at ne =
      let i = h.placed k e at in
      let op = offset_of e p in
      let oq = offset_of e q in
      ⊎_elim (λ x. inl (omega arith)) (λ x. inr (omega arith))
      (apart_elements (keys_in e.map).shape.value_size e.stride e.start p q i.stride ne)

  apart_in_two : (k j p q : ℕ) (e f : StoredMap)
      → stored_at a k e → stored_at a j f
      → k ≢ j → p < (keys_in e.map).shape.max_entries
      → q < (keys_in f.map).shape.max_entries
      → IsApart (live_of e) (live_of f) p q
  apart_in_two k j p q e f at bt ne l m =
      let s = (keys_in e.map).shape in
      let t = (keys_in f.map).shape in
      let op = offset_of e p in
      let oq = offset_of f q in
      let x = value_ends s.value_size s.max_entries e.stride (h.placed k e at).stride p l in
      let y = value_ends t.value_size t.max_entries f.stride (h.placed j f bt).stride q m in
      ⊎_elim (λ z. inl (omega arith)) (λ z. inr (omega arith)) (h.apart k j e f at bt ne)

  apart : (k j p q : ℕ) (e f : StoredMap)
      → stored_at a k e → stored_at a j f
      → (k ≡ j → p ≢ q) → p < (keys_in e.map).shape.max_entries
      → q < (keys_in f.map).shape.max_entries
      → IsApart (live_of e) (live_of f) p q
  apart k j p q e f at bt ne l m =
      same_or_other k j
      (λ (s : k ≡ j).
      let is = same_at (stored_in a) at (sym s) bt in
      subst (λ (g : StoredMap). IsApart (live_of e) (live_of g) p q) is (apart_in_one k p q e at (ne s)))
      (λ (o : k ≢ j). apart_in_two k j p q e f at bt o l m)

  -- the values of all live maps lie in the part and do not overlap
  pub laid : IsLaid (as_live_maps a)
  laid = record {
    inside = λ k p l at lt.
        let e = stored_of (stored_in a) k l at in
        subst (λ (x : LiveMap). p < x.keys.shape.max_entries → LiesInPart (offset x p) x.keys.shape.value_size)
        e.2 (inside k p e.0 e.1) lt;
    apart = λ k p j q l m at bt pl ql ne.
        let e = stored_of (stored_in a) k l at in
        let f = stored_of (stored_in a) j m bt in
        subst (λ (x : LiveMap). p < x.keys.shape.max_entries → IsApart x m p q) e.2
        (λ (x : p < (keys_in e.0.map).shape.max_entries).
        subst (λ (y : LiveMap). q < y.keys.shape.max_entries → IsApart (live_of e.0) y p q) f.2
        (λ (y : q < (keys_in f.0.map).shape.max_entries). apart k j p q e.0 f.0 e.1 f.1 ne x y)
        ql)
        pl;
  }

  -- the areas of all live maps do not overlap, and lie in as many bytes as they take together
  pub packed : IsPacked (as_live_maps a)
  packed = record {
    inside = λ k l at.
        let e = stored_of (stored_in a) k l at in
        let i = h.placed k e.0 e.1 in
        let within : e.0.start + area_of (live_of e.0) ≤ STACK_AND_CONTEXT + areas (as_live_maps a) =
        let w = i.within in let s = h.sum in omega arith in
        subst (λ (x : LiveMap).
        (STACK_AND_CONTEXT ≤ x.start) × (x.start + area_of x ≤ STACK_AND_CONTEXT + areas (as_live_maps a)))
        e.2 (i.behind, within);
    apart = λ k j l m at bt ne.
        let e = stored_of (stored_in a) k l at in
        let f = stored_of (stored_in a) j m bt in
        subst (λ (x : LiveMap). AreApart x m) e.2
        (subst (λ (y : LiveMap). AreApart (live_of e.0) y) f.2 (h.apart k j e.0 f.0 e.1 f.1 ne));
    stride = λ k l at.
        let e = stored_of (stored_in a) k l at in
        subst (λ (x : LiveMap). x.stride ≡ (x.keys.shape.value_size + 7) / 8 * 8) e.2 (h.placed k e.0 e.1).stride;
  }

-- no two keys of a live map have one element
pub sound_at : {a : Inside} (h : IsWellFormedMaps a) (k : ℕ)
    → IsSome (live_at (as_live_maps a) k) → IsSound (keys_at (as_live_maps a) k)
sound_at {a} h k live =
    let e = some_stored (stored_in a) k live in
    subst (λ (o : Option LiveMap). IsSound (live_or o).keys)
    (sym (live_by (stored_in a) (stored_in a) k e.0 e.1))
    (h.placed k e.0 e.1).sound

-- no field but `refused` and the spare maps is changed
pub whole_refused : {a : Inside} {refused : Bool} {spares : SpareMaps}
    → IsWellFormedMaps a → IsWellFormedMaps (record a { refused = refused; spares = spares })
whole_refused h = record {
  keys = h.keys;
  room = h.room;
  placed = h.placed;
  apart = h.apart;
  sum = h.sum;
  few = h.few;
  aligned = h.aligned;
}

-- ---- the map of one handle is changed

module _ {a : Inside} (b : Inside) (k : ℕ) (h : IsWellFormedMaps a)
    (others : (j : ℕ) → j ≢ k → get_or (stored_in b) j None ≡ get_or (stored_in a) j None) where
  still : (j : ℕ) (e : StoredMap) → j ≢ k → stored_at b j e → stored_at a j e
  still j e ne at = sym (others j ne) ∙ at

  -- a property of the map of this handle and of all others is a property of each map
  of_each : (P : StoredMap → Type 0) {f : StoredMap}
      → stored_at b k f → P f
      → ((j : ℕ) (g : StoredMap) → stored_at a j g → P g)
      → (j : ℕ) (g : StoredMap) → stored_at b j g
      → P g
  of_each P bt here there j g gt =
      same_or_other j k
      (λ (s : j ≡ k). subst P (same_at (stored_in b) bt s gt) here)
      (λ (o : j ≢ k). there j g (still j g o gt))

  changed : areas (as_live_maps b) + weight area_of (get_or (live_maps_of (stored_in a)) k None)
      ≡ areas (as_live_maps a) + weight area_of (get_or (live_maps_of (stored_in b)) k None)
  changed =
      total_but_one area_of k (live_maps_of (stored_in a)) (live_maps_of (stored_in b))
      (λ j ne. ap (weight area_of) (others_by (stored_in a) (stored_in b) k others j ne))

  -- a map that keeps its area
  module _ (e f : StoredMap) (at : stored_at a k e) (bt : stored_at b k f)
      (start : f.start ≡ e.start) (stride : f.stride ≡ e.stride)
      (elements : f.elements ≡ e.elements)
      (shape : (keys_in f.map).shape ≡ (keys_in e.map).shape)
      (held : 1 ≤ f.holds) (sound : IsSound (keys_in f.map)) (bytes : b.bytes ≡ a.bytes) where
    same_area : area_of (live_of f) ≡ area_of (live_of e)
    same_area = ap (λ (s : MapShape). area s.value_size s.max_entries) shape

    -- all areas take as many bytes as before
    pub same_areas : areas (as_live_maps b) ≡ areas (as_live_maps a)
    same_areas =
        let c = changed in
        let s = same_area in
        let x = ap (weight area_of) (live_by (stored_in a) (stored_in b) k e at) in
        let y = ap (weight area_of) (live_by (stored_in b) (stored_in b) k f bt) in
        omega arith

    placed_replaced : (j : ℕ) (g : StoredMap) → stored_at b j g → IsInItsArea b.bytes g
    placed_replaced j g gt =
        subst (λ (n : ℕ). IsInItsArea n g) (sym bytes) (of_each (IsInItsArea a.bytes) bt placed_new h.placed j g gt)
      where
        placed_new : IsInItsArea a.bytes f
        placed_new =
            let i = h.placed k e at in
            record {
              behind = let z = i.behind in omega arith;
              within = let z = i.within in let s = same_area in omega arith;
              aligned = ap (λ (n : ℕ). n % 8) start ∙ i.aligned;
              stride = stride ∙ i.stride ∙ ap (λ s. (s.value_size + 7) / 8 * 8) (sym shape);
              elements = elements ∙ i.elements ∙ ap (λ s. word_of (elements_of s)) (sym shape);
              held = held;
              sound = sound;
            }

    -- a map after the change has the area of the one of the same handle before it
    before : (j : ℕ) (g : StoredMap)
        → stored_at b j g
        → (x : StoredMap) × (stored_at a j x) × (x.start ≡ g.start) × (area_of (live_of x) ≡ area_of (live_of g))
    before j g gt =
        same_or_other j k
        (λ (s : j ≡ k).
        let is = same_at (stored_in b) bt s gt in (
          e,
          ap (λ (i : ℕ). get_or (stored_in a) i None) s ∙ at,
          sym start ∙ ap (λ (x : StoredMap). x.start) is,
          sym same_area ∙ ap (λ (x : StoredMap). area_of (live_of x)) is,
        ))
        (λ (o : j ≢ k). (g, still j g o gt, refl, refl))

    apart_replaced : (i j : ℕ) (g l : StoredMap)
        → stored_at b i g → stored_at b j l → i ≢ j → AreApart (live_of g) (live_of l)
    apart_replaced i j g l gt lt ne =
        let x = before i g gt in
        let y = before j l lt in
        let xs = x.2 in
        let xa = x.3 in
        let ys = y.2 in
        let ya = y.3 in
        ⊎_elim (λ z. inl (omega arith)) (λ z. inr (omega arith)) (h.apart i j x.0 y.0 x.1 y.1 ne)

    -- the invariant of the live maps holds after a map is replaced by one with the same shape and area
    pub whole_replaced : AreKeys b.keys b.maps → MAPS ≤ b.maps.capacity → IsWellFormedMaps b
    whole_replaced keys room = record {
      keys = keys;
      room = room;
      placed = placed_replaced;
      apart = apart_replaced;
      sum = bytes ∙ h.sum ∙ sym same_areas;
      few = let f = h.few in omega arith;
      aligned = ap (λ (n : ℕ). n % 8) bytes ∙ h.aligned;
    }

  -- a map that is new
  module _ (e : StoredMap) (at : get_or (stored_in a) k None ≡ None) (bt : stored_at b k e) where
    -- all areas take more bytes than before, by the area of the new map
    pub more_areas : areas (as_live_maps b) ≡ areas (as_live_maps a) + area_of (live_of e)
    more_areas =
        let c = changed in
        let x = ap (weight area_of) (none_by (stored_in a) (stored_in b) k at) in
        let y = ap (weight area_of) (live_by (stored_in b) (stored_in b) k e bt) in
        omega arith

  -- its area is after the others
  module _ (e : StoredMap) (at : get_or (stored_in a) k None ≡ None) (bt : stored_at b k e)
      (start : e.start ≡ STACK_AND_CONTEXT + a.bytes)
      (stride : e.stride ≡ ((keys_in e.map).shape.value_size + 7) / 8 * 8)
      (elements : e.elements ≡ word_of (elements_of (keys_in e.map).shape))
      (held : 1 ≤ e.holds) (sound : IsSound (keys_in e.map))
      (bytes : b.bytes ≡ a.bytes + area_of (live_of e))
      (few : b.bytes ≤ LARGEST_SUM) where
    aligned_now : (a.bytes + area_of (live_of e)) % 8 ≡ 0
    aligned_now =
        let al = h.aligned in
        let r = area_aligned (keys_in e.map).shape.value_size (keys_in e.map).shape.max_entries in
        omega arith

    placed_added : (j : ℕ) (g : StoredMap) → stored_at b j g → IsInItsArea b.bytes g
    placed_added =
        of_each (IsInItsArea b.bytes) bt
        (record {
          behind = omega arith;
          within = omega arith;
          aligned = let al = h.aligned in omega arith;
          stride = stride;
          elements = elements;
          held = held;
          sound = sound;
        })
        (λ j g at.
        let i = h.placed j g at in
        record {
          behind = i.behind;
          within = let w = i.within in omega arith;
          aligned = i.aligned;
          stride = i.stride;
          elements = i.elements;
          held = i.held;
          sound = i.sound;
        })

    is_new : (j : ℕ) (g : StoredMap) → j ≡ k → stored_at b j g → g ≡ e
    is_new j g s gt = sym (same_at (stored_in b) bt s gt)

    -- the others are before it
    stands_last : (j : ℕ) (g : StoredMap) → j ≢ k → stored_at b j g → StandsBefore (live_of g) (live_of e)
    stands_last j g o gt = let w = (h.placed j g (still j g o gt)).within in omega arith

    apart_added : (i j : ℕ) (g l : StoredMap)
        → stored_at b i g → stored_at b j l → i ≢ j → AreApart (live_of g) (live_of l)
    apart_added i j g l gt lt ne =
        same_or_other i k
        (λ (s : i ≡ k).
        inr (subst (λ (x : StoredMap). StandsBefore (live_of l) (live_of x)) (sym (is_new i g s gt))
        (stands_last j l (λ (t : j ≡ k). ne (s ∙ sym t)) lt)))
        (λ (o : i ≢ k). same_or_other j k
        (λ (t : j ≡ k).
        inl (subst (λ (x : StoredMap). StandsBefore (live_of g) (live_of x)) (sym (is_new j l t lt))
        (stands_last i g o gt)))
        (λ (u : j ≢ k). h.apart i j g l (still i g o gt) (still j l u lt) ne))

    -- the invariant of the live maps holds after a map is added whose area is after the others
    pub whole_added : AreKeys b.keys b.maps → MAPS ≤ b.maps.capacity → IsWellFormedMaps b
    whole_added keys room = record {
      keys = keys;
      room = room;
      placed = placed_added;
      apart = apart_added;
      sum = let s = h.sum in let m = more_areas e at bt in omega arith;
      few = few;
      aligned = ap (λ (n : ℕ). n % 8) bytes ∙ aligned_now;
    }

-- ---- a map is removed, and those after it move down

-- a map that was moved down, before it was moved
pub opened_up : (end size : ℕ) (o : Option StoredMap) (g : StoredMap)
    → option_map (closed_up end size) o ≡ Some g
    → (f : StoredMap) × (o ≡ Some f) × (closed_up end size f ≡ g)
opened_up end size None g h = absurd (none-some g h)
opened_up end size (Some f) g h = (f, refl, same_Some (closed_up end size f) g h)

module _ {a : Inside} (b : Inside) (k : ℕ) (h : IsWellFormedMaps a) (e : StoredMap)
    (at : stored_at a k e) (bt : get_or (stored_in b) k None ≡ None)
    (closed : (j : ℕ)
    → j ≢ k
    → get_or (stored_in b) j None
    ≡ option_map (closed_up (e.start + area_of (live_of e)) (area_of (live_of e))) (get_or (stored_in a) j None))
    (bytes : b.bytes + area_of (live_of e) ≡ a.bytes) where
  abbrev end : ℕ
  end = e.start + area_of (live_of e)

  abbrev size : ℕ
  size = area_of (live_of e)

  other : (j : ℕ) (g : StoredMap) → stored_at b j g → j ≢ k
  other j g gt s = none-some g (sym bt ∙ ap (λ (i : ℕ). get_or (stored_in b) i None) (sym s) ∙ gt)

  was : (j : ℕ) (g : StoredMap) → stored_at b j g → (f : StoredMap) × (stored_at a j f) × (closed_up end size f ≡ g)
  was j g gt = opened_up end size (get_or (stored_in a) j None) g (sym (closed j (other j g gt)) ∙ gt)

  same_weight : (o : Option StoredMap)
      → weight area_of (option_map live_of (option_map (closed_up end size) o)) ≡ weight area_of (option_map live_of o)
  same_weight None = refl
  same_weight (Some f) = refl

  -- all areas take fewer bytes than before, by the area of the removed map
  pub less_areas : areas (as_live_maps b) + area_of (live_of e) ≡ areas (as_live_maps a)
  less_areas =
      let c = total_but_one area_of k (live_maps_of (stored_in a)) (live_maps_of (stored_in b))
      (λ j ne.
      ap (weight area_of) (at_lives (stored_in b) j ∙ ap (option_map live_of) (closed j ne))
      ∙ same_weight (get_or (stored_in a) j None)
      ∙ ap (weight area_of) (sym (at_lives (stored_in a) j))) in
      let x = ap (weight area_of) (live_by (stored_in a) (stored_in a) k e at) in
      let y = ap (weight area_of) (none_by (stored_in b) (stored_in b) k bt) in
      omega arith

  -- the area of another map lies before the removed one or after it
  pub beside : (j : ℕ) (f : StoredMap)
      → j ≢ k → stored_at a j f
      → (end ≤ f.start) ⊎ (f.start + area_of (live_of f) ≤ e.start)
  beside j f ne ft = h.apart k j e f at ft (λ s. ne (sym s))

  placed_closed : (j : ℕ) (f : StoredMap) → j ≢ k → stored_at a j f → IsInItsArea b.bytes (closed_up end size f)
  placed_closed j f ne ft =
      let i = h.placed j f ft in
      let p = h.placed k e at in
      let round = area_aligned (keys_in e.map).shape.value_size (keys_in e.map).shape.max_entries in
      let c = before_or_behind e.start size f.start (area_of (live_of f)) (beside j f ne ft) in
      record {
        behind =
            ⊎_elim (λ x. let s = x.1 in let b = i.behind in omega arith)
            (λ x. let l = x.0 in let s = x.1 in let b = p.behind in omega arith)
            c;
        within =
            ⊎_elim (λ x. let l = x.0 in let s = x.1 in let w = p.within in omega arith)
            (λ x. let l = x.0 in let s = x.1 in let w = i.within in omega arith)
            c;
        aligned =
            ⊎_elim (λ x. let s = x.1 in let m = i.aligned in omega arith)
            (λ x. let l = x.0 in let s = x.1 in let m = i.aligned in let q = p.aligned in omega arith)
            c;
        stride = i.stride;
        elements = i.elements;
        held = i.held;
        sound = i.sound;
      }

  placed_removed : (j : ℕ) (g : StoredMap) → stored_at b j g → IsInItsArea b.bytes g
  placed_removed j g gt =
      let f = was j g gt in
      subst (λ (x : StoredMap). IsInItsArea b.bytes x) f.2 (placed_closed j f.0 (other j g gt) f.1)

  apart_removed : (i j : ℕ) (g l : StoredMap)
      → stored_at b i g → stored_at b j l → i ≢ j → AreApart (live_of g) (live_of l)
  apart_removed i j g l gt lt ne =
      let f = was i g gt in
      let m = was j l lt in
      subst (λ (x : StoredMap). AreApart (live_of x) (live_of l)) f.2
      (subst (λ (y : StoredMap). AreApart (live_of (closed_up end size f.0)) (live_of y)) m.2
      (apart_still e.start size f.0.start (area_of (live_of f.0)) m.0.start (area_of (live_of m.0))
      (beside i f.0 (other i g gt) f.1) (beside j m.0 (other j l lt) m.1)
      (h.apart i j f.0 m.0 f.1 m.1 ne)))

  -- the invariant of the live maps holds after a map is removed and the areas after it have moved down
  pub whole_removed : AreKeys b.keys b.maps → MAPS ≤ b.maps.capacity → IsWellFormedMaps b
  whole_removed keys room = record {
    keys = keys;
    room = room;
    placed = placed_removed;
    apart = apart_removed;
    sum = let s = h.sum in let m = less_areas in omega arith;
    few = let f = h.few in omega arith;
    aligned =
        let al = h.aligned in
        let r = area_aligned (keys_in e.map).shape.value_size (keys_in e.map).shape.max_entries in
        omega arith;
  }
