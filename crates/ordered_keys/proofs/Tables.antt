-- The table and the order after an insertion, and after a removal.
use Rattle.std.proofs.Common.{◌≡◌, ◌≢◌, ℕ, zero, suc, ◌+◌, ◌-◌, ◌^◌, ◌<◌, ◌⊎◌, inl, inr, Bool, true, false, List, [], ◌∷◌}
use Rattle.std.proofs.Common.{◌++◌, length, Option, Some, None, is_some, true≢false, slice_get, slice_index_or, option_map}
use Rattle.std.proofs.Common.{option_to_list, refl, sym, ap, subst, ◌∙◌, nat_eq, if◌then◌else◌, arith, length-append}
use Rattle.std.proofs.Math.ListN.{set, get_or, length-set}
use Rattle.std.proofs.lemmas.List.{get_or-set_same, get_or-set_other, get_or-take, length-take-le}
use Rattle.std.proofs.lemmas.Option.{none-some, same_Some, slice_get_within, slice_get-get_or, slice_get-map}
use Rattle.std.specs.List.{swap_remove}
use Rattle.std.specs.Map.{lookup, values_of}
use Rattle.std.specs.Option.{option_map_or}
use Rattle.ordered_keys.specs.Orders.{Order, occurrences, taken_out}
use Rattle.ordered_keys.specs.inside.Links.{AreWithin}
use Rattle.ordered_keys.specs.inside.Ordered.{entry_of, in_order, HaveEntries, IsIndexed}
use Rattle.ordered_keys.proofs.Rings.{times_head, times-append, within_at, taken_length, taken_counts, taken_within, within-append}
use Rattle.ordered_keys.proofs.Links.{decided, single, none}
use Rattle.ordered_keys.proofs.Ordered.{entry_at}

-- ---- entries that are not changed

-- the entries of these elements are in the other table as well
module _ {K : Type 0} (es fs : List (K × ℕ)) (is js : List ℕ) where
  abbrev pub Stay : List ℕ → Type 0
  Stay ps = (p : ℕ) (e : K × ℕ) → 0 < occurrences p ps → entry_of es is p ≡ Some e → entry_of fs js p ≡ Some e

  tail_stays : (p : ℕ) (ps : List ℕ) → Stay (p ∷ ps) → Stay ps
  tail_stays p ps s q e m =
      s q e (let t : occurrences q (p ∷ ps) ≡ (if nat_eq q p then 1 else 0) + occurrences q ps = refl in omega arith)

  -- elements whose entries are in the other table as well have entries in it
  pub have_entries : (ps : List ℕ) → HaveEntries es is ps → Stay ps → HaveEntries fs js ps
  have_entries [] h s = tt
  have_entries (p ∷ ps) h s = ((h.0.0, s p (h.0.0, p) (times_head p ps) h.0.1), have_entries ps h.1 (tail_stays p ps s))

  -- elements whose entries are in the other table as well have the same entries in order
  pub same_entries : (ps : List ℕ) → HaveEntries es is ps → Stay ps → in_order fs js ps ≡ in_order es is ps
  same_entries [] h s = refl
  same_entries (p ∷ ps) h s =
      ap (λ (o : Option (K × ℕ)). option_to_list o ++ in_order fs js ps)
      (s p (h.0.0, p) (times_head p ps) h.0.1 ∙ sym h.0.1)
      ∙ ap (λ (ys : List (K × ℕ)). option_to_list (entry_of es is p) ++ ys) (same_entries ps h.1 (tail_stays p ps s))

  -- if all elements have entries, they do after an element with an entry is put last
  pub have_append : (ps : List ℕ) (p : ℕ) (k : K)
      → HaveEntries fs js ps → entry_of fs js p ≡ Some (k, p)
      → HaveEntries fs js (ps ++ p ∷ [])
  have_append [] p k h e = ((k, e), tt)
  have_append (q ∷ ps) p k h e = (h.0, have_append ps p k h.1 e)

  -- if an element with an entry is put last, the entries in order are those of before with this entry at the end
  pub in_order-append : (ps : List ℕ) (p : ℕ) (k : K)
      → HaveEntries fs js ps → entry_of fs js p ≡ Some (k, p)
      → in_order fs js (ps ++ p ∷ []) ≡ in_order fs js ps ++ (k, p) ∷ []
  in_order-append [] p k h e = ap (λ (o : Option (K × ℕ)). option_to_list o ++ []) e
  in_order-append (q ∷ ps) p k h e =
      ap (λ (o : Option (K × ℕ)). option_to_list o ++ in_order fs js (ps ++ p ∷ [])) h.0.1
      ∙ ap (λ (ys : List (K × ℕ)). (h.0.0, q) ∷ ys) (in_order-append ps p k h.1 e)
      ∙ ap (λ (o : Option (K × ℕ)). (option_to_list o ++ in_order fs js ps) ++ (k, p) ∷ []) (sym h.0.1)

-- ---- an entry after a list

-- the items of a list have the same indices after one more is put last
pub front_stays : {X : Type 0} (xs : List X) (y : X) (i : ℕ) (x : X)
    → slice_get xs i ≡ Some x → slice_get (xs ++ y ∷ []) i ≡ Some x
front_stays [] y i x h = absurd (none-some x h)
front_stays (z ∷ xs) y zero x h = h
front_stays (z ∷ xs) y (suc i) x h = front_stays xs y i x h

-- the item that is put last has the former length of the list for its index
pub last_here : {X : Type 0} (xs : List X) (y : X) → slice_get (xs ++ y ∷ []) (length xs) ≡ Some y
last_here [] y = refl
last_here (z ∷ xs) y = last_here xs y

-- an item of a list to which one is put last is an item of the list or the one that is put last
pub front_or_last : {X : Type 0} (xs : List X) (y : X) (i : ℕ) (x : X)
    → slice_get (xs ++ y ∷ []) i ≡ Some x → (slice_get xs i ≡ Some x) ⊎ ((i ≡ length xs) × (y ≡ x))
front_or_last [] y zero x h = inr (refl, same_Some y x h)
front_or_last [] y (suc i) x h = absurd (none-some x h)
front_or_last (z ∷ xs) y zero x h = inl h
front_or_last (z ∷ xs) y (suc i) x h = elim (front_or_last xs y i x h) [ inl f ↦ inl f | inr l ↦ inr (ap suc l.0, l.1) ]

-- ---- a number is written

written : (xs : List ℕ) (i x : ℕ) → i < length xs → slice_index_or (set xs i x) i 0 ≡ x
written xs i x l = get_or-set_same xs i x 0 l

unwritten : (xs : List ℕ) (i j x : ℕ) → j ≢ i → slice_index_or (set xs i x) j 0 ≡ slice_index_or xs j 0
unwritten xs i j x d = get_or-set_other xs i j x 0 d

-- ---- an insertion

module _ {K : Type 0} (es : List (K × ℕ)) (is : List ℕ) (order : Order) (h : IsIndexed es is order)
    (key : K) (p : ℕ) (l : p < order.bound) (new : occurrences p order.elements ≡ 0)
    (room : length order.elements < order.bound) where
  abbrev es' : List (K × ℕ)
  es' = es ++ (key, p) ∷ []

  abbrev is' : List ℕ
  is' = set is p (length es)

  other : (q : ℕ) → 0 < occurrences q order.elements → q ≢ p
  other q m e =
      let s : occurrences q order.elements ≡ occurrences p order.elements = ap (λ r. occurrences r order.elements) e in
      absurd (omega arith)

  stay : Stay es es' is is' order.elements
  stay q e m at =
      ap (slice_get es') (unwritten is p q (length es) (other q m))
      ∙ front_stays es (key, p) (slice_index_or is q 0) e at

  here : entry_of es' is' p ≡ Some (key, p)
  here = ap (slice_get es') (written is p (length es) (let e = h.long in omega arith)) ∙ last_here es (key, p)

  have : HaveEntries es' is' order.elements
  have = have_entries es es' is is' order.elements h.placed stay

  -- after the insertion, the entries in order are those of before with the new one at the end
  pub shown_inserted : in_order es' is' (order.elements ++ p ∷ []) ≡ in_order es is order.elements ++ (key, p) ∷ []
  shown_inserted =
      in_order-append es es' is is' order.elements p key have here
      ∙ ap (λ (ys : List (K × ℕ)). ys ++ (key, p) ∷ []) (same_entries es es' is is' order.elements h.placed stay)

  -- after the insertion, the elements of the order are those of the entries, and the index of each is known
  pub indexed_inserted : (after : Order)
      → after.bound ≡ order.bound → after.elements ≡ order.elements ++ p ∷ []
      → IsIndexed es' is' after
  indexed_inserted after bound elements = record {
    long = length-set is p (length es) ∙ h.long ∙ sym bound;
    small = subst (λ n. n < 2 ^ 32) (sym bound) h.small;
    many =
        let m = h.many in
        let a = length-append es ((key, p) ∷ []) in
        let b = length-append order.elements (p ∷ []) in
        let c = ap length elements in
        omega arith;
    few = let b = length-append order.elements (p ∷ []) in let c = ap length elements in omega arith;
    within =
        subst (λ n. AreWithin n after.elements) (sym bound)
        (subst (AreWithin order.bound) (sym elements) (within-append order.bound p order.elements h.within l));
    placed = subst (HaveEntries es' is') (sym elements) (have_append es es' is is' order.elements p key have here);
    listed = λ i e at.
        subst (λ (ps : List ℕ). (occurrences e.1 ps ≡ 1) × (slice_index_or is' e.1 0 ≡ i))
        (sym elements) (found i e at);
  }
    where
      found : (i : ℕ) (e : K × ℕ)
          → slice_get es' i ≡ Some e
          → (occurrences e.1 (order.elements ++ p ∷ []) ≡ 1) × (slice_index_or is' e.1 0 ≡ i)
      found i e at = elim (front_or_last es (key, p) i e at) [
        | inl f ↦ let k = h.listed i e f in let d = other e.1 (omega arith) in
            let t = times-append e.1 order.elements (p ∷ []) in let z = none e.1 p d in
            (omega arith, unwritten is p e.1 (length es) d ∙ k.1)
        | inr r ↦
            let q : p ≡ e.1 = ap (λ (x : K × ℕ). x.1) r.1 in
            let one : occurrences p (order.elements ++ p ∷ []) ≡ 1 =
            (let t = times-append p order.elements (p ∷ []) in
            let s = times_head p [] in
            let u = single p p in
            omega arith) in
            let at_p : slice_index_or is' p 0 ≡ length es =
            written is p (length es) (let e = h.long in omega arith) in (
              subst (λ x. occurrences x (order.elements ++ p ∷ []) ≡ 1) q one,
              ap (λ x. slice_index_or is' x 0) (sym q) ∙ at_p ∙ sym r.0,
            )
      ]

-- ---- an entry leaves, and the last takes its place

module _ {X : Type 0} (xs : List X) (i : ℕ) (d : X) (at : slice_get xs i ≡ Some d) where
  abbrev ys : List X
  ys = swap_remove xs i d

  abbrev n : ℕ
  n = length xs - 1

  within : i < length xs
  within = slice_get_within xs i d at

  long : length (set xs i (get_or xs n d)) ≡ length xs
  long = length-set xs i (get_or xs n d)

  -- the list that is left is shorter by one
  pub swapped_length : length ys + 1 ≡ length xs
  swapped_length =
      let l = within in let e = long in let t = length-take-le n (set xs i (get_or xs n d)) (omega arith) in omega arith

  read : (j : ℕ) → j < n → slice_get ys j ≡ Some (get_or (set xs i (get_or xs n d)) j d)
  read j l =
      let e = swapped_length in
      slice_get-get_or ys j d (omega arith)
      ∙ ap (λ (x : X). let o : Option X = Some x in o) (get_or-take n (set xs i (get_or xs n d)) j d l)

  -- each entry but the last has the same index, unless it left
  pub swapped_other : (j : ℕ) → j ≢ i → j < n → slice_get ys j ≡ slice_get xs j
  swapped_other j ne l =
      read j l
      ∙ ap (λ (x : X). let o : Option X = Some x in o) (get_or-set_other xs i j (get_or xs n d) d ne)
      ∙ sym (slice_get-get_or xs j d (omega arith))

  -- the last entry is at the index of the one that left, unless it left itself
  pub swapped_here : i < n → slice_get ys i ≡ slice_get xs n
  swapped_here l =
      read i l
      ∙ ap (λ (x : X). let o : Option X = Some x in o) (get_or-set_same xs i (get_or xs n d) d within)
      ∙ sym (slice_get-get_or xs n d (omega arith))

  -- each index of the list that is left is less than the last index of the former list
  pub swapped_within : (j : ℕ) (x : X) → slice_get ys j ≡ Some x → j < n
  swapped_within j x e = let l = slice_get_within ys j x e in let s = swapped_length in omega arith

-- ---- a removal

module _ {K : Type 0} (es : List (K × ℕ)) (is : List ℕ) (order : Order) (h : IsIndexed es is order)
    (i : ℕ) (key : K) (p : ℕ) (at : slice_get es i ≡ Some (key, p)) where
  abbrev pub left : List (K × ℕ)
  left = swap_remove es i (key, p)

  abbrev pub moved : ℕ
  moved = option_map_or (λ (e : K × ℕ). e.1) (slice_get left i) p

  abbrev pub left_indices : List ℕ
  left_indices = set is moved i

  abbrev last : ℕ
  last = length es - 1

  -- the element of the entry that leaves is in the order once
  pub member : occurrences p order.elements ≡ 1
  member = (h.listed i (key, p) at).0

  index : slice_index_or is p 0 ≡ i
  index = (h.listed i (key, p) at).1

  -- the element that is moved is that of the last entry, or p if the last entry has left
  moved_is : ((k : K) × (i < last) × (slice_get es last ≡ Some (k, moved))) ⊎ ((moved ≡ p) × (i ≡ last))
  moved_is = by (slice_get left i) refl
    where
      by : (o : Option (K × ℕ))
          → slice_get left i ≡ o
          → ((k : K) × (i < last) × (slice_get es last ≡ Some (k, option_map_or (λ (e : K × ℕ). e.1) o p)))
          ⊎ ((option_map_or (λ (e : K × ℕ). e.1) o p ≡ p) × (i ≡ last))
      by None e = inr (refl, by_length (decided i last))
        where
          by_length : (i ≡ last) ⊎ (i ≢ last) → i ≡ last
          by_length (inl q) = q
          by_length (inr d) =
              let w = slice_get_within es i (key, p) at in
              let l : i < last = before_last w d in
              absurd (none-some (get_or es last (key, p))
              (sym e ∙ swapped_here es i (key, p) at l ∙ slice_get-get_or es last (key, p) (omega arith)))
            where
              before_last : i < length es → i ≢ last → i < last
              before_last w d = omega arith
      by (Some e) t =
          let l = swapped_within es i (key, p) at i e t in inl (e.0, l, sym (swapped_here es i (key, p) at l) ∙ t)

  moved_member : 0 < occurrences moved order.elements
  moved_member = elim moved_is [
    | inl m ↦ let k = h.listed last (m.0, moved) m.2 in omega arith
    | inr s ↦ subst (λ q. 0 < occurrences q order.elements) (sym s.0) (let m = member in omega arith)
  ]

  -- the element of the moved entry has an index
  pub moved_within : moved < length is
  moved_within =
      let w = within_at order.bound moved order.elements h.within moved_member in let e = h.long in omega arith

  stay_left : (q : ℕ) (e : K × ℕ)
      → q ≢ p → 0 < occurrences q order.elements
      → entry_of es is q ≡ Some e
      → entry_of left left_indices q ≡ Some e
  stay_left q e d m q_at = elim (decided q moved) [
    | inl same ↦ elim moved_is [
      | inl k ↦
          let index_q : slice_index_or is q 0 ≡ last =
          ap (λ r. slice_index_or is r 0) same ∙ (h.listed last (k.0, moved) k.2).1 in
          ap (λ r. entry_of left left_indices r) same ∙ ap (slice_get left) (written is moved i moved_within)
          ∙ swapped_here es i (key, p) at k.1 ∙ ap (slice_get es) (sym index_q) ∙ q_at
      | inr s ↦ absurd (d (same ∙ s.0))
    ]
    | inr apart ↦
        let entry = entry_at es is order.elements q h.placed m in
        let j : ℕ = slice_index_or is q 0 in
        let j_i : j ≢ i =
        (λ f. d (ap (λ (x : K × ℕ). x.1) (same_Some (entry.0, q) (key, p) (sym entry.1 ∙ ap (slice_get es) f ∙ at)))) in
        let w = slice_get_within es j (entry.0, q) entry.1 in
        let j_last : j ≢ last = (λ f. elim moved_is [
          | inl k ↦ apart
              (ap (λ (x : K × ℕ). x.1) (same_Some (entry.0, q) (k.0, moved) (sym entry.1 ∙ ap (slice_get es) f ∙ k.2)))
          | inr s ↦ j_i (f ∙ sym s.1)
        ]) in
        ap (slice_get left) (unwritten is moved q i apart)
        ∙ swapped_other es i (key, p) at j j_i (below j w j_last)
        ∙ q_at
  ]
    where
      below : (j : ℕ) → j < length es → j ≢ last → j < last
      below j w d = omega arith

  one_left : (q : ℕ) → 0 < occurrences q (taken_out p order.elements) → (q ≢ p) × (0 < occurrences q order.elements)
  one_left q m =
      let o = member in
      let t = taken_counts p q order.elements (omega arith) in
      (apart t o, omega arith)
    where
      apart : occurrences q (taken_out p order.elements) + occurrences q (p ∷ []) ≡ occurrences q order.elements
          → occurrences p order.elements ≡ 1 → q ≢ p
      apart t o e =
          let s : occurrences q order.elements ≡ occurrences p order.elements =
          ap (λ r. occurrences r order.elements) e in
          let h : 0 < occurrences q (p ∷ []) = subst (λ r. 0 < occurrences q (r ∷ [])) e (times_head q []) in
          absurd (omega arith)

  stays : Stay es left is left_indices (taken_out p order.elements)
  stays q e m q_at = let o = one_left q m in stay_left q e o.0 o.1 q_at

  have_left : HaveEntries es is (taken_out p order.elements)
  have_left = fewer order.elements h.placed
    where
      fewer : (ps : List ℕ) → HaveEntries es is ps → HaveEntries es is (taken_out p ps)
      fewer [] t = tt
      fewer (q ∷ ps) t = by (nat_eq p q) (fewer ps t.1)
        where
          by : (b : Bool)
              → HaveEntries es is (taken_out p ps)
              → HaveEntries es is (if b then ps else q ∷ taken_out p ps)
          by true r = t.1
          by false r = (t.0, r)

  -- the other elements have the same entries in order after the removal
  pub shown_removed :
      in_order left left_indices (taken_out p order.elements) ≡ in_order es is (taken_out p order.elements)
  shown_removed = same_entries es left is left_indices (taken_out p order.elements) have_left stays

  -- after the removal, the elements of the order are those of the entries, and the index of each is known
  pub indexed_removed : (after : Order)
      → after.bound ≡ order.bound
      → after.elements ≡ taken_out p order.elements
      → IsIndexed left left_indices after
  indexed_removed after bound elements = record {
    long = length-set is moved i ∙ h.long ∙ sym bound;
    small = subst (λ n. n < 2 ^ 32) (sym bound) h.small;
    many =
        let m = h.many in
        let s = swapped_length es i (key, p) at in
        let t = taken_length p order.elements (let o = member in omega arith) in
        let c = ap length elements in
        omega arith;
    few =
        let f = h.few in
        let t = taken_length p order.elements (let o = member in omega arith) in
        let c = ap length elements in
        omega arith;
    within =
        subst (λ n. AreWithin n after.elements) (sym bound)
        (subst (AreWithin order.bound) (sym elements) (taken_within order.bound p order.elements h.within));
    placed =
        subst (HaveEntries left left_indices) (sym elements)
        (have_entries es left is left_indices (taken_out p order.elements) have_left stays);
    listed = λ j e e_at.
        subst (λ (ps : List ℕ). (occurrences e.1 ps ≡ 1) × (slice_index_or left_indices e.1 0 ≡ j))
        (sym elements) (found j e e_at (decided j i));
  }
    where
      kept : (q : ℕ) → q ≢ p → occurrences q order.elements ≡ 1 → occurrences q (taken_out p order.elements) ≡ 1
      kept q d o =
          let m = member in
          let t = taken_counts p q order.elements (omega arith) in
          let z = none q p d in
          omega arith

      found : (j : ℕ) (e : K × ℕ)
          → slice_get left j ≡ Some e → (j ≡ i) ⊎ (j ≢ i)
          → (occurrences e.1 (taken_out p order.elements) ≡ 1) × (slice_index_or left_indices e.1 0 ≡ j)
      found j e e_at (inl same) =
          let here : slice_get left i ≡ Some e = ap (slice_get left) (sym same) ∙ e_at in
          let l = swapped_within es i (key, p) at i e here in
          let from : slice_get es last ≡ Some e = sym (swapped_here es i (key, p) at l) ∙ here in
          let k = h.listed last e from in
          let e_p : e.1 ≢ p =
          (λ f.
          absurd (let q : slice_index_or is e.1 0 ≡ slice_index_or is p 0 = ap (λ r. slice_index_or is r 0) f in
          let a = index in
          let b = k.1 in
          omega arith)) in
          let is_moved : moved ≡ e.1 = ap (λ (o : Option (K × ℕ)). option_map_or (λ (e : K × ℕ). e.1) o p) here in (
            kept e.1 e_p k.0,
            ap (λ r. slice_index_or left_indices r 0) (sym is_moved) ∙ written is moved i moved_within ∙ sym same,
          )
      found j e e_at (inr d) =
          let l = swapped_within es i (key, p) at j e e_at in
          let from : slice_get es j ≡ Some e = sym (swapped_other es i (key, p) at j d l) ∙ e_at in
          let k = h.listed j e from in
          let e_p : e.1 ≢ p = (λ f. d (sym k.1 ∙ ap (λ r. slice_index_or is r 0) f ∙ index)) in
          let e_moved : e.1 ≢ moved = (λ f. elim moved_is [
            | inl m ↦ absurd
                (let q : slice_index_or is e.1 0 ≡ slice_index_or is moved 0 = ap (λ r. slice_index_or is r 0) f in
                let a = (h.listed last (m.0, moved) m.2).1 in
                let b = k.1 in
                omega arith)
            | inr s ↦ absurd (e_p (f ∙ s.0))
          ]) in
          (kept e.1 e_p k.0, unwritten is moved e.1 i e_moved ∙ k.1)

-- ---- the index of a look-up in the table

-- if the look-up has the value at an index as its result, it finds the element of the entry at this index
pub found_at : {K : Type 0} (es : List (K × ℕ)) (test : K → Bool) (i : ℕ) (key : K) (p : ℕ)
    → slice_get es i ≡ Some (key, p)
    → slice_get (values_of es) i ≡ lookup test es
    → lookup test es ≡ Some p
found_at es test i key p at value = sym value ∙ slice_get-map (λ e. e.1) es i ∙ ap (option_map (λ e. e.1)) at

-- an option that is not present is None
pub none_found : (o : Option ℕ) → is_some o ≡ false → o ≡ None
none_found None h = refl
none_found (Some p) h = absurd (true≢false h)

-- a list has an item at each index that is less than its length
pub has_entry : {X : Type 0} (xs : List X) (i : ℕ) → i < length xs → slice_get xs i ≡ None → ⊥
has_entry [] i l h = absurd (omega arith)
has_entry (x ∷ xs) zero l h = none-some x (sym h)
has_entry (x ∷ xs) (suc i) l h = has_entry xs i (omega arith) h

-- numbers that are equal to a lower and a higher one are in the same order
pub below_length : (q m l n : ℕ) → q ≡ m → m < l → n ≡ l → q < n
below_length q m l n e b s = omega arith

-- ---- all entries are taken out

nothing : {X : Type 0} (i : ℕ) → slice_get (let none : List X = [] in none) i ≡ None
nothing zero = refl
nothing (suc i) = refl

-- if the table has no entry and the order no element, the elements are those of the entries, with known indices
pub indexed_cleared : {K : Type 0} (es : List (K × ℕ)) (is : List ℕ) (order : Order)
    → es ≡ [] → order.elements ≡ []
    → length is ≡ order.bound → order.bound < 2 ^ 32
    → IsIndexed es is order
indexed_cleared es is order cleared none long small = record {
  long = long;
  small = small;
  many = ap length cleared ∙ sym (ap length none);
  few = let n = ap length none in omega arith;
  within = subst (AreWithin order.bound) (sym none) tt;
  placed = subst (HaveEntries es is) (sym none) tt;
  listed = λ i e at. absurd (none-some e (sym (nothing i) ∙ ap (λ xs. slice_get xs i) (sym cleared) ∙ at));
}
