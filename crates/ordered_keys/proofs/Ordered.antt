-- A look-up in the table is one in the order of its elements; the table and the order after an insertion and a removal.
use Rattle.std.proofs.Common.{◌≡◌, ◌≢◌, ℕ, zero, suc, ◌+◌, ◌<◌, ◌⊎◌, inl, inr, Bool, true, false, cond, List, [], ◌∷◌, ◌++◌}
use Rattle.std.proofs.Common.{length, Option, Some, None, is_some, slice_get, slice_index_or, option_map, option_to_list}
use Rattle.std.proofs.Common.{IfSome, refl, sym, ap, subst, ◌∙◌, nat_eq, if◌then◌else◌, true≢false, arith, eqb-true, eq-eqb}
use Rattle.std.specs.List.{IsDistinct, AllByRecursion}
use Rattle.std.specs.Map.{lookup, remove_entry, keys_of, values_of}
use Rattle.std.proofs.lemmas.Option.{none-some, same_Some}
use Rattle.std.proofs.lemmas.Map.Keys.{IsDistinct-head, IsDistinct-tail}
use Rattle.ordered_keys.specs.Orders.{Order, occurrences, first_element, following, taken_out, first_key_of, key_after_match, key_following}
use Rattle.ordered_keys.specs.inside.Links.{AreWithin}
use Rattle.ordered_keys.specs.inside.Ordered.{entry_of, key_of, in_order, HaveEntries, IsIndexed}
use Rattle.ordered_keys.proofs.Rings.{times_head, unequal, here_or_later, within_at}

-- ---- lists of entries

module _ {K : Type 0} where
  -- the entry that was found
  pub found_entry : (test : K → Bool) (es : List (K × ℕ)) (p : ℕ)
      → lookup test es ≡ Some p
      → (i : ℕ) × (k : K) × (slice_get es i ≡ Some (k, p)) × (test k ≡ true)
  found_entry test [] p h = absurd (none-some p h)
  found_entry test (e ∷ es) p h = by (test e.0) refl h (found_entry test es p)
    where
      by : (b : Bool)
          → test e.0 ≡ b
          → cond b (Some e.1) (lookup test es) ≡ Some p
          → (lookup test es ≡ Some p → (i : ℕ) × (k : K) × (slice_get es i ≡ Some (k, p)) × (test k ≡ true))
          → (i : ℕ) × (k : K) × (slice_get (e ∷ es) i ≡ Some (k, p)) × (test k ≡ true)
      by true t g r =
          let same : e.1 ≡ p = same_Some e.1 p g in
          (zero, e.0, ap (λ (q : ℕ). let o : Option (K × ℕ) = Some (e.0, q) in o) same, t)
      by false t g r = let f = r g in (suc f.0, f.1, f.2, f.3)

  -- if a look-up finds nothing, no key of the table passes the test
  pub none_passes : (test : K → Bool) (es : List (K × ℕ))
      → lookup test es ≡ None
      → (i : ℕ) (e : K × ℕ) → slice_get es i ≡ Some e
      → test e.0 ≡ false
  none_passes test [] h i e at = absurd (none-some e at)
  none_passes test (x ∷ es) h i e at = by (test x.0) refl h i at (λ g j at_j. none_passes test es g j e at_j)
    where
      by : (b : Bool)
          → test x.0 ≡ b → cond b (Some x.1) (lookup test es) ≡ None
          → (i : ℕ) → slice_get (x ∷ es) i ≡ Some e
          → (lookup test es ≡ None → (j : ℕ) → slice_get es j ≡ Some e → test e.0 ≡ false)
          → test e.0 ≡ false
      by true t g i at r = absurd (none-some x.1 (sym g))
      by false t g zero at r = ap (λ (y : K × ℕ). test y.0) (sym (same_Some x e at)) ∙ t
      by false t g (suc i) at r = r g i at

  -- if no key of the table passes the test, a look-up finds nothing
  pub passes_none : (test : K → Bool) (es : List (K × ℕ))
      → ((i : ℕ) (e : K × ℕ) → slice_get es i ≡ Some e → test e.0 ≡ false) → lookup test es ≡ None
  passes_none test [] h = refl
  passes_none test (x ∷ es) h =
      ap (λ (b : Bool). cond b (Some x.1) (lookup test es)) (h zero x refl)
      ∙ passes_none test es (λ i e at. h (suc i) e at)

  -- if a look-up finds nothing, the removal by the same test changes nothing
  pub nothing_removed : (test : K → Bool) (es : List (K × ℕ)) → lookup test es ≡ None → remove_entry test es ≡ es
  nothing_removed test [] h = refl
  nothing_removed test (x ∷ es) h = by (test x.0) h (nothing_removed test es)
    where
      by : (b : Bool)
          → cond b (Some x.1) (lookup test es) ≡ None
          → (lookup test es ≡ None → remove_entry test es ≡ es)
          → cond b es (x ∷ remove_entry test es) ≡ x ∷ es
      by true g r = absurd (none-some x.1 (sym g))
      by false g r = ap (λ (ys : List (K × ℕ)). x ∷ ys) (r g)

  -- any two keys that pass the test are equal
  abbrev pub IsSole : (K → K → Bool) → (K → Bool) → Type 0
  IsSole eq test = (x y : K) → test x ≡ true → test y ≡ true → eq x y ≡ true

  -- that is so if a key that passes the test is equal to those that pass it, and to no other
  pub sole_by : (eq : K → K → Bool) (test : K → Bool) → ((x y : K) → test x ≡ true → test y ≡ eq x y) → IsSole eq test
  sole_by eq test law x y tx ty = sym (law x y tx) ∙ ty

  -- only one index has a key that passes
  pub one_index : (eq : K → K → Bool) (test : K → Bool)
      → IsSole eq test
      → (es : List (K × ℕ)) → IsDistinct eq (keys_of es)
      → (i j : ℕ) (a b : K × ℕ) → slice_get es i ≡ Some a
      → slice_get es j ≡ Some b → test a.0 ≡ true
      → test b.0 ≡ true
      → i ≡ j
  one_index eq test sole [] d i j a b at_i at_j ta tb = absurd (none-some a at_i)
  one_index eq test sole (x ∷ es) d zero zero a b at_i at_j ta tb = refl
  one_index eq test sole (x ∷ es) d zero (suc j) a b at_i at_j ta tb =
      let tx : test x.0 ≡ true = ap (λ (y : K × ℕ). test y.0) (same_Some x a at_i) ∙ ta in
      absurd (true≢false (sym (sole x.0 b.0 tx tb)
      ∙ apart (λ (y : K). eq x.0 y ≡ false) es j b (IsDistinct-head eq x.0 (keys_of es) d) at_j))
    where
      apart : (P : K → Type 0) (ys : List (K × ℕ)) (j : ℕ) (b : K × ℕ)
          → AllByRecursion P (keys_of ys) → slice_get ys j ≡ Some b → P b.0
      apart P [] j b all at = absurd (none-some b at)
      apart P (y ∷ ys) zero b all at = subst (λ (z : K × ℕ). P z.0) (same_Some y b at) all.0
      apart P (y ∷ ys) (suc j) b all at = apart P ys j b all.1 at
  one_index eq test sole (x ∷ es) d (suc i) zero a b at_i at_j ta tb =
      let tx : test x.0 ≡ true = ap (λ (y : K × ℕ). test y.0) (same_Some x b at_j) ∙ tb in
      absurd (true≢false (sym (sole x.0 a.0 tx ta)
      ∙ apart (λ (y : K). eq x.0 y ≡ false) es i a (IsDistinct-head eq x.0 (keys_of es) d) at_i))
    where
      apart : (P : K → Type 0) (ys : List (K × ℕ)) (j : ℕ) (b : K × ℕ)
          → AllByRecursion P (keys_of ys) → slice_get ys j ≡ Some b → P b.0
      apart P [] j b all at = absurd (none-some b at)
      apart P (y ∷ ys) zero b all at = subst (λ (z : K × ℕ). P z.0) (same_Some y b at) all.0
      apart P (y ∷ ys) (suc j) b all at = apart P ys j b all.1 at
  one_index eq test sole (x ∷ es) d (suc i) (suc j) a b at_i at_j ta tb =
      ap suc (one_index eq test sole es (IsDistinct-tail eq x.0 (keys_of es) d) i j a b at_i at_j ta tb)

-- ---- the entries in order

module _ {K : Type 0} (es : List (K × ℕ)) (indices : List ℕ) where
  abbrev pub shown : List ℕ → List (K × ℕ)
  shown ps = in_order es indices ps

  -- the elements in order
  pub values_shown : (ps : List ℕ) → HaveEntries es indices ps → values_of (shown ps) ≡ ps
  values_shown [] h = refl
  values_shown (p ∷ ps) h =
      ap (λ (o : Option (K × ℕ)). values_of (option_to_list o ++ shown ps)) h.0.1
      ∙ ap (λ (qs : List ℕ). p ∷ qs) (values_shown ps h.1)

  -- the entries in order are as many as the elements
  pub length_shown : (ps : List ℕ) → HaveEntries es indices ps → length (shown ps) ≡ length ps
  length_shown [] h = refl
  length_shown (p ∷ ps) h =
      ap (λ (o : Option (K × ℕ)). length (option_to_list o ++ shown ps)) h.0.1 ∙ ap suc (length_shown ps h.1)

  -- an element of a list that has entries has an entry
  pub entry_at : (ps : List ℕ) (p : ℕ)
      → HaveEntries es indices ps → 0 < occurrences p ps
      → (k : K) × (entry_of es indices p ≡ Some (k, p))
  entry_at [] p h m = absurd (omega arith)
  entry_at (q ∷ ps) p h m = elim (here_or_later p q ps m) [
    | inl e ↦ subst (λ (r : ℕ). (k : K) × (entry_of es indices r ≡ Some (k, r))) (sym e) h.0
    | inr l ↦ entry_at ps p h.1 l.1
  ]

  -- the first key in order is that of the first element
  pub first_shown : (ps : List ℕ)
      → HaveEntries es indices ps → first_key_of (shown ps) ≡ key_of es indices (first_element ps)
  first_shown [] h = refl
  first_shown (p ∷ ps) h =
      ap (λ (o : Option (K × ℕ)). first_key_of (option_to_list o ++ shown ps)) h.0.1
      ∙ ap (option_map (λ (e : K × ℕ). e.0)) (sym h.0.1)

  module _ (test : K → Bool) where
    -- each element has an entry whose key passes exactly if the element is marked
    abbrev pub AreMarked : (ℕ → Bool) → List ℕ → Type 0
    AreMarked mark [] = Unit {0}
    AreMarked mark (p ∷ ps) = ((k : K) × (entry_of es indices p ≡ Some (k, p)) × (test k ≡ mark p)) × AreMarked mark ps

    -- if the test of each element's key is the mark of the element, all elements are marked so
    pub marked : (mark : ℕ → Bool) (ps : List ℕ)
        → HaveEntries es indices ps
        → ((p : ℕ) (k : K) → 0 < occurrences p ps → entry_of es indices p ≡ Some (k, p) → test k ≡ mark p)
        → AreMarked mark ps
    marked mark [] h f = tt
    marked mark (p ∷ ps) h f = (
      (h.0.0, h.0.1, f p h.0.0 (times_head p ps) h.0.1),
      marked mark ps h.1
          (λ q k m.
          f q k
          (let s : occurrences q (p ∷ ps) ≡ (if nat_eq q p then 1 else 0) + occurrences q ps = refl in omega arith)),
    )

    -- the first entry
    pub head_is : (p : ℕ) (ps : List ℕ) (k : K)
        → entry_of es indices p ≡ Some (k, p) → shown (p ∷ ps) ≡ (k, p) ∷ shown ps
    head_is p ps k h = ap (λ (o : Option (K × ℕ)). option_to_list o ++ shown ps) h

    -- if no element is marked, a look-up in the order finds nothing
    pub none_shown : (ps : List ℕ) → AreMarked (λ p. false) ps → lookup test (shown ps) ≡ None
    none_shown [] h = refl
    none_shown (p ∷ ps) h =
        ap (lookup test) (head_is p ps h.0.0 h.0.1)
        ∙ ap (λ (b : Bool). cond b (Some p) (lookup test (shown ps))) h.0.2
        ∙ none_shown ps h.1

    module _ (p : ℕ) where
      -- if only p is marked, and is in the order, a look-up in the order finds p
      pub found_shown : (ps : List ℕ) → AreMarked (nat_eq p) ps → 0 < occurrences p ps → lookup test (shown ps) ≡ Some p
      found_shown [] h m = absurd (omega arith)
      found_shown (q ∷ ps) h m =
          ap (lookup test) (head_is q ps h.0.0 h.0.1)
          ∙ ap (λ (b : Bool). cond b (Some q) (lookup test (shown ps))) h.0.2
          ∙ elim (here_or_later p q ps m) [
            | inl e ↦ ap (λ (b : Bool). cond b (Some q) (lookup test (shown ps))) (eq-eqb p q e)
                ∙ ap (λ (r : ℕ). let o : Option ℕ = Some r in o) (sym e)
            | inr l ↦ ap (λ (b : Bool). cond b (Some q) (lookup test (shown ps))) (unequal p q l.0)
                ∙ found_shown ps h.1 l.1
          ]

      -- if only p is marked, the removal by the test leaves the entries of the order without p
      pub removed_shown : (ps : List ℕ)
          → AreMarked (nat_eq p) ps → remove_entry test (shown ps) ≡ shown (taken_out p ps)
      removed_shown [] h = refl
      removed_shown (q ∷ ps) h =
          ap (remove_entry test) (head_is q ps h.0.0 h.0.1)
          ∙ ap (λ (b : Bool). cond b (shown ps) ((h.0.0, q) ∷ remove_entry test (shown ps))) h.0.2
          ∙ by (nat_eq p q) (removed_shown ps h.1)
        where
          by : (b : Bool)
              → remove_entry test (shown ps) ≡ shown (taken_out p ps)
              → cond b (shown ps) ((h.0.0, q) ∷ remove_entry test (shown ps))
              ≡ shown (if b then ps else q ∷ taken_out p ps)
          by true r = refl
          by false r = ap (λ (ys : List (K × ℕ)). (h.0.0, q) ∷ ys) r ∙ sym (head_is q (taken_out p ps) h.0.0 h.0.1)

      unmarked : (mark : ℕ → Bool) (ps : List ℕ) → AreMarked mark ps → HaveEntries es indices ps
      unmarked mark [] h = tt
      unmarked mark (q ∷ ps) h = ((h.0.0, h.0.1), unmarked mark ps h.1)

      -- if only p is marked, the key after the first that passes the test is that of the element after p
      pub behind_shown : (ps : List ℕ)
          → AreMarked (nat_eq p) ps
          → key_after_match test (shown ps) ≡ key_of es indices (following p ps)
      behind_shown [] h = refl
      behind_shown (q ∷ ps) h =
          ap (key_after_match test) (head_is q ps h.0.0 h.0.1)
          ∙ ap (λ (b : Bool). if b then first_key_of (shown ps) else key_after_match test (shown ps)) h.0.2
          ∙ by (nat_eq p q) (behind_shown ps h.1)
        where
          by : (b : Bool)
              → key_after_match test (shown ps) ≡ key_of es indices (following p ps)
              → (if b then first_key_of (shown ps) else key_after_match test (shown ps))
              ≡ key_of es indices (if b then first_element ps else following p ps)
          by true r = first_shown ps (unmarked (nat_eq p) ps h.1)
          by false r = r

-- ---- elements of the order

-- the first element of a list, if it has one, occurs in it
pub first_member : (ps : List ℕ) → IfSome (first_element ps) (λ p. 0 < occurrences p ps)
first_member [] = tt
first_member (p ∷ ps) = times_head p ps

later_member : (q : ℕ) (ps : List ℕ) (o : Option ℕ)
    → IfSome o (λ p. 0 < occurrences p ps) → IfSome o (λ p. 0 < occurrences p (q ∷ ps))
later_member q ps None h = tt
later_member q ps (Some p) h =
    let s : occurrences p (q ∷ ps) ≡ (if nat_eq p q then 1 else 0) + occurrences p ps = refl in omega arith

-- the element that follows another one in a list, if one does, occurs in it
pub following_member : (p : ℕ) (ps : List ℕ) → IfSome (following p ps) (λ q. 0 < occurrences q ps)
following_member p [] = tt
following_member p (q ∷ ps) = by (nat_eq p q) (following_member p ps)
  where
    by : (b : Bool)
        → IfSome (following p ps) (λ r. 0 < occurrences r ps)
        → IfSome (if b then first_element ps else following p ps) (λ r. 0 < occurrences r (q ∷ ps))
    by true r = later_member q ps (first_element ps) (first_member ps)
    by false r = later_member q ps (following p ps) r

-- if all elements of a list are less than the bound, an element that is found in it is
pub members_within : (n bound : ℕ) (ps : List ℕ) (o : Option ℕ)
    → n ≡ bound → AreWithin bound ps
    → IfSome o (λ p. 0 < occurrences p ps)
    → IfSome o (λ p. p < n)
members_within n bound ps None e w h = tt
members_within n bound ps (Some p) e w h = let l = within_at bound p ps w h in omega arith

-- ---- look-ups in the table

module _ {K : Type 0} (es : List (K × ℕ)) (indices : List ℕ) (order : Order)
    (h : IsIndexed es indices order) (test : K → Bool) where
  abbrev pub entries : List (K × ℕ)
  entries = in_order es indices order.elements

  -- if a look-up in the table finds nothing, no element of the order has a key that passes the test
  pub absent_marked : lookup test es ≡ None → AreMarked es indices test (λ p. false) order.elements
  absent_marked none =
      marked es indices test (λ p. false) order.elements h.placed
      (λ p k m at. none_passes test es none (slice_index_or indices p 0) (k, p) at)

  -- a key that is absent in the table is absent in the order
  pub absent_in_order : lookup test es ≡ None → lookup test entries ≡ None
  absent_in_order none = none_shown es indices test order.elements (absent_marked none)

  -- a key that is absent in the order is absent in the table
  pub absent_in_table : lookup test entries ≡ None → lookup test es ≡ None
  absent_in_table none = passes_none test es (λ i e at. let l = h.listed i e at in
      entry_fails order.elements h.placed none e (omega arith) (ap (slice_get es) l.1 ∙ at))
    where
      entry_fails : (ps : List ℕ)
          → HaveEntries es indices ps
          → lookup test (in_order es indices ps) ≡ None
          → (e : K × ℕ) → 0 < occurrences e.1 ps → entry_of es indices e.1 ≡ Some e
          → test e.0 ≡ false
      entry_fails [] hs n e m at = absurd (omega arith)
      entry_fails (p ∷ ps) hs n e m at =
          let n' : cond (test hs.0.0) (Some p) (lookup test (in_order es indices ps)) ≡ None =
          ap (lookup test) (sym (head_is es indices test p ps hs.0.0 hs.0.1)) ∙ n in
          by (test hs.0.0) refl n' (here_or_later e.1 p ps m) (λ n'' m'. entry_fails ps hs.1 n'' e m' at)
        where
          by : (b : Bool)
              → test hs.0.0 ≡ b
              → cond b (Some p) (lookup test (in_order es indices ps)) ≡ None
              → (e.1 ≡ p) ⊎ ((e.1 ≢ p) × (0 < occurrences e.1 ps))
              → (lookup test (in_order es indices ps) ≡ None → 0 < occurrences e.1 ps → test e.0 ≡ false)
              → test e.0 ≡ false
          by true t g w r = absurd (none-some p (sym g))
          by false t g (inl q) r =
              let same : (hs.0.0, p) ≡ e =
              same_Some (hs.0.0, p) e (sym hs.0.1 ∙ ap (entry_of es indices) (sym q) ∙ at) in
              ap (λ (x : K × ℕ). test x.0) (sym same) ∙ t
          by false t g (inr l) r = r g l.1

  module _ (eq : K → K → Bool) (sole : IsSole eq test) (distinct : IsDistinct eq (keys_of es))
      (p : ℕ) (found : lookup test es ≡ Some p) where
    -- the index in the table at which the look-up finds the element, with its key, which passes the test
    pub at : (i : ℕ) × (k : K) × (slice_get es i ≡ Some (k, p)) × (test k ≡ true)
    at = found_entry test es p found

    -- the element that the look-up finds is in the order once
    pub found_member : occurrences p order.elements ≡ 1
    found_member = (h.listed at.0 (at.1, p) at.2).0

    -- the index that is kept for the found element is that of its entry in the table
    pub found_index : slice_index_or indices p 0 ≡ at.0
    found_index = (h.listed at.0 (at.1, p) at.2).1

    -- of the elements of the order, only the found one has a key that passes the test
    pub found_marked : AreMarked es indices test (nat_eq p) order.elements
    found_marked =
        marked es indices test (nat_eq p) order.elements h.placed
        (λ q k m q_at. by q k q_at (test k) refl (nat_eq p q) refl)
      where
        by : (q : ℕ) (k : K)
            → entry_of es indices q ≡ Some (k, q) → (a : Bool) → test k ≡ a
            → (b : Bool) → nat_eq p q ≡ b
            → a ≡ b
        by q k q_at true t true e = refl
        by q k q_at false t false e = refl
        by q k q_at true t false e =
            let same : slice_index_or indices q 0 ≡ at.0 =
            one_index eq test sole es distinct (slice_index_or indices q 0) at.0 (k, q) (at.1, p) q_at at.2 t at.3 in
            let pair : (k, q) ≡ (at.1, p) = same_Some (k, q) (at.1, p) (sym q_at ∙ ap (slice_get es) same ∙ at.2) in
            sym (sym e ∙ eq-eqb p q (sym (ap (λ (x : K × ℕ). x.1) pair)))
        by q k q_at false t true e =
            let here : p ≡ q = eqb-true p q e in
            let pair : (k, q) ≡ (at.1, p) =
            same_Some (k, q) (at.1, p)
            (sym q_at ∙ ap (entry_of es indices) (sym here) ∙ ap (slice_get es) found_index ∙ at.2) in
            sym t ∙ ap (λ (x : K × ℕ). test x.0) pair ∙ at.3

    -- the look-up in the order finds the element of the key that the table finds
    pub found_in_order : lookup test entries ≡ Some p
    found_in_order = found_shown es indices test p order.elements found_marked (let m = found_member in omega arith)

    -- the removal of the found key leaves the entries of the order without its element
    pub removed_in_order : remove_entry test entries ≡ in_order es indices (taken_out p order.elements)
    removed_in_order = removed_shown es indices test p order.elements found_marked

    -- the key that follows the found key is that of the element that follows its element in the order
    pub following_in_order : key_following test entries ≡ key_of es indices (following p order.elements)
    following_in_order =
        ap (λ (o : Option ℕ). if is_some o then key_after_match test entries else first_key_of entries)
        found_in_order
        ∙ behind_shown es indices test p order.elements found_marked

  -- the key that follows an absent key is the first one
  pub following_absent : lookup test es ≡ None → key_following test entries ≡ first_key_of entries
  following_absent none =
      ap (λ (o : Option ℕ). if is_some o then key_after_match test entries else first_key_of entries)
      (absent_in_order none)

  -- a look-up in the table and one in the order have the same result
  pub same_found : (eq : K → K → Bool)
      → IsSole eq test → IsDistinct eq (keys_of es)
      → lookup test es ≡ lookup test entries
  same_found eq sole distinct = by (lookup test es) refl
    where
      by : (o : Option ℕ) → lookup test es ≡ o → lookup test es ≡ lookup test entries
      by None e = e ∙ sym (absent_in_order e)
      by (Some p) e = e ∙ sym (found_in_order eq sole distinct p e)
