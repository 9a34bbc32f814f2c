-- The entry that follows the one at an element.
use Rattle.std.proofs.Common.{◌≡◌, ℕ, zero, suc, ◌+◌, ◌<◌, Bool, true, false, List, [], ◌∷◌, ◌++◌, Option, Some, None, slice_index_or}
use Rattle.std.proofs.Common.{option_map, option_to_list, IfSome, refl, sym, ap, subst, ◌∙◌, nat_eq, if◌then◌else◌, true≢false, arith, eqb-true, eq-eqb}
use Rattle.std.proofs.lemmas.Option.{none-some, same_Some}
use Rattle.ordered_keys.specs.Orders.{Order, occurrences, first_element, following, first_entry, entry_after_element, next_entry}
use Rattle.ordered_keys.specs.inside.Ordered.{entry_of, is_entry_of, next_of_elements, in_order, HaveEntries, IsIndexed}
use Rattle.ordered_keys.proofs.Ordered.{entry_at, first_member, following_member}

-- ---- elements

-- nothing follows an element that is not in the list
nothing_follows : (p : ℕ) (ps : List ℕ) → occurrences p ps ≡ 0 → following p ps ≡ None
nothing_follows p [] none = refl
nothing_follows p (q ∷ ps) none = by (nat_eq p q) refl none (nothing_follows p ps)
  where
    by : (b : Bool)
        → nat_eq p q ≡ b
        → (if b then 1 else 0) + occurrences p ps ≡ 0
        → (occurrences p ps ≡ 0 → following p ps ≡ None)
        → (if b then first_element ps else following p ps) ≡ None
    by true e n r = absurd (omega (arith, n))
    by false e n r = r (omega (arith, n))

-- ---- entries

module _ {K : Type 0} (es : List (K × ℕ)) (indices : List ℕ) where
  abbrev pub entry_or_none : Option ℕ → Option (K × ℕ)
  entry_or_none None = None
  entry_or_none (Some p) = entry_of es indices p

  first_in_order : (ps : List ℕ)
      → HaveEntries es indices ps
      → first_entry (in_order es indices ps) ≡ entry_or_none (first_element ps)
  first_in_order [] h = refl
  first_in_order (p ∷ ps) h =
      ap (λ (o : Option (K × ℕ)). first_entry (option_to_list o ++ in_order es indices ps)) h.0.1 ∙ sym h.0.1

  behind_in_order : (p : ℕ) (ps : List ℕ)
      → HaveEntries es indices ps
      → entry_after_element p (in_order es indices ps) ≡ entry_or_none (following p ps)
  behind_in_order p [] h = refl
  behind_in_order p (q ∷ ps) h =
      ap (λ (o : Option (K × ℕ)). entry_after_element p (option_to_list o ++ in_order es indices ps)) h.0.1
      ∙ by (nat_eq p q) (first_in_order ps h.1) (behind_in_order p ps h.1)
    where
      by : (b : Bool)
          → first_entry (in_order es indices ps) ≡ entry_or_none (first_element ps)
          → entry_after_element p (in_order es indices ps) ≡ entry_or_none (following p ps)
          → (if b then first_entry (in_order es indices ps) else entry_after_element p (in_order es indices ps))
          ≡ entry_or_none (if b then first_element ps else following p ps)
      by true f r = f
      by false f r = r

  module _ (order : Order) (h : IsIndexed es indices order) where
    -- the entry of an element is at it if the order has the element, and only then
    pub has_entry : (p : ℕ) → is_entry_of p (entry_of es indices p) ≡ true → 0 < occurrences p order.elements
    has_entry p is = by (entry_of es indices p) refl is
      where
        by : (o : Option (K × ℕ))
            → entry_of es indices p ≡ o → is_entry_of p o ≡ true
            → 0 < occurrences p order.elements
        by None e is = absurd (true≢false (sym is))
        by (Some x) e is =
            let same : x.1 ≡ p = eqb-true x.1 p is in
            let one : occurrences x.1 order.elements ≡ 1 = (h.listed (slice_index_or indices p 0) x e).0 in
            let there : occurrences p order.elements ≡ 1 =
            ap (λ (q : ℕ). occurrences q order.elements) (sym same) ∙ one in
            omega (arith, there)

    pub has_no_entry : (p : ℕ) → is_entry_of p (entry_of es indices p) ≡ false → following p order.elements ≡ None
    has_no_entry p is = by (occurrences p order.elements) refl
      where
        by : (n : ℕ) → occurrences p order.elements ≡ n → following p order.elements ≡ None
        by zero e = nothing_follows p order.elements e
        by (suc n) e =
            let found = entry_at es indices order.elements p h.placed (omega (arith, e)) in
            let is_it : nat_eq p p ≡ true = eq-eqb p p refl in
            absurd (true≢false (sym is_it ∙ sym (ap (is_entry_of p) found.1) ∙ is))

    -- the next element is an element of the order
    pub next_member : (element : Option ℕ) (next : ℕ)
        → Some next ≡ next_of_elements element order.elements → 0 < occurrences next order.elements
    next_member None next e =
        subst (λ (o : Option ℕ). IfSome o (λ p. 0 < occurrences p order.elements)) (sym e) (first_member order.elements)
    next_member (Some p) next e =
        subst (λ (o : Option ℕ). IfSome o (λ p. 0 < occurrences p order.elements)) (sym e)
        (following_member p order.elements)

    -- the next entry is that of the next element
    pub next_in_order : (element : Option ℕ)
        → entry_or_none (next_of_elements element order.elements)
        ≡ next_entry element (in_order es indices order.elements)
    next_in_order None = sym (first_in_order order.elements h.placed)
    next_in_order (Some p) = sym (behind_in_order p order.elements h.placed)

    -- an entry with a known key has the element at which it is
    pub with_its_element : (p : ℕ) (k : K)
        → 0 < occurrences p order.elements
        → option_map (λ (e : K × ℕ). e.0) (entry_of es indices p) ≡ Some k
        → entry_of es indices p ≡ Some (k, p)
    with_its_element p k m is =
        let found = entry_at es indices order.elements p h.placed m in
        let same : found.0 ≡ k = same_Some found.0 k (ap (option_map (λ (e : K × ℕ). e.0)) (sym found.1) ∙ is) in
        found.1 ∙ ap (λ (x : K). let o : Option (K × ℕ) = Some (x, p) in o) same

    -- if an element of the order has no key, it has no entry
    pub without_key : (p : ℕ)
        → 0 < occurrences p order.elements
        → option_map (λ (e : K × ℕ). e.0) (entry_of es indices p) ≡ None
        → entry_of es indices p ≡ None
    without_key p m is =
        let found = entry_at es indices order.elements p h.placed m in
        absurd (none-some found.0 (sym is ∙ ap (option_map (λ (e : K × ℕ). e.0)) found.1))
