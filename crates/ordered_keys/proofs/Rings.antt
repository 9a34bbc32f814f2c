-- A ring of links: the element after another, an element that is put last, and an element that is taken out.
use Rattle.std.proofs.Common.{◌≡◌, ◌≢◌, ℕ, zero, suc, ◌+◌, ◌<◌, ◌≤◌, ◌⊎◌, inl, inr, Bool, true, false, List, [], ◌∷◌, ◌++◌}
use Rattle.std.proofs.Common.{length, Option, Some, None, refl, sym, ap, subst, ◌∙◌, nat_eq, if◌then◌else◌, arith, eqb-true, eq-eqb}
use Rattle.ordered_keys.specs.Orders.{occurrences, first_element, following, taken_out}
use Rattle.ordered_keys.specs.inside.Links.{chain, IsPath, AreWithin}

-- ---- how often an element occurs in a list

-- the first element of a list occurs in it
pub times_head : (p : ℕ) (xs : List ℕ) → 0 < occurrences p (p ∷ xs)
times_head p xs =
    let e : nat_eq p p ≡ true = eq-eqb p p refl in
    let P : Bool → Type 0 = λ b. 0 < (if b then 1 else 0) + occurrences p xs in
    subst P (sym e) (omega arith)

-- an element occurs in one list after another as often as in both together
pub times-append : (p : ℕ) (xs ys : List ℕ) → occurrences p (xs ++ ys) ≡ occurrences p xs + occurrences p ys
times-append p [] ys = omega arith
times-append p (x ∷ xs) ys = let h = times-append p xs ys in omega arith

-- an element that is not in the list is not its first
pub not_head : (p x : ℕ) (xs : List ℕ) → occurrences p (x ∷ xs) ≡ 0 → p ≢ x
not_head p x xs h e =
    let t = times_head x xs in
    let s : occurrences p (x ∷ xs) ≡ occurrences x (x ∷ xs) = ap (λ q. occurrences q (x ∷ xs)) e in
    omega arith

-- the test for equality of two different numbers is false
pub unequal : (p x : ℕ) → p ≢ x → nat_eq p x ≡ false
unequal p x h = by (nat_eq p x) refl
  where
    by : (b : Bool) → nat_eq p x ≡ b → b ≡ false
    by true e = absurd (h (eqb-true p x e))
    by false e = refl

-- p comes first, or later
pub here_or_later : (p x : ℕ) (xs : List ℕ) → 0 < occurrences p (x ∷ xs) → (p ≡ x) ⊎ ((p ≢ x) × (0 < occurrences p xs))
here_or_later p x xs h = by (nat_eq p x) refl h
  where
    by : (b : Bool)
        → nat_eq p x ≡ b
        → 0 < (if b then 1 else 0) + occurrences p xs
        → (p ≡ x) ⊎ ((p ≢ x) × (0 < occurrences p xs))
    by true e l = inl (eqb-true p x e)
    by false e l = inr ((λ q. let t : true ≡ false = sym (eq-eqb p x q) ∙ e in cc), omega arith)

-- if all elements of a list are less than the bound, an element that occurs in it is
pub within_at : (bound p : ℕ) (xs : List ℕ) → AreWithin bound xs → 0 < occurrences p xs → p < bound
within_at bound p [] w h = absurd (omega arith)
within_at bound p (x ∷ xs) w h =
    elim (here_or_later p x xs h) [ inl e ↦ subst (λ q. q < bound) (sym e) w.0 | inr l ↦ within_at bound p xs w.1 l.1 ]

-- the bound does not occur in a list of elements that are less than it
pub bound_outside : (bound : ℕ) (xs : List ℕ) → AreWithin bound xs → occurrences bound xs ≡ 0
bound_outside bound xs w = by (occurrences bound xs) refl
  where
    by : (n : ℕ) → occurrences bound xs ≡ n → n ≡ 0
    by zero e = refl
    by (suc n) e = let l = within_at bound bound xs w (omega arith) in absurd (omega arith)

-- ---- the elements of a path

module _ (after before : ℕ → ℕ) where
  -- the chain from the start of a path, with as many elements, has the elements of the path
  pub chain_of_path : (a : ℕ) (xs : List ℕ) (b : ℕ) → IsPath after before a xs b → chain after (length xs) a ≡ xs
  chain_of_path a [] b h = refl
  chain_of_path a (x ∷ xs) b h =
      ap (λ q. q ∷ chain after (length xs) q) h.0 ∙ ap (λ ys. x ∷ ys) (chain_of_path x xs b h.2)

  -- the element before p
  pub before_member : (a : ℕ) (xs : List ℕ) (b p : ℕ)
      → IsPath after before a xs b → 0 < occurrences p xs
      → (before p ≡ a) ⊎ (0 < occurrences (before p) xs)
  before_member a [] b p h m = absurd (omega arith)
  before_member a (x ∷ xs) b p h m = elim (here_or_later p x xs m) [
    | inl e ↦ inl (ap before e ∙ h.1)
    | inr l ↦ elim (before_member x xs b p h.2 l.1) [
      | inl f ↦ inr (subst (λ q. 0 < occurrences q (x ∷ xs)) (sym f) (times_head x xs))
      | inr g ↦ inr (omega arith)
    ]
  ]

  -- the element before the end
  pub before_end : (a : ℕ) (xs : List ℕ) (b : ℕ)
      → IsPath after before a xs b → (before b ≡ a) ⊎ (0 < occurrences (before b) xs)
  before_end a [] b h = inl h.1
  before_end a (x ∷ xs) b h = elim (before_end x xs b h.2) [
    | inl f ↦ inr (subst (λ q. 0 < occurrences q (x ∷ xs)) (sym f) (times_head x xs))
    | inr g ↦ inr (omega arith)
  ]

  -- the element after the start of a path is on the path or at its end
  after_start : (a : ℕ) (xs : List ℕ) (b : ℕ)
      → IsPath after before a xs b → (after a ≡ b) ⊎ (0 < occurrences (after a) xs)
  after_start a [] b h = inl h.0
  after_start a (x ∷ xs) b h = inr (subst (λ q. 0 < occurrences q (x ∷ xs)) (sym h.0) (times_head x xs))

  -- the element after one of a path is on the path or is its end
  pub after_member : (a : ℕ) (xs : List ℕ) (b p : ℕ)
      → IsPath after before a xs b → 0 < occurrences p xs
      → (after p ≡ b) ⊎ (0 < occurrences (after p) xs)
  after_member a [] b p h m = absurd (omega arith)
  after_member a (x ∷ xs) b p h m = elim (here_or_later p x xs m) [
    | inl e ↦ later (ap after e) (after_start x xs b h.2)
    | inr l ↦ later refl (after_member x xs b p h.2 l.1)
  ]
    where
      later : {q : ℕ}
          → after p ≡ after q
          → (after q ≡ b) ⊎ (0 < occurrences (after q) xs)
          → (after p ≡ b) ⊎ (0 < occurrences (after p) (x ∷ xs))
      later s (inl f) = inl (s ∙ f)
      later {q} s (inr g) =
          inr (subst (λ r. 0 < occurrences r (x ∷ xs)) (sym s)
          (let t : occurrences (after q) (x ∷ xs) ≡ (if nat_eq (after q) x then 1 else 0) + occurrences (after q) xs =
          refl in
          omega arith))

  -- ---- the element that follows, in a list of elements

  abbrev pub element_or_none : ℕ → ℕ → Option ℕ
  element_or_none b p = if nat_eq p b then None else Some p

  same_element : (b p q : ℕ) → p ≡ q → element_or_none b p ≡ element_or_none b q
  same_element b p q e = ap (element_or_none b) e

  at_end : (b : ℕ) → element_or_none b b ≡ None
  at_end b = ap (λ (t : Bool). if t then None else Some b) (eq-eqb b b refl)

  elsewhere : (b p : ℕ) → p < b → element_or_none b p ≡ Some p
  elsewhere b p l = ap (λ (t : Bool). if t then None else Some p) (unequal p b (λ e. absurd (omega arith)))

  -- the element after the start of a path, unless it is the end, is the first of the path
  pub first_is : (a : ℕ) (xs : List ℕ) (b : ℕ)
      → IsPath after before a xs b → AreWithin b xs
      → element_or_none b (after a) ≡ first_element xs
  first_is a [] b h w = same_element b (after a) b h.0 ∙ at_end b
  first_is a (x ∷ xs) b h w = same_element b (after a) x h.0 ∙ elsewhere b x w.0

  -- the element after one of a path, unless it is the end, is the one that follows it in the list
  pub following_is : (a : ℕ) (xs : List ℕ) (b p : ℕ)
      → IsPath after before a xs b → AreWithin b xs
      → 0 < occurrences p xs
      → element_or_none b (after p) ≡ following p xs
  following_is a [] b p h w m = absurd (omega arith)
  following_is a (x ∷ xs) b p h w m = elim (here_or_later p x xs m) [
    | inl e ↦ same_element b (after p) (after x) (ap after e)
        ∙ first_is x xs b h.2 w.1
        ∙ ap (λ (t : Bool). if t then first_element xs else following p xs) (sym (eq-eqb p x e))
    | inr l ↦ following_is x xs b p h.2 w.1 l.1
        ∙ ap (λ (t : Bool). if t then first_element xs else following p xs) (sym (unequal p x l.0))
  ]

-- ---- a path depends only on its own links

-- other links form the same path if they are equal at its elements and at its two ends
pub path_stays : (f g f' g' : ℕ → ℕ) (a : ℕ) (xs : List ℕ) (b : ℕ)
    → IsPath f g a xs b → f' a ≡ f a
    → ((q : ℕ) → 0 < occurrences q xs → f' q ≡ f q)
    → ((q : ℕ) → 0 < occurrences q xs → g' q ≡ g q)
    → g' b ≡ g b
    → IsPath f' g' a xs b
path_stays f g f' g' a [] b h fa fs gs gb = (fa ∙ h.0, gb ∙ h.1)
path_stays f g f' g' a (x ∷ xs) b h fa fs gs gb =
    let t = times_head x xs in (
      fa ∙ h.0,
      gs x t ∙ h.1,
      path_stays f g f' g' x xs b h.2 (fs x t)
          (λ q m.
          fs q
          (let s : occurrences q (x ∷ xs) ≡ (if nat_eq q x then 1 else 0) + occurrences q xs = refl in omega arith))
          (λ q m.
          gs q
          (let s : occurrences q (x ∷ xs) ≡ (if nat_eq q x then 1 else 0) + occurrences q xs = refl in omega arith))
          gb,
    )

-- ---- an element put last

-- the links after the element is put last
pub record IsPushed (f g f' g' : ℕ → ℕ) (p b : ℕ) : Type 0 where
  -- the one that was last is followed by p
  pub last : f' (g b) ≡ p
  -- p is followed by the bound
  pub after : f' p ≡ b
  -- the number after any other one is not changed
  pub afters : (q : ℕ) → q ≢ g b → q ≢ p → f' q ≡ f q
  -- p is preceded by the one that was last
  pub before : g' p ≡ g b
  -- the bound is preceded by p
  pub end : g' b ≡ p
  -- the number before any other one is not changed
  pub befores : (q : ℕ) → q ≢ p → q ≢ b → g' q ≡ g q

-- if an element that is not on a path is put last, the path is the one with it at the end
pub path_pushed : (f g f' g' : ℕ → ℕ) (a : ℕ) (xs : List ℕ) (b p : ℕ)
    → IsPushed f g f' g' p b → IsPath f g a xs b
    → a ≢ p → occurrences p xs ≡ 0
    → occurrences a xs ≡ 0 → occurrences b xs ≡ 0
    → ((q : ℕ) → occurrences q xs ≤ 1)
    → IsPath f' g' a (xs ++ p ∷ []) b
path_pushed f g f' g' a [] b p k h ap' np na nb once =
    (ap f' (sym h.1) ∙ k.last, k.before ∙ h.1, (k.after, k.end))
path_pushed f g f' g' a (x ∷ xs) b p k h a_p np na nb once =
    let x_b : x ≢ b = λ e. not_head b x xs nb (sym e) in
    let x_p : x ≢ p = λ e. not_head p x xs np (sym e) in
    let x_new : occurrences x xs ≡ 0 =
    (let o = once x in
    let t = times_head x xs in
    let e : nat_eq x x ≡ true = eq-eqb x x refl in
    let s : occurrences x (x ∷ xs) ≡ 1 + occurrences x xs =
    ap (λ (c : Bool). (if c then 1 else 0) + occurrences x xs) e in
    omega arith) in
    let a_last : a ≢ g b = (λ e. elim (before_end f g x xs b h.2) [
      | inl q ↦ not_head a x xs na (e ∙ q)
      | inr m ↦ let s : occurrences a xs ≡ occurrences (g b) xs =
          ap (λ q. occurrences q xs) e in let z : occurrences a xs ≤ occurrences a (x ∷ xs) = omega arith in omega arith
    ]) in (
      k.afters a a_last a_p ∙ h.0,
      k.befores x x_p x_b ∙ h.1,
      path_pushed f g f' g' x xs b p k h.2 x_p (omega arith) x_new (omega arith) (λ q. let o = once q in omega arith),
    )

-- ---- an element taken out

pub record IsUnlinked (f g f' g' : ℕ → ℕ) (p : ℕ) : Type 0 where
  -- the neighbour before p is followed by the neighbour after p
  pub after : f' (g p) ≡ f p
  -- the number after any other one is not changed
  pub afters : (q : ℕ) → q ≢ g p → f' q ≡ f q
  -- the neighbour after p is preceded by the neighbour before p
  pub before : g' (f p) ≡ g p
  -- the number before any other one is not changed
  pub befores : (q : ℕ) → q ≢ f p → g' q ≡ g q

once_out : (x : ℕ) (xs : List ℕ) → occurrences x (x ∷ xs) ≤ 1 → occurrences x xs ≡ 0
once_out x xs o =
    let s : occurrences x (x ∷ xs) ≡ 1 + occurrences x xs =
    ap (λ (c : Bool). (if c then 1 else 0) + occurrences x xs) (eq-eqb x x refl) in
    omega arith

-- if an element of a path is unlinked, the path is the one without it
pub path_unlinked : (f g f' g' : ℕ → ℕ) (a : ℕ) (xs : List ℕ) (b p : ℕ)
    → IsUnlinked f g f' g' p → IsPath f g a xs b
    → 0 < occurrences p xs → occurrences a xs ≡ 0
    → occurrences b xs ≡ 0 → ((q : ℕ) → occurrences q xs ≤ 1)
    → IsPath f' g' a (taken_out p xs) b
path_unlinked f g f' g' a [] b p k h m na nb once = absurd (omega arith)
path_unlinked f g f' g' a (x ∷ xs) b p k h m na nb once = elim (here_or_later p x xs m) [
  | inl e ↦ here e xs h.2 (once_out x xs (once x)) (omega arith) (omega arith) (λ q. let o = once q in omega arith)
  | inr l ↦ later l.0 l.1
      (path_unlinked f g f' g' x xs b p k h.2 l.1 (once_out x xs (once x)) (omega arith)
      (λ q. let o = once q in omega arith))
]
  where
    -- p is the first
    here : p ≡ x
        → (ys : List ℕ) → IsPath f g x ys b → occurrences x ys ≡ 0
        → occurrences a ys ≡ 0 → occurrences b ys ≡ 0
        → ((q : ℕ) → occurrences q ys ≤ 1)
        → IsPath f' g' a (if nat_eq p x then ys else x ∷ taken_out p ys) b
    here e ys t nx ny nz o =
        let before_p : g p ≡ a = ap g e ∙ h.1 in
        let taken : (if nat_eq p x then ys else x ∷ taken_out p ys) ≡ ys =
        ap (λ (c : Bool). if c then ys else x ∷ taken_out p ys) (eq-eqb p x e) in
        let start : f' a ≡ f p = ap f' (sym before_p) ∙ k.after in
        let back : g' (f p) ≡ a = k.before ∙ before_p in
        subst (λ zs. IsPath f' g' a zs b) (sym taken) (rest ys t before_p start back ny nz o)
      where
        rest : (ys : List ℕ)
            → IsPath f g x ys b → g p ≡ a
            → f' a ≡ f p → g' (f p) ≡ a
            → occurrences a ys ≡ 0 → occurrences b ys ≡ 0
            → ((q : ℕ) → occurrences q ys ≤ 1)
            → IsPath f' g' a ys b
        rest [] t before_p start back ny nz o =
            let q : f p ≡ b = ap f e ∙ t.0 in (start ∙ q, ap g' (sym q) ∙ back)
        rest (y ∷ ys) t before_p start back ny nz o =
            let q : f p ≡ y = ap f e ∙ t.0 in
            let apart_a : (r : ℕ) → 0 < occurrences r (y ∷ ys) → r ≢ g p =
            (λ r m' d.
            let s : occurrences r (y ∷ ys) ≡ occurrences a (y ∷ ys) =
            ap (λ z. occurrences z (y ∷ ys)) (d ∙ before_p) in
            omega arith) in
            let ny' = once_out y ys (o y) in
            let apart_y : (r : ℕ) → 0 < occurrences r ys → r ≢ f p =
            (λ r m' d.
            let s : occurrences r ys ≡ occurrences y ys = ap (λ z. occurrences z ys) (d ∙ q) in omega arith) in
            let b_y : b ≢ f p = (λ d. not_head b y ys nz (d ∙ q)) in (
              start ∙ q,
              ap g' (sym q) ∙ back,
              path_stays f g f' g' y ys b t.2 (k.afters y (apart_a y (times_head y ys)))
                  (λ r m'.
                  k.afters r
                  (apart_a r
                  (let s : occurrences r (y ∷ ys) ≡ (if nat_eq r y then 1 else 0) + occurrences r ys = refl in
                  omega arith)))
                  (λ r m'. k.befores r (apart_y r m')) (k.befores b b_y),
            )

    later : p ≢ x
        → 0 < occurrences p xs → IsPath f' g' x (taken_out p xs) b
        → IsPath f' g' a (if nat_eq p x then xs else x ∷ taken_out p xs) b
    later d m' rest =
        let kept : (if nat_eq p x then xs else x ∷ taken_out p xs) ≡ x ∷ taken_out p xs =
        ap (λ (c : Bool). if c then xs else x ∷ taken_out p xs) (unequal p x d) in
        let nx = once_out x xs (once x) in
        let a_before : a ≢ g p = (λ e. elim (before_member f g x xs b p h.2 m') [
          | inl q ↦ not_head a x xs na (e ∙ q)
          | inr n ↦ let s : occurrences a xs ≡ occurrences (g p) xs =
              ap (λ z. occurrences z xs) e in let z : occurrences a xs
              ≤ occurrences a (x ∷ xs) = omega arith in omega arith
        ]) in
        let x_after : x ≢ f p = (λ e. elim (after_member f g x xs b p h.2 m') [
          | inl q ↦ not_head b x xs nb (sym (e ∙ q))
          | inr n ↦ let s : occurrences x xs ≡ occurrences (f p) xs = ap (λ z. occurrences z xs) e in omega arith
        ]) in
        subst (λ zs. IsPath f' g' a zs b) (sym kept) (
          k.afters a a_before ∙ h.0,
          k.befores x x_after ∙ h.1,
          rest,
        )

-- ---- the elements that are left

-- a list without one of its elements is shorter by one
pub taken_length : (p : ℕ) (xs : List ℕ) → 0 < occurrences p xs → length (taken_out p xs) + 1 ≡ length xs
taken_length p [] m = absurd (omega arith)
taken_length p (x ∷ xs) m = by (nat_eq p x) m (taken_length p xs)
  where
    by : (c : Bool)
        → 0 < (if c then 1 else 0) + occurrences p xs
        → (0 < occurrences p xs → length (taken_out p xs) + 1 ≡ length xs)
        → length (if c then xs else x ∷ taken_out p xs) + 1 ≡ length (x ∷ xs)
    by true l r = omega arith
    by false l r = let h = r (omega arith) in omega arith

-- after p is taken out, p occurs once less in the list, and each other number as often as before
pub taken_times : (p q : ℕ) (xs : List ℕ)
    → 0 < occurrences p xs
    → occurrences q (taken_out p xs) + (if nat_eq q p then 1 else 0) ≡ occurrences q xs
taken_times p q [] m = absurd (omega arith)
taken_times p q (x ∷ xs) m = elim (here_or_later p x xs m) [
  | inl e ↦ ap
      (λ (c : Bool). occurrences q (if c then xs else x ∷ taken_out p xs) + (if nat_eq q p then 1 else 0))
      (eq-eqb p x e)
      ∙ (let s : (if nat_eq q p then 1 else 0) ≡ (if nat_eq q x then 1 else 0) =
      ap (λ z. let n : ℕ = if nat_eq q z then 1 else 0 in n) e in
      omega arith)
  | inr l ↦ ap
      (λ (c : Bool). occurrences q (if c then xs else x ∷ taken_out p xs) + (if nat_eq q p then 1 else 0))
      (unequal p x l.0)
      ∙ (let h = taken_times p q xs l.1 in omega arith)
]

-- a number occurs in a list as often as in the list without p and in the list of p together
pub taken_counts : (p q : ℕ) (xs : List ℕ)
    → 0 < occurrences p xs
    → occurrences q (taken_out p xs) + occurrences q (p ∷ []) ≡ occurrences q xs
taken_counts p q xs m =
    let t = taken_times p q xs m in
    let s : occurrences q (p ∷ []) ≡ (if nat_eq q p then 1 else 0) + 0 = refl in
    omega arith

-- if all elements are less than the bound, they are after one is taken out
pub taken_within : (bound p : ℕ) (xs : List ℕ) → AreWithin bound xs → AreWithin bound (taken_out p xs)
taken_within bound p [] w = tt
taken_within bound p (x ∷ xs) w = by (nat_eq p x) (taken_within bound p xs w.1)
  where
    by : (c : Bool) → AreWithin bound (taken_out p xs) → AreWithin bound (if c then xs else x ∷ taken_out p xs)
    by true r = w.1
    by false r = (w.0, r)

-- if all elements are less than the bound, they are after one less than it is put last
pub within-append : (bound p : ℕ) (xs : List ℕ) → AreWithin bound xs → p < bound → AreWithin bound (xs ++ p ∷ [])
within-append bound p [] w l = (l, tt)
within-append bound p (x ∷ xs) w l = (w.0, within-append bound p xs w.1 l)
