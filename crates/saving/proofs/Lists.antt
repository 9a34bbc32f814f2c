-- Lists with absent elements.
use Rattle.std.proofs.Common.{◌≡◌, ◌≢◌, ℕ, zero, suc, ◌+◌, ◌≤◌, ◌<◌, Bool, cond, List, [], ◌∷◌, length, map, set, get_or, Option, Some}
use Rattle.std.proofs.Common.{None, IsSome, is_some, refl, sym, ap, ◌∙◌, inl, inr, arith, get_or-set_same, get_or-set_other, true≢false}
use Rattle.std.specs.Prelude.{◌⊎◌, is_none, position, option_map, not}
use Rattle.std.specs.List.{prefix_len}
use Rattle.std.proofs.lemmas.Bool.{cases_eq, cases_lt, lt-ltb, le-ltb}
use Rattle.std.proofs.lemmas.Option.{none-some}
use Rattle.bpf_maps.specs.Sum.{weight, total}

-- ---- options

-- an option that is not empty is `Some` of a value
pub is_there : {A : Type 0} (o : Option A) → IsSome o → (x : A) × (o ≡ Some x)
is_there None some = absurd (true≢false (sym some))
is_there (Some x) some = (x, refl)

-- an option that is `Some` of a value is not empty
pub there_is : {A : Type 0} {o : Option A} {x : A} → o ≡ Some x → IsSome o
there_is e = ap is_some e

-- an option is not empty, or is `None`
pub some_or_none : {A : Type 0} (o : Option A) → IsSome o ⊎ (o ≡ None)
some_or_none None = inr refl
some_or_none (Some x) = inl refl

-- an option that is not empty is not `None`
pub not_none : {A : Type 0} {o : Option A} → IsSome o → o ≡ None → ⊥
not_none some none = true≢false (sym some ∙ ap is_some none)

-- ---- an element that is set

-- after an element is set its index has the new one, and each other index the one of before
pub set_by_index : {A : Type 0} (xs : List (Option A)) (n i : ℕ) (x : Option A) → n < length xs
    → ((i ≡ n) × (get_or (set xs n x) i None ≡ x)) ⊎ ((i ≢ n) × (get_or (set xs n x) i None ≡ get_or xs i None))
set_by_index xs n i x within = by (cases_eq i n)
  where
    by : (i ≡ n) ⊎ (i ≡ n → ⊥)
        → ((i ≡ n) × (get_or (set xs n x) i None ≡ x)) ⊎ ((i ≢ n) × (get_or (set xs n x) i None ≡ get_or xs i None))
    by (inl same) = inl (same, ap (λ (j : ℕ). get_or (set xs n x) j None) same ∙ get_or-set_same xs n x None within)
    by (inr other) = inr (other, get_or-set_other xs n i x None other)

-- the index of an element that is present is in the list
pub there_within : {A : Type 0} (xs : List (Option A)) (n : ℕ) → IsSome (get_or xs n None) → n < length xs
there_within [] n some = absurd (true≢false (sym some))
there_within (x ∷ xs) zero some = omega arith
there_within (x ∷ xs) (suc n) some = let rest = there_within xs n some in omega arith

-- ---- the first absent element

module _ {A B : Type 0} (f : A → B) where
  none_map : (o : Option A) → is_none (option_map f o) ≡ is_none o
  none_map None = refl
  none_map (Some x) = refl

  prefix_map : (xs : List (Option A))
      → prefix_len (λ o. not (is_none o)) (map (option_map f) xs) ≡ prefix_len (λ o. not (is_none o)) xs
  prefix_map [] = refl
  prefix_map (None ∷ xs) = refl
  prefix_map (Some x ∷ xs) = ap (λ (n : ℕ). 1 + n) (prefix_map xs)

  length_map : (xs : List (Option A)) → length (map (option_map f) xs) ≡ length xs
  length_map [] = refl
  length_map (x ∷ xs) = ap suc (length_map xs)

  -- a function on the present elements does not change the index of the first absent one
  pub position_map : (xs : List (Option A)) → position is_none (map (option_map f) xs) ≡ position is_none xs
  position_map xs = simp (prefix_map xs, length_map xs)

-- ---- sums

abbrev pub one : {A : Type 0} → A → ℕ
one x = 1

-- the number of elements that are present
abbrev pub present : {A : Type 0} → List (Option A) → ℕ
present xs = total one xs

-- the sum is that without an element and the element's number
pub total_out : {A : Type 0} (f : A → ℕ) (xs : List (Option A)) (n : ℕ) (x : A)
    → get_or xs n None ≡ Some x → total f xs ≡ f x + total f (set xs n None)
unfolding total
total_out f [] n x there = absurd (none-some x there)
total_out f (o ∷ os) zero x there = let here : weight f o ≡ f x = ap (weight f) there in omega arith
total_out f (o ∷ os) (suc n) x there = let rest = total_out f os n x there in omega arith

-- after an element is put at a free index the sum is greater by its number
pub total_in : {A : Type 0} (f : A → ℕ) (xs : List (Option A)) (n : ℕ) (x : A)
    → n < length xs → get_or xs n None ≡ None
    → total f (set xs n (Some x)) ≡ total f xs + f x
unfolding total
total_in f [] n x within free = absurd (omega arith)
total_in f (o ∷ os) zero x within free = let nothing : weight f o ≡ 0 = ap (weight f) free in omega arith
total_in f (o ∷ os) (suc n) x within free = let rest = total_in f os n x (omega arith) free in omega arith

total_nothing : {A : Type 0} (f : A → ℕ) (xs : List (Option A)) → ((i : ℕ) → get_or xs i None ≡ None) → total f xs ≡ 0
unfolding total
total_nothing f [] h = refl
total_nothing f (o ∷ os) h =
    let rest = total_nothing f os (λ i. h (suc i)) in
    let here : weight f o ≡ 0 = ap (weight f) (h zero) in
    omega arith

-- a second list with exactly the elements of the first, at other indices
pub record IsShuffled {A : Type 0} (move : ℕ → ℕ) (xs ys : List (Option A)) : Type 0 where
  -- each element of the first list is in the second one at its new index
  pub same : (i : ℕ) → IsSome (get_or xs i None) → get_or ys (move i) None ≡ get_or xs i None
  -- two elements of the first list with the same new index have the same index
  pub apart : (i j : ℕ) → IsSome (get_or xs i None) → IsSome (get_or xs j None) → move i ≡ move j → i ≡ j
  -- each element of the second list has the new index of an element of the first
  pub only : (k : ℕ) → IsSome (get_or ys k None) → (i : ℕ) × IsSome (get_or xs i None) × (move i ≡ k)

set_none : {A : Type 0} (ys : List (Option A)) (n k : ℕ)
    → IsSome (get_or (set ys n None) k None) → (k ≢ n) × IsSome (get_or ys k None)
set_none [] n k some = absurd (true≢false (sym some))
set_none (y ∷ ys) zero zero some = absurd (true≢false (sym some))
set_none (y ∷ ys) zero (suc k) some = (λ e. absurd (omega arith), some)
set_none (y ∷ ys) (suc n) zero some = (λ e. absurd (omega arith), some)
set_none (y ∷ ys) (suc n) (suc k) some = let (apart, there) = set_none ys n k some in (λ e. apart (omega arith), there)

-- the same without the first element
rest_shuffled : {A : Type 0} (move : ℕ → ℕ) (x : A) (xs ys : List (Option A))
    → IsShuffled move (Some x ∷ xs) ys → IsShuffled (λ i. move (suc i)) xs (set ys (move zero) None)
rest_shuffled {A} move x xs ys h = record {
  same = λ i some.
      get_or-set_other ys (move zero) (move (suc i)) None None
      (λ e. absurd (let wrong : suc i ≡ zero = h.apart (suc i) zero some refl e in omega arith))
      ∙ h.same (suc i) some;
  apart = λ i j a b e. let same : suc i ≡ suc j = h.apart (suc i) (suc j) a b e in omega arith;
  only = λ k some. let (other, there) = set_none ys (move zero) k some in by k other (h.only k there);
}
  where
    by : (k : ℕ)
        → k ≢ move zero
        → (i : ℕ) × IsSome (get_or (Some x ∷ xs) i None) × (move i ≡ k)
        → (i : ℕ) × IsSome (get_or xs i None) × (move (suc i) ≡ k)
    by k other (zero, some, at) = absurd (other (sym at))
    by k other (suc i, some, at) = (i, some, at)

rest_none : {A : Type 0} (move : ℕ → ℕ) (xs ys : List (Option A))
    → IsShuffled move (None ∷ xs) ys → IsShuffled (λ i. move (suc i)) xs ys
rest_none {A} move xs ys h = record {
  same = λ i some. h.same (suc i) some;
  apart = λ i j a b e. let same : suc i ≡ suc j = h.apart (suc i) (suc j) a b e in omega arith;
  only = λ k some. by k (h.only k some);
}
  where
    by : (k : ℕ)
        → (i : ℕ) × IsSome (get_or (let none : Option A = None in none ∷ xs) i None) × (move i ≡ k)
        → (i : ℕ) × IsSome (get_or xs i None) × (move (suc i) ≡ k)
    by k (zero, some, at) = absurd (true≢false (sym some))
    by k (suc i, some, at) = (i, some, at)

-- two lists with the same elements, at other indices, have the same sum
pub total_shuffled : {A : Type 0} (f : A → ℕ) (move : ℕ → ℕ) (xs ys : List (Option A))
    → IsShuffled move xs ys → total f ys ≡ total f xs
unfolding total
total_shuffled f move [] ys h = total_nothing f ys (λ k. by k (some_or_none (get_or ys k None)))
  where
    by : (k : ℕ) → IsSome (get_or ys k None) ⊎ (get_or ys k None ≡ None) → get_or ys k None ≡ None
    by k (inl some) = let (i, there, at) = h.only k some in absurd (true≢false (sym there))
    by k (inr none) = none
total_shuffled f move (None ∷ xs) ys h =
    let rest = total_shuffled f (λ i. move (suc i)) xs ys (rest_none move xs ys h) in omega arith
total_shuffled f move (Some x ∷ xs) ys h =
    let rest = total_shuffled f (λ i. move (suc i)) xs (set ys (move zero) None) (rest_shuffled move x xs ys h) in
    let out = total_out f ys (move zero) x (h.same zero refl) in
    omega arith

-- ---- room for one more element

prefix_all : {A : Type 0} (xs : List (Option A))
    → prefix_len (λ o. not (is_none o)) xs ≡ length xs → present xs ≡ length xs
unfolding total
prefix_all [] e = refl
prefix_all (None ∷ xs) e = absurd (omega arith)
prefix_all (Some x ∷ xs) e = let rest = prefix_all xs (omega arith) in omega arith

prefix_few : {A : Type 0} (xs : List (Option A)) → present xs ≤ length xs
unfolding total
prefix_few [] = omega arith
prefix_few (None ∷ xs) = let rest = prefix_few xs in omega arith
prefix_few (Some x ∷ xs) = let rest = prefix_few xs in omega arith

prefix_most : {A : Type 0} (xs : List (Option A)) → prefix_len (λ o. not (is_none o)) xs ≤ length xs
prefix_most [] = omega arith
prefix_most (None ∷ xs) = omega arith
prefix_most (Some x ∷ xs) = let rest = prefix_most xs in omega arith

prefix_less : {A : Type 0} (xs : List (Option A))
    → prefix_len (λ o. not (is_none o)) xs < length xs → present xs < length xs
unfolding total
prefix_less [] lt = absurd (omega arith)
prefix_less (None ∷ xs) lt = let rest = prefix_few xs in omega arith
prefix_less (Some x ∷ xs) lt = let rest = prefix_less xs (omega arith) in omega arith

-- two lists of one length with the same number of elements are both full or both have room
pub same_room : {A B : Type 0} (xs : List (Option A)) (ys : List (Option B))
    → length xs ≡ length ys → present xs ≡ present ys
    → ((position is_none xs ≡ None) × (position is_none ys ≡ None))
    ⊎ ((p : ℕ) × (q : ℕ) × (position is_none xs ≡ Some p) × (position is_none ys ≡ Some q))
same_room {A} {B} xs ys long many = by (cases_lt n (length xs)) (cases_lt m (length ys))
  where
    n : ℕ
    n = prefix_len (λ (o : Option A). not (is_none o)) xs

    m : ℕ
    m = prefix_len (λ (o : Option B). not (is_none o)) ys

    room : {A : Type 0} (xs : List (Option A))
        → prefix_len (λ o. not (is_none o)) xs < length xs
        → position is_none xs ≡ Some (prefix_len (λ o. not (is_none o)) xs)
    room xs lt =
        ap (λ (b : Bool). cond b (Some (prefix_len (λ o. not (is_none o)) xs)) None)
        (lt-ltb (prefix_len (λ o. not (is_none o)) xs) (length xs) lt)

    full : {A : Type 0} (xs : List (Option A))
        → length xs ≤ prefix_len (λ o. not (is_none o)) xs → position is_none xs ≡ None
    full xs le =
        ap (λ (b : Bool). cond b (Some (prefix_len (λ o. not (is_none o)) xs)) None)
        (le-ltb (prefix_len (λ o. not (is_none o)) xs) (length xs) le)

    all : {A : Type 0} (xs : List (Option A))
        → length xs ≤ prefix_len (λ o. not (is_none o)) xs → present xs ≡ length xs
    all xs le = let most = prefix_most xs in prefix_all xs (omega arith)

    by : (n < length xs) ⊎ (length xs ≤ n)
        → (m < length ys) ⊎ (length ys ≤ m)
        → ((position is_none xs ≡ None) × (position is_none ys ≡ None))
        ⊎ ((p : ℕ) × (q : ℕ) × (position is_none xs ≡ Some p) × (position is_none ys ≡ Some q))
    by (inl a) (inl b) = inr (n, m, room xs a, room ys b)
    by (inl a) (inr b) = absurd (let less = prefix_less xs a in let full_too = all ys b in omega (arith, long, many))
    by (inr a) (inl b) = absurd (let less = prefix_less ys b in let full_too = all xs a in omega (arith, long, many))
    by (inr a) (inr b) = inl (full xs a, full ys b)
