-- How often an element occurs in a list, and how many entries there are.
use Rattle.std.proofs.Common.{◌≡◌, ℕ, ◌+◌, ◌≤◌, Bool, true, false, cond, List, [], ◌∷◌, ◌++◌, length, take, drop}
use Rattle.std.proofs.Common.{Some, None, refl, sym, ap, subst, ◌∙◌, nat_eq, nat_lt, if◌then◌else◌, arith, eq-eqb}
use Rattle.std.proofs.lemmas.List.{take-append-drop}
use Rattle.std.proofs.lemmas.Option.{none-some, same_Some}
use Rattle.std.proofs.lemmas.Bool.Decides.{nat_tests}
use Rattle.std.specs.Map.{values_of}
use Rattle.tagged_model.specs.Table.{is_key, found, without, with_key}
use Rattle.bpf_maps.specs.KeyTable.{occurrences, IsSized}

-- an element occurs in one list after another as often as in both together
pub times-append : (p : ℕ) (xs ys : List ℕ) → occurrences p (xs ++ ys) ≡ occurrences p xs + occurrences p ys
times-append p [] ys = omega arith
times-append p (x ∷ xs) ys = let h = times-append p xs ys in omega arith

-- an element occurs once in the list of this one element
pub times_self : (p : ℕ) → occurrences p (p ∷ []) ≡ 1
times_self p =
    let e : nat_eq p p ≡ true = eq-eqb p p refl in
    let P : Bool → Type 0 = λ b. (if b then 1 else 0) + 0 ≡ 1 in
    subst P (sym e) refl

one_of : (p n : ℕ)
    → (if nat_lt p n then 1 else 0) + ((if nat_eq p n then 1 else 0) + 0) ≡ (if nat_lt p (n + 1) then 1 else 0)
one_of p n = grind (arith, nat_tests)

-- the next element
pub times-next : (p n : ℕ) (xs : List ℕ)
    → occurrences p xs ≡ (if nat_lt p n then 1 else 0)
    → occurrences p (xs ++ n ∷ []) ≡ (if nat_lt p (n + 1) then 1 else 0)
times-next p n xs h = times-append p xs (n ∷ []) ∙ ap (λ (k : ℕ). k + occurrences p (n ∷ [])) h ∙ one_of p n

-- the elements of two lists of entries, one after the other, are those of the first and then of the second
pub values_of-append : {K : Type 0} (es fs : List (K × ℕ)) → values_of (es ++ fs) ≡ values_of es ++ values_of fs
values_of-append [] fs = refl
values_of-append (e ∷ es) fs = ap (λ r. e.1 ∷ r) (values_of-append es fs)

-- ---- sums over the elements of a list, such as how often an element occurs in it, and its length

abbrev pub IsSum : (List ℕ → ℕ) → Type 0
IsSum f = (xs ys : List ℕ) → f (xs ++ ys) ≡ f xs + f ys

-- a sum over the first n elements and the others
pub sum-split : (f : List ℕ → ℕ) → IsSum f → (n : ℕ) (xs : List ℕ) → f (take n xs) + f (drop n xs) ≡ f xs
sum-split f sum n xs = sym (sum (take n xs) (drop n xs)) ∙ ap f (take-append-drop n xs)

-- a key with its element is taken out of the entries
pub sum-without : (f : List ℕ → ℕ)
    → IsSum f
    → (key : List ℕ) (element : ℕ) (es : List (List ℕ × ℕ)) → found key es ≡ Some element
    → f (values_of (without key es)) + f (element ∷ []) ≡ f (values_of es)
sum-without f sum key element [] h = absurd (none-some element h)
sum-without f sum key element (e ∷ es) h = by (is_key key e.0) h (sum-without f sum key element es)
  where
    by : (b : Bool)
        → cond b (Some e.1) (found key es) ≡ Some element
        → (found key es ≡ Some element → f (values_of (without key es)) + f (element ∷ []) ≡ f (values_of es))
        → f (values_of (cond b es (e ∷ without key es))) + f (element ∷ []) ≡ f (values_of (e ∷ es))
    by true g rest =
        let here = ap (λ (p : ℕ). f (p ∷ [])) (same_Some e.1 element g) in
        let whole = sum (e.1 ∷ []) (values_of es) in
        omega arith
    by false g rest =
        let less = rest g in
        let before = sum (e.1 ∷ []) (values_of es) in
        let after = sum (e.1 ∷ []) (values_of (without key es)) in
        omega arith

-- the element of a key is in use
pub in_use : (p : ℕ) (key : List ℕ) (es : List (List ℕ × ℕ)) → found key es ≡ Some p → 1 ≤ occurrences p (values_of es)
in_use p key es h =
    let w = sum-without (occurrences p) (times-append p) key p es h in let one = times_self p in omega arith

-- the element of a removed key is kept apart
pub times-kept : (p : ℕ) (key : List ℕ) (element : ℕ) (es : List (List ℕ × ℕ)) (kept : List ℕ)
    → found key es ≡ Some element
    → occurrences p (values_of (without key es)) + occurrences p (kept ++ element ∷ [])
    ≡ occurrences p (values_of es) + occurrences p kept
times-kept p key element es kept h =
    let w = sum-without (occurrences p) (times-append p) key element es h in
    let a = times-append p kept (element ∷ []) in
    omega arith

-- if all keys have one size, they have it after a key is removed
pub sized-without : (n : ℕ) (key : List ℕ) (es : List (List ℕ × ℕ)) → IsSized n es → IsSized n (without key es)
sized-without n key [] h = tt
sized-without n key (e ∷ es) h = by (is_key key e.0) (sized-without n key es h.1)
  where
    by : (b : Bool) → IsSized n (without key es) → IsSized n (cond b es (e ∷ without key es))
    by true r = h.1
    by false r = (h.0, r)

-- if all keys have one size, they have it after a key of this size is added
pub sized-with : (n : ℕ) (key : List ℕ) (p : ℕ) (es : List (List ℕ × ℕ))
    → length key ≡ n → IsSized n es → IsSized n (with_key key p es)
sized-with n key p [] e h = (e, tt)
sized-with n key p (x ∷ es) e h = (h.0, sized-with n key p es e h.1)

-- the removal of an absent key changes nothing
pub without-absent : (key : List ℕ) (es : List (List ℕ × ℕ)) → found key es ≡ None → without key es ≡ es
without-absent key [] h = refl
without-absent key (e ∷ es) h = by (is_key key e.0) h (without-absent key es)
  where
    by : (b : Bool)
        → cond b (Some e.1) (found key es) ≡ None
        → (found key es ≡ None → without key es ≡ es)
        → cond b es (e ∷ without key es) ≡ e ∷ es
    by true g r = absurd (none-some e.1 (sym g))
    by false g r = ap (λ (xs : List (List ℕ × ℕ)). e ∷ xs) (r g)
