-- Laws of lists made of a function (`tabulate` of `Kinds`), and of lists with one element written,
-- as the lists of facts are. Proved here for the proofs of the crates above. This project's own. No
-- contract cites them, so they are not part of what has to be trusted.
use Rattle.std.proofs.Common.{◌≡◌, ℕ, ◌<◌, ◌≤◌, ◌==◌, if◌then◌else◌, List, length, get_or, set, sym, subst, ⊎_elim, arith, get_or-set_same, get_or-set_other}
use Rattle.std.proofs.Math.ListN.{length-set}
use Rattle.std.proofs.lemmas.Bool.{cases_lt, cond_both, eqb-true, eqb-false}
use Rattle.std.proofs.lemmas.List.{get_or_past}
use Rattle.std.proofs.lemmas.List.FromFn.{get_or-map-range_with_len, length-map-range_with_len}
use Rattle.reg_kinds.specs.Kinds.{tabulate}

-- ---- a list made of a function

-- the element at i of a list of f 0 to f (n - 1) is f i
pub tabulate-at : {X : Type 0} (f : ℕ → X) (n i : ℕ) (d : X)
    → i < n
    → get_or (tabulate n f) i d ≡ f i
unfolding tabulate
tabulate-at f n i d h = get_or-map-range_with_len f 0 n i i d h (omega arith)

-- a list of f 0 to f (n - 1) has length n
pub length-tabulate : {X : Type 0} (f : ℕ → X) (n : ℕ) → length (tabulate n f) ≡ n
unfolding tabulate
length-tabulate f n = length-map-range_with_len f 0 n

-- an element read at i past the end of a list of f 0 to f (n - 1) is the default d
tabulate-past : {X : Type 0} (f : ℕ → X) (n i : ℕ) (d : X) → n ≤ i → get_or (tabulate n f) i d ≡ d
tabulate-past f n i d h =
    let l = length-tabulate f n in get_or_past (tabulate n f) i d (omega arith)

-- what holds of f i, and of the default d, which is read past the end, holds of the element read at
-- i of a list of f 0 to f (n - 1)
pub in_table : {X : Type 0} (P : X → Type 0) (f : ℕ → X) (n i : ℕ) (d : X)
    → P (f i)
    → P d
    → P (get_or (tabulate n f) i d)
in_table P f n i d here past =
    ⊎_elim
    (λ lt. subst P (sym (tabulate-at f n i d lt)) here)
    (λ le. subst P (sym (tabulate-past f n i d le)) past)
    (cases_lt i n)

-- ---- a list with one element written

-- what holds of x, and of the default d, which is read past the end, holds of the element read at i
-- once x is written at i
set-at : {X : Type 0} (P : X → Type 0) (xs : List X) (i : ℕ) (x d : X)
    → P x
    → P d
    → P (get_or (set xs i x) i d)
set-at P xs i x d here past =
    ⊎_elim
    (λ lt. subst P (sym (get_or-set_same xs i x d lt)) here)
    (λ le.
    subst P (sym (get_or_past (set xs i x) i d (let l = length-set xs i x in omega arith))) past)
    (cases_lt i (length xs))

-- Suppose that P relates the element at each k to g k, with d for those past the end, and relates x
-- and d to y. Then P relates them also after x is written at i of the list, and y at i of g
pub in_written : {X Y : Type 0} (P : X → Y → Type 0) (xs : List X) (g : ℕ → Y) (i : ℕ) (x d : X)
    (y : Y)
    → P x y
    → P d y
    → ((k : ℕ) → P (get_or xs k d) (g k))
    → (k : ℕ)
    → P (get_or (set xs i x) k d) (if k == i then y else g k)
in_written P xs g i x d y here past others k =
    cond_both (k == i) y (g k) (λ z. P (get_or (set xs i x) k d) z)
    (λ t.
    subst (λ j. P (get_or (set xs i x) j d) y) (sym (eqb-true k i t))
    (set-at (λ z. P z y) xs i x d here past))
    (λ t. subst (λ z. P z (g k)) (sym (get_or-set_other xs i k x d (eqb-false k i t))) (others k))

-- what holds of all elements, of x and of the default d, which is read past the end, holds of all
-- elements once x is written at i
pub in_set : {X : Type 0} (P : X → Type 0) (xs : List X) (i : ℕ) (x d : X)
    → P x
    → P d
    → ((k : ℕ) → P (get_or xs k d))
    → (k : ℕ)
    → P (get_or (set xs i x) k d)
in_set P xs i x d here past others k =
    in_written {Y = ℕ} (λ z _. P z) xs (λ _. 0) i x d 0 here past others k
