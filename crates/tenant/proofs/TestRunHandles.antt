-- The handles of the maps that a program loads: no two are the same.
use Rattle.std.proofs.Common.{◌≡◌, ℕ, zero, suc, ◌<◌, ◌≤◌, Bool, true, false, List, [], ◌∷◌, length, get_or, refl, sym, subst, arith}
use Rattle.std.specs.Prelude.{nat_lt}
use Rattle.std.proofs.lemmas.Bool.{ltb-true, ltb-false}
use Rattle.tenant.specs.Kept.{times_listed}
use Rattle.tenant.proofs.LoadingHandles.{seconds}
use Rattle.tenant.proofs.Releases.{here_one}

-- the handle of the i-th entry
abbrev pub listed_handle : List (ℕ × ℕ) → ℕ → ℕ
listed_handle maps i = (get_or maps i (0, 0)).1

-- the handle at an index is that of the entry there
pub handle_at : (maps : List (ℕ × ℕ)) (i : ℕ) → get_or (seconds maps) i 0 ≡ listed_handle maps i
handle_at [] i = refl
handle_at (m ∷ ms) zero = refl
handle_at (m ∷ ms) (suc i) = handle_at ms i

-- a handle that is in a list is listed at least once
pub times_here : (ps : List ℕ) (i : ℕ) → i < length ps → 1 ≤ times_listed (get_or ps i 0) ps
unfolding times_listed
times_here [] i lt = absurd (omega arith)
times_here (p ∷ ps) zero lt = let one = here_one p p refl in omega arith
times_here (p ∷ ps) (suc i) lt = let rest = times_here ps i (omega arith) in omega arith

times_twice : (ps : List ℕ) (i j : ℕ)
    → i < j → j < length ps
    → get_or ps i 0 ≡ get_or ps j 0
    → 2 ≤ times_listed (get_or ps i 0) ps
unfolding times_listed
times_twice [] i j less lt same = absurd (omega arith)
times_twice (p ∷ ps) zero zero less lt same = absurd (omega arith)
times_twice (p ∷ ps) zero (suc j) less lt same =
    let one = here_one p p refl in
    let rest : 1 ≤ times_listed p ps =
    subst (λ (q : ℕ). 1 ≤ times_listed q ps) (sym same) (times_here ps j (omega arith)) in
    omega arith
times_twice (p ∷ ps) (suc i) zero less lt same = absurd (omega arith)
times_twice (p ∷ ps) (suc i) (suc j) less lt same =
    let rest = times_twice ps i j (omega arith) (omega arith) same in omega arith

-- two entries with the same handle are the same entry
pub same_entry : (ps : List ℕ)
    → ((handle : ℕ) → times_listed handle ps ≤ 1)
    → (i j : ℕ) → i < length ps → j < length ps
    → get_or ps i 0 ≡ get_or ps j 0
    → i ≡ j
same_entry ps once i j i_within j_within same = by (nat_lt i j) (nat_lt j i) refl refl
  where
    by : (a b : Bool) → nat_lt i j ≡ a → nat_lt j i ≡ b → i ≡ j
    by true b e f =
        absurd (let less = ltb-true i j e in
        let twice = times_twice ps i j less j_within same in
        let most = once (get_or ps i 0) in
        omega arith)
    by false true e f =
        absurd (let less = ltb-true j i f in
        let twice = times_twice ps j i less i_within (sym same) in
        let most = once (get_or ps j 0) in
        omega arith)
    by false false e f = let a = ltb-false i j e in let b = ltb-false j i f in omega arith
