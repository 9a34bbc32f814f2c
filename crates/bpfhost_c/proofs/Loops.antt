-- A step of a loop over contexts.
use Rattle.std.proofs.Common.{◌≡◌, ℕ, suc, ◌+◌, ◌-◌, ◌*◌, ◌<◌, ◌≤◌, ◌&&◌, List, [], ◌∷◌, ◌++◌, take, drop, refl, sym, subst, arith}
use Rattle.std.proofs.lemmas.List.{append_assoc}
use Rattle.bpfhost_c.specs.Contexts.{fitted, fitted_all, has_only_known_words, have_known_words}

one_less : (count i : ℕ) → i < count → suc (count - (i + 1)) ≡ count - i
one_less count i below = omega arith

fitted_step : (size count i : ℕ) (words : List ℕ) → i < count
    → fitted_all size (count - i) words ≡ fitted (take size words) ∷ fitted_all size (count - (i + 1)) (drop size words)
fitted_step size count i words below =
    subst (λ (left : ℕ).
    fitted_all size left words ≡ fitted (take size words) ∷ fitted_all size (count - (i + 1)) (drop size words))
    (one_less count i below) refl

-- contexts have zeros after the words that a run is given exactly if the first has, and the others have
pub known_step : (size count i : ℕ) (words : List ℕ)
    → i < count
    → have_known_words size (count - i) words
    ≡ (has_only_known_words (take size words) && have_known_words size (count - (i + 1)) (drop size words))
known_step size count i words below =
    subst (λ (left : ℕ).
    have_known_words size left words
    ≡ (has_only_known_words (take size words) && have_known_words size (count - (i + 1)) (drop size words)))
    (one_less count i below) refl

-- if the contexts that are left fit in the words that are left, so do the next one and those after it
pub room_step : (size count i room : ℕ) → i < count → (count - i) * size ≤ room → (count - (i + 1)) * size + size ≤ room
room_step size count i room below fits =
    let whole : suc (count - (i + 1)) * size ≤ room =
    subst (λ (left : ℕ). left * size ≤ room) (sym (one_less count i below)) fits in
    grind arith

-- the contexts so far with the next one, and then those after it, are all contexts as a run is given them
pub fitted_more : (size count i : ℕ) (words : List ℕ) (before all : List (List ℕ))
    → i < count
    → before ++ fitted_all size (count - i) words ≡ all
    → (before ++ (fitted (take size words) ∷ [])) ++ fitted_all size (count - (i + 1)) (drop size words) ≡ all
fitted_more size count i words before all below is =
    subst (λ (whole : List (List ℕ)). whole ≡ all)
    (sym (append_assoc before (fitted (take size words) ∷ []) (fitted_all size (count - (i + 1)) (drop size words))))
    (subst (λ (left : List (List ℕ)). before ++ left ≡ all) (fitted_step size count i words below) is)
