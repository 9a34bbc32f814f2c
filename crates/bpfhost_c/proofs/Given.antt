-- Contexts of as many words as a run has.
use Rattle.std.proofs.Common.{◌≡◌, ℕ, zero, suc, ◌+◌, ◌-◌, ◌*◌, ◌≤◌, ◌&&◌, Bool, true, nat_eq, List}
use Rattle.std.proofs.Common.{[], ◌∷◌, ◌++◌, take, drop, length, replicate, min, refl, sym, subst, arith}
use Rattle.std.proofs.lemmas.List.{append-nil, take_all, drop_all, length-take-le, length-drop}
use Rattle.std.specs.List.{list_all}
use Rattle.std.specs.Simd.{first_chunks}
use Rattle.bpfhost_c.specs.Contexts.{fitted, fitted_all, has_only_known_words, have_known_words}

-- a context of ten words is as it is
fitted_ten : (words : List ℕ) → length words ≡ 10 → fitted words ≡ words
fitted_ten words ten =
    subst (λ (count : ℕ). take (min count 10) words ++ drop (min count 10) (replicate 10 0) ≡ words) (sym ten)
    (subst (λ (front : List ℕ). front ≡ words) (sym (append-nil (take 10 words))) (take_all 10 words (omega arith)))

known_ten : (words : List ℕ) → length words ≡ 10 → has_only_known_words words ≡ true
known_ten words ten =
    subst (λ (more : List ℕ). list_all (λ word. nat_eq word 0) more ≡ true) (sym (drop_all 10 words (omega arith))) refl

fits_first : (count n : ℕ) → suc count * 10 ≤ n → 10 ≤ n
fits_first count n fits = omega arith

fits_rest : (count : ℕ) (words : List ℕ) → suc count * 10 ≤ length words → count * 10 ≤ length (drop 10 words)
fits_rest count words fits = subst (λ (n : ℕ). count * 10 ≤ n) (sym (length-drop 10 words)) (omega arith)

-- contexts of ten words are given to a run as they are
pub as_given : (count : ℕ) (words : List ℕ)
    → count * 10 ≤ length words → first_chunks 10 count words ≡ fitted_all 10 count words
as_given zero words fits = refl
as_given (suc count) words fits =
    subst (λ (context : List ℕ).
    take 10 words ∷ first_chunks 10 count (drop 10 words) ≡ context ∷ fitted_all 10 count (drop 10 words))
    (sym (fitted_ten (take 10 words) (length-take-le 10 words (fits_first count (length words) fits))))
    (subst (λ (more : List (List ℕ)). take 10 words ∷ first_chunks 10 count (drop 10 words) ≡ take 10 words ∷ more)
    (as_given count (drop 10 words) (fits_rest count words fits))
    refl)

-- contexts of ten words have only zeros after the words that a run is given
pub all_known : (count : ℕ) (words : List ℕ) → count * 10 ≤ length words → have_known_words 10 count words ≡ true
all_known zero words fits = refl
all_known (suc count) words fits =
    subst (λ (known : Bool). (known && have_known_words 10 count (drop 10 words)) ≡ true)
    (sym (known_ten (take 10 words) (length-take-le 10 words (fits_first count (length words) fits))))
    (all_known count (drop 10 words) (fits_rest count words fits))
