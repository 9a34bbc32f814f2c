-- A text in a room, with a zero byte after it.
use Rattle.std.proofs.Common.{◌≡◌, ℕ, zero, suc, ◌+◌, ◌-◌, ◌<◌, ◌≤◌, List, [], ◌∷◌, ◌++◌, take}
use Rattle.std.proofs.Common.{drop, length, set, Result, Ok, IfOk, refl, ap, subst, ◌∙◌, arith}
use Rattle.std.proofs.lemmas.List.{length-take-le, set-append_right}
use Rattle.bpfhost_c.specs.Logs.{fitting, text_in}

-- the first byte after those that are dropped is set
first_set : (n : ℕ) (xs : List ℕ) (byte : ℕ) → n < length xs → set (drop n xs) 0 byte ≡ byte ∷ drop (suc n) xs
first_set n [] byte within = absurd (omega arith)
first_set zero (x ∷ xs) byte within = refl
first_set (suc n) (x ∷ xs) byte within = first_set n xs byte (omega arith)

-- as much of a text as fits, copied to the front of a room, with a zero byte set after it, is the text in the room
pub text_ended : (text room : List ℕ) (n : ℕ)
    → n ≡ fitting text room → n ≤ length text
    → n < length room
    → set (take n text ++ drop n room) n 0 ≡ text_in text room
text_ended text [] n is short within = absurd (omega arith)
text_ended text (byte ∷ rest) n is short within =
    let room = byte ∷ rest in
    let none : n - n ≡ 0 = omega arith in
    let next : suc n ≡ n + 1 = omega arith in
    set-append_right (take n text) (drop n room) n n 0 (length-take-le n text short) (omega arith)
    ∙ ap (λ (i : ℕ). take n text ++ set (drop n room) i 0) none
    ∙ ap (λ (bytes : List ℕ). take n text ++ bytes) (first_set n room 0 within)
    ∙ ap (λ (i : ℕ). take n text ++ 0 ∷ drop i room) next
    ∙ ap (λ (i : ℕ). take i text ++ 0 ∷ drop (i + 1) room) is

-- what holds of a result holds of its value
pub of_ok : {A E : Type 0} (P : A → Type 0) (r : Result A E) (x : A) → r ≡ Ok x → IfOk r P → P x
of_ok P r x is h = subst (λ (s : Result _ _). IfOk s P) is h
