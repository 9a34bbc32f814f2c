-- What is found in a table passes each test that its rows pass, and is undone by the function whose
-- values its rows have: one computation over the rows shows it. This project's own. No contract
-- cites these laws, so they are not part of what has to be trusted.
use Rattle.std.proofs.Common.{◌≡◌, ℕ, Bool, true, false, cond, eqb, List, [], ◌∷◌, Some, refl}
use Rattle.std.specs.Str.{bytes_eq}
use Rattle.std.specs.List.{list_all}
use Rattle.std.proofs.lemmas.Bool.{and_parts, eqb-true}
use Rattle.std.proofs.lemmas.Slice.Eq.{bytes_eq-Decides}
use Rattle.insn_set.specs.Table.{Row, by_number, by_symbol, named}

-- if each row's value and number pass a test, so does a value that is found by its number
pub found_number : {A : Type 0} (test : A → ℕ → Bool) (rows : List (Row A)) (n : ℕ) (v : A)
    → list_all (λ row. test row.0 row.1) rows ≡ true
    → by_number rows n ≡ Some v
    → test v n ≡ true
found_number test [] n v all e = absurd cc
found_number test (row ∷ rows) n v all e =
    let (here, more) = and_parts (test row.0 row.1) (list_all (λ row. test row.0 row.1) rows) all in
    elim (eqb row.1 n) as
    (λ b. eqb row.1 n ≡ b → cond b (Some row.0) (by_number rows n) ≡ Some v → test v n ≡ true) [
      | true ↦ λ same e. cc (here, eqb-true row.1 n same)
      | false ↦ λ _ e. found_number test rows n v more e
    ] refl e

-- if the number in each row is `number` of the row's value, then a value that is found by n has the
-- number n
pub number_of : {A : Type 0} (number : A → ℕ) (rows : List (Row A)) (n : ℕ) (v : A)
    → list_all (λ row. eqb (number row.0) row.1) rows ≡ true
    → by_number rows n ≡ Some v
    → number v ≡ n
number_of number rows n v all e =
    eqb-true (number v) n (found_number (λ v n. eqb (number v) n) rows n v all e)

-- two lists for which the test `bytes_eq` is true are equal. `by_symbol` and `named` compare by
-- this test, so a row that they find has exactly the symbol or name that they were given
is_eq : (x y : List ℕ) → bytes_eq x y ≡ true → x ≡ y
is_eq x y e = (bytes_eq-Decides x y).0 e

-- if each row's value and symbol pass a test, so does a value that is found by its symbol
pub found_symbol : {A : Type 0} (test : A → List ℕ → Bool) (rows : List (Row A)) (s : List ℕ)
    (v : A)
    → list_all (λ row. test row.0 row.2) rows ≡ true
    → by_symbol rows s ≡ Some v
    → test v s ≡ true
found_symbol test [] s v all e = absurd cc
found_symbol test (row ∷ rows) s v all e =
    let (here, more) = and_parts (test row.0 row.2) (list_all (λ row. test row.0 row.2) rows) all in
    elim (bytes_eq s row.2) as
    (λ b.
    bytes_eq s row.2 ≡ b → cond b (Some row.0) (by_symbol rows s) ≡ Some v → test v s ≡ true) [
      | true ↦ λ same e. cc (here, is_eq s row.2 same)
      | false ↦ λ _ e. found_symbol test rows s v more e
    ] refl e

-- if each row has its value's symbol, the value that is found by a symbol has this symbol
pub symbol_of : {A : Type 0} (symbol : A → List ℕ) (rows : List (Row A)) (s : List ℕ) (v : A)
    → list_all (λ row. bytes_eq (symbol row.0) row.2) rows ≡ true
    → by_symbol rows s ≡ Some v
    → symbol v ≡ s
symbol_of symbol rows s v all e =
    is_eq (symbol v) s (found_symbol (λ v s. bytes_eq (symbol v) s) rows s v all e)

-- if each row's name and value pass a test, so do a name and the value that is found by it
pub found_named : {A : Type 0} (test : List ℕ → A → Bool) (table : List (List ℕ × A)) (n : List ℕ)
    (v : A)
    → list_all (λ row. test row.0 row.1) table ≡ true
    → named table n ≡ Some v
    → test n v ≡ true
found_named test [] n v all e = absurd cc
found_named test (row ∷ table) n v all e =
    let (here, more) =
    and_parts (test row.0 row.1) (list_all (λ row. test row.0 row.1) table) all in
    elim (bytes_eq n row.0) as
    (λ b. bytes_eq n row.0 ≡ b → cond b (Some row.1) (named table n) ≡ Some v → test n v ≡ true) [
      | true ↦ λ same e. cc (here, is_eq n row.0 same)
      | false ↦ λ _ e. found_named test table n v more e
    ] refl e

-- if the name in each row is `name` of the row's value, then a value that is found by n has the
-- name n
pub name_of : {A : Type 0} (name : A → List ℕ) (table : List (List ℕ × A)) (n : List ℕ) (v : A)
    → list_all (λ row. bytes_eq (name row.1) row.0) table ≡ true
    → named table n ≡ Some v
    → name v ≡ n
name_of name table n v all e =
    is_eq (name v) n (found_named (λ n v. bytes_eq (name v) n) table n v all e)
