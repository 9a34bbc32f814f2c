-- Bytes are at most one token, and a text has at most one longest token at its front.
use Rattle.std.proofs.Common.{◌≡◌, ℕ, Bool, true, false, not, ◌&&◌, cond, List, [], ◌∷◌, ◌++◌, length, take}
use Rattle.std.proofs.Common.{drop, Option, Some, None, option_map, refl, sym, ap, ◌∙◌, arith, subst, inl, inr}
use Rattle.std.specs.Prelude.{codes, slice_index}
use Rattle.std.specs.List.{list_all, Contains}
use Rattle.std.specs.Char.{is_ascii_digit}
use Rattle.std.specs.Str.Parse.{digits_value}
use Rattle.std.proofs.lemmas.Bool.{false≢true, and_parts, or_cases, not-true, both_ways}
use Rattle.std.proofs.Math.Seq.{take-append_seam, drop-append_seam}
use Rattle.text_line.specs.Token.{Token, name, number, symbol, symbols, is_name, value_of, is_name_start, is_name_byte, IsToken, BeginsWith}
use Rattle.text_line.specs.inside.Tokens.{symbol_at, is_hexadecimal, name_at, number_at, token_at}
use Rattle.std.specs.Option.{option_or}
use Rattle.text_line.proofs.Fronts.{begins_no_name, symbols_no_name, symbols_no_digit, begins_no_digit, start_in_name}
use Rattle.text_line.proofs.Longest.{each_symbol, no_digit_symbol, name_bytes, number_first, all_digits_of}
use Rattle.text_line.proofs.Longest.{no_symbol_there, symbol_back, name_first, digit_first, start_no_digit, taken}

-- ---- one token

name_no_symbol : {A : Type 0} (bytes : List ℕ) → is_name bytes ≡ true → begins_no_name bytes ≡ true → A
name_no_symbol [] h other = absurd (false≢true h)
name_no_symbol (a ∷ []) h other =
    absurd (both_ways (is_name_byte a) (not-true (is_name_byte a) other) (start_in_name a (name_bytes (a ∷ []) h).0))
name_no_symbol (a ∷ b ∷ n) h other =
    let both = and_parts (is_name_byte a) (is_name_byte b && list_all is_name_byte n) (name_bytes (a ∷ b ∷ n) h).1 in
    let second = and_parts (is_name_byte b) (list_all is_name_byte n) both.1 in
    elim (or_cases (not (is_name_byte a)) (not (is_name_byte b)) other) [
      | inl first ↦ absurd (both_ways (is_name_byte a) (not-true (is_name_byte a) first) both.0)
      | inr later ↦ absurd (both_ways (is_name_byte b) (not-true (is_name_byte b) later) second.0)
    ]

-- the bytes of a decimal number are not those of a hexadecimal one
not_both : (bytes digits : List ℕ) → list_all is_ascii_digit bytes ≡ true → bytes ≡ codes "0x" ++ digits → ⊥
not_both bytes digits h e =
    let all : list_all is_ascii_digit (codes "0x" ++ digits) ≡ true = sym (ap (list_all is_ascii_digit) e) ∙ h in
    false≢true all

one_value : (bytes : List ℕ) (v w : Option ℕ) → IsToken bytes (number v) → IsToken bytes (number w) → v ≡ w
one_value bytes v w (inl h) (inl k) = h.1 ∙ sym k.1
one_value bytes v w (inl h) (inr k) = absurd (not_both bytes k.0 (all_digits_of is_ascii_digit bytes h.0) k.1)
one_value bytes v w (inr h) (inl k) = absurd (not_both bytes h.0 (all_digits_of is_ascii_digit bytes k.0) h.1)
one_value bytes v w (inr h) (inr k) =
    let same : h.0 ≡ k.0 = ap (drop 2) (sym h.1 ∙ k.1) in
    h.3 ∙ ap (λ (ds : List ℕ). value_of (digits_value 16 ds)) same ∙ sym k.3

symbol_name : {A : Type 0} (bytes z : List ℕ) → bytes ≡ z → Contains symbols z → is_name bytes ≡ true → A
symbol_name bytes z same among is =
    name_no_symbol bytes is
    (subst (λ (t : List ℕ). begins_no_name t ≡ true) (sym same)
    (each_symbol (λ s. begins_no_name s ≡ true) z symbols_no_name among))

symbol_number : {A : Type 0} (bytes z : List ℕ) (v : Option ℕ)
    → bytes ≡ z → Contains symbols z → IsToken bytes (number v) → A
symbol_number bytes z v same among is =
    absurd (no_digit_symbol bytes
    (subst (λ (t : List ℕ). begins_no_digit t ≡ true) (sym same)
    (each_symbol (λ s. begins_no_digit s ≡ true) z symbols_no_digit among))
    (number_first bytes v is))

name_number : {A : Type 0} (bytes : List ℕ) (v : Option ℕ) → is_name bytes ≡ true → IsToken bytes (number v) → A
name_number bytes v is h = start_no_digit (slice_index bytes 0) (name_bytes bytes is).0 (number_first bytes v h)

one_token : (bytes : List ℕ) (t u : Token) → IsToken bytes t → IsToken bytes u → t ≡ u
one_token bytes (name n) (name m) h k = ap name (sym h.0 ∙ k.0)
one_token bytes (name n) (number v) h k = name_number bytes v h.1 k
one_token bytes (name n) (symbol s) h k = symbol_name bytes s k.0 k.1 h.1
one_token bytes (number v) (name n) h k = name_number bytes v k.1 h
one_token bytes (number v) (number w) h k = ap number (one_value bytes v w h k)
one_token bytes (number v) (symbol s) h k = symbol_number bytes s v k.0 k.1 h
one_token bytes (symbol s) (name n) h k = symbol_name bytes s h.0 h.1 k.1
one_token bytes (symbol s) (number v) h k = symbol_number bytes s v h.0 h.1 k
one_token bytes (symbol s) (symbol z) h k = ap symbol (sym h.0 ∙ k.0)

-- ---- one front

same_front_bytes : (text x y r s : List ℕ) → text ≡ x ++ r → text ≡ y ++ s → length x ≡ length y → (x ≡ y) × (r ≡ s)
same_front_bytes text x y r s e f n = (
  sym (take-append_seam x r)
      ∙ ap (take (length x)) (sym e ∙ f)
      ∙ ap (λ (k : ℕ). take k (y ++ s)) n
      ∙ take-append_seam y s,
  sym (drop-append_seam x r)
      ∙ ap (drop (length x)) (sym e ∙ f)
      ∙ ap (λ (k : ℕ). drop k (y ++ s)) n
      ∙ drop-append_seam y s,
)

-- a text begins with at most one token, the longest, and has one rest after it
pub same_begin : (text : List ℕ) (t u : Token) (r s : List ℕ)
    → BeginsWith text t r → BeginsWith text u s → (t ≡ u) × (r ≡ s)
same_begin text t u r s h k =
    let n : length h.bytes ≡ length k.bytes =
    omega (arith, h.longest u k.bytes s k.parts k.is_token, k.longest t h.bytes r h.parts h.is_token) in
    let same = same_front_bytes text h.bytes k.bytes r s h.parts k.parts n in
    (one_token k.bytes t u (subst (λ (bytes : List ℕ). IsToken bytes t) same.0 h.is_token) k.is_token, same.1)

-- ---- if a text begins with a token, `token_at` finds it

record IsBare (text : List ℕ) : Type 0 where
  symbol_none : symbol_at text ≡ None
  no_start : is_name_start (slice_index text 0) ≡ false
  no_digit : is_ascii_digit (slice_index text 0) ≡ false

none_of : {A B : Type 0} (f : A → B) (o : Option A) (b h d : Bool) (x y z : B)
    → option_or (option_map f o) (option_or (cond b (Some x) None) (cond h (Some y) (cond d (Some z) None))) ≡ None
    → (o ≡ None) × (b ≡ false) × (d ≡ false)
none_of f (Some a) b h d x y z e = absurd cc
none_of f None true h d x y z e = absurd cc
none_of f None false true d x y z e = absurd cc
none_of f None false false true x y z e = absurd cc
none_of f None false false false x y z e = (refl, refl, refl)

is_bare : (text : List ℕ) → token_at text ≡ None → IsBare text
unfolding token_at name_at number_at
is_bare text e =
    let none =
    none_of _ (symbol_at text) (is_name_start (slice_index text 0)) (is_hexadecimal text)
    (is_ascii_digit (slice_index text 0)) _ _ _ e in
    record { symbol_none = none.0; no_start = none.1; no_digit = none.2 }

not_bare : (text : List ℕ) (t : Token) (front back : List ℕ) → IsBare text → text ≡ front ++ back → IsToken front t → ⊥
not_bare text (symbol s) front back bare e h =
    no_symbol_there text s back bare.symbol_none (symbol_back text s front back e h.0) h.1
not_bare text (name n) front back bare e h =
    both_ways (is_name_start (slice_index text 0)) bare.no_start (name_first text front back e h.1)
not_bare text (number v) front back bare e h =
    both_ways (is_ascii_digit (slice_index text 0)) bare.no_digit (digit_first text front back v e h)

found_as : (text : List ℕ) (t : Token) (rest : List ℕ) (o : Option (Token × List ℕ))
    → BeginsWith text t rest → token_at text ≡ o → o ≡ Some (t, rest)
found_as text t rest None h e = absurd (not_bare text t h.bytes rest (is_bare text e) h.parts h.is_token)
found_as text t rest (Some p) h e =
    let same = same_begin text p.0 t p.1 rest (taken text p.0 p.1 e) h in
    ap (λ (x : Token). Some (x, p.1)) same.0 ∙ ap (λ (r : List ℕ). Some (t, r)) same.1

-- the longest token with which a text begins is found at its front
pub found : (text : List ℕ) (t : Token) (rest : List ℕ) → BeginsWith text t rest → token_at text ≡ Some (t, rest)
found text t rest h = found_as text t rest (token_at text) h refl
