-- The tokens of a line.
use Rattle.std.proofs.Common.{◌≡◌, ℕ, ◌+◌, ◌<◌, ◌^◌, Bool, true, false, ltb, cond, List, [], ◌∷◌, ◌++◌, length, take, drop, get_or}
use Rattle.std.proofs.Common.{Option, Some, None, Result, Ok, Err, refl, sym, ap, ◌∙◌, arith, option_map, subst, append_assoc, inl, inr}
use Rattle.std.specs.List.{prefix_len}
use Rattle.std.specs.Option.{option_map_or}
use Rattle.std.specs.Result.{result_ok, OkIff}
use Rattle.std.specs.Str.Parse.{digits_value, AllDigits, IsNumeral, ParsesUnsigned, without_leading_plus}
use Rattle.std.specs.Char.{digit_value, is_ascii_digit}
use Rattle.std.proofs.lemmas.Bool.{false≢true, lt-ltb, le-ltb, cases_lt}
use Rattle.std.proofs.lemmas.Bool.Decides.{nat_tests}
use Rattle.std.proofs.lemmas.Str.Parse.{without_leading_plus_none}
use Rattle.text_line.specs.declared.token.ByteClass.{ByteClass}
use Rattle.text_line.specs.declared.token.ByteClass.TheVariants.{Blank, Name, Digit, HexDigit}
use Rattle.std.proofs.lemmas.List.{map-append}
use Rattle.text_line.specs.declared.token.Token.{Token as CodeToken}
use Rattle.text_line.specs.inside.Shown.{shown, shown_tokens}
use Rattle.text_line.specs.inside.Class.{in_class, IsDigits}
use Rattle.text_line.specs.Blanks.{is_blank, skip_blanks}
use Rattle.text_line.specs.Token.{Token, symbol, value_of, is_hex_digit, HasTokens, is_over}
use Rattle.text_line.specs.inside.Tokens.{symbol_at, token_at}
use Rattle.text_line.proofs.Longest.{symbol_is, taken}
use Rattle.text_line.proofs.OneToken.{found}

-- `skip_blanks` leaves out the longest front of blanks
pub skip_blanks-run : (bs : List ℕ) → drop (prefix_len is_blank bs) bs ≡ skip_blanks bs
skip_blanks-run [] = refl
skip_blanks-run (b ∷ bs) =
    let next : drop (1 + prefix_len is_blank bs) (b ∷ bs) ≡ drop (prefix_len is_blank bs) bs = grind arith in
    elim (is_blank b) as
    (λ (t : Bool). drop (cond t (1 + prefix_len is_blank bs) 0) (b ∷ bs) ≡ cond t (skip_blanks bs) (b ∷ bs)) [
      | true ↦ next ∙ skip_blanks-run bs
      | false ↦ refl
    ]

-- ---- symbols

none_of_zero : (o : Option (List ℕ))
    → ((s : List ℕ) → o ≡ Some s → 0 < length s) → option_map_or length o 0 ≡ 0
    → o ≡ None
none_of_zero None some e = refl
none_of_zero (Some s) some e = absurd (let h = some s refl in omega arith)

-- if the length of the symbol at the front is 0, no symbol is at the front
pub no_symbol : (text : List ℕ) (n : ℕ) → n ≡ option_map_or length (symbol_at text) 0 → n ≡ 0 → symbol_at text ≡ None
no_symbol text n is zero = none_of_zero (symbol_at text) (λ s e. (symbol_is text s e).0) (sym is ∙ zero)

-- a symbol and the text after it
abbrev leading_symbol : List ℕ → List ℕ → Token × List ℕ
leading_symbol s rest = (symbol s, rest)

abbrev cut_symbol : List ℕ → Option (List ℕ) → Option (Token × List ℕ)
cut_symbol text o = option_map (λ s. leading_symbol s (drop (length s) text)) o

symbol_of : (text : List ℕ) (n : ℕ) (o : Option (List ℕ))
    → ((s : List ℕ) → o ≡ Some s → take (length s) text ≡ s)
    → n ≡ option_map_or length o 0 → 0 < n
    → Some (leading_symbol (take n text) (drop n text)) ≡ cut_symbol text o
symbol_of text n None is e some = absurd (omega arith)
symbol_of text n (Some s) is e some =
    let whole = is s refl in
    ap (λ (k : ℕ). Some (leading_symbol (take k text) (drop k text))) e
    ∙ ap (λ (t : List ℕ). Some (leading_symbol t (drop (length s) text))) whole

-- if the length of the symbol at the front is above 0, it cuts the text into this symbol and the rest
pub symbol_found : (text : List ℕ) (n : ℕ) (front rest : List ℕ)
    → n ≡ option_map_or length (symbol_at text) 0
    → 0 < n → front ≡ take n text
    → rest ≡ drop n text
    → Some (leading_symbol front rest) ≡ cut_symbol text (symbol_at text)
symbol_found text n front rest is some f r =
    ap (λ (t : List ℕ). Some (leading_symbol t rest)) f ∙ ap (λ (t : List ℕ). Some (leading_symbol (take n text) t)) r
    ∙ symbol_of text n (symbol_at text) (λ s e. (symbol_is text s e).1) is some

-- ---- numbers

digit_below : (b : ℕ) → is_ascii_digit b ≡ true → digit_value b < 10
digit_below b h = grind (arith, nat_tests)

hex_digit_below : (b : ℕ) → is_hex_digit b ≡ true → digit_value b < 16
hex_digit_below b h = grind (arith, nat_tests)

below : (class : ByteClass) (radix b : ℕ) → IsDigits class radix → in_class class b ≡ true → digit_value b < radix
below Blank radix b d h = absurd d
below Name radix b d h = absurd d
below Digit radix b d h = let r = digit_below b h in omega arith
below HexDigit radix b d h = let r = hex_digit_below b h in omega arith

all_digits_step : (class : ByteClass) (radix b : ℕ) (bs : List ℕ)
    → IsDigits class radix → (t : Bool) → in_class class b ≡ t
    → AllDigits radix (take (prefix_len (in_class class) bs) bs)
    → AllDigits radix (take (cond t (1 + prefix_len (in_class class) bs) 0) (b ∷ bs))
all_digits_step class radix b bs d true h more =
    let next : take (1 + prefix_len (in_class class) bs) (b ∷ bs) ≡ b ∷ take (prefix_len (in_class class) bs) bs =
    grind arith in
    rw next (below class radix b d h, more)
all_digits_step class radix b bs d false h more = tt

all_digits : (class : ByteClass) (radix : ℕ) (bs : List ℕ)
    → IsDigits class radix → AllDigits radix (take (prefix_len (in_class class) bs) bs)
all_digits class radix [] d = tt
all_digits class radix (b ∷ bs) d =
    all_digits_step class radix b bs d (in_class class b) refl (all_digits class radix bs d)

parsed_value : {E : Type 0} (n : ℕ) (numeral : Type 0) (r : Result ℕ E)
    → numeral → OkIff r (numeral × (n < 2 ^ 64)) n → result_ok r ≡ value_of n
parsed_value n numeral (Ok x) is h =
    let fits : ltb n (2 ^ 64) ≡ true = lt-ltb _ _ h.0.1 in
    rw fits (ap (λ (k : ℕ). Some k) h.1)
parsed_value n numeral (Err e) is h =
    elim (cases_lt n (2 ^ 64)) [
      | inl fits ↦ absurd (h (is, fits))
      | inr long ↦ let no : ltb n (2 ^ 64) ≡ false = le-ltb _ _ long in rw no refl
    ]

not_plus : (class : ByteClass) (radix b : ℕ) → IsDigits class radix → in_class class b ≡ true → b ≡ 43 → ⊥
not_plus Blank radix b d h e = d
not_plus Name radix b d h e = d
not_plus Digit radix b d h e = false≢true (sym (ap (in_class Digit) e) ∙ h)
not_plus HexDigit radix b d h e = false≢true (sym (ap (in_class HexDigit) e) ∙ h)

no_digit : (class : ByteClass) (radix : ℕ) → IsDigits class radix → in_class class 0 ≡ true → ⊥
no_digit Blank radix d h = d
no_digit Name radix d h = d
no_digit Digit radix d h = false≢true h
no_digit HexDigit radix d h = false≢true h

-- the parsed value of the longest front of digits is the value of these digits, none from 2 ^ 64 on
pub value_is : {E : Type 0} (class : ByteClass) (radix : ℕ) (text digits : List ℕ) (r : Result ℕ E)
    → IsDigits class radix → in_class class (get_or text 0 0) ≡ true
    → digits ≡ take (prefix_len (in_class class) text) text
    → ParsesUnsigned 64 radix digits r
    → result_ok r ≡ value_of (digits_value radix (take (prefix_len (in_class class) text) text))
value_is class radix [] digits r d first e h = absurd (no_digit class radix d first)
value_is class radix (b ∷ bs) digits r d first e h =
    let more : List ℕ = take (prefix_len (in_class class) bs) bs in
    let next : take (1 + prefix_len (in_class class) bs) (b ∷ bs) ≡ b ∷ more = grind arith in
    let run : take (prefix_len (in_class class) (b ∷ bs)) (b ∷ bs) ≡ b ∷ more =
    ap (λ (t : Bool). take (cond t (1 + prefix_len (in_class class) bs) 0) (b ∷ bs)) first ∙ next in
    let is : digits ≡ b ∷ more = e ∙ run in
    let plain : without_leading_plus digits ≡ digits =
    without_leading_plus_none digits
    (λ plus. not_plus class radix b d first (sym (ap (λ (ds : List ℕ). get_or ds 0 0) is) ∙ plus)) in
    let parses : OkIff r (IsNumeral radix digits × (digits_value radix digits < 2 ^ 64)) (digits_value radix digits) =
    subst (λ (ds : List ℕ). OkIff r (IsNumeral radix ds × (digits_value radix ds < 2 ^ 64)) (digits_value radix ds))
    plain h in
    let all : AllDigits radix digits =
    subst (λ (ds : List ℕ). AllDigits radix ds) (sym e) (all_digits class radix (b ∷ bs) d) in
    let some : 0 < length digits = omega (arith, ap (λ (ds : List ℕ). length ds) is) in
    parsed_value (digits_value radix digits) (IsNumeral radix digits) r (some, all) parses
    ∙ ap (λ (ds : List ℕ). value_of (digits_value radix ds)) e

-- ---- the tokens of a line

-- what is found at the front is one token and one rest
pub same_front : (t u : Token) (r s : List ℕ) (o : Option (Token × List ℕ))
    → o ≡ Some (t, r) → o ≡ Some (u, s) → (t ≡ u) × (r ≡ s)
same_front t u r s o e f = (
  ap (λ (x : Option (Token × List ℕ)). option_map_or (λ (p : Token × List ℕ). p.0) x t)
      (sym e ∙ f),
  ap (λ (x : Option (Token × List ℕ)). option_map_or (λ (p : Token × List ℕ). p.1) x r) (sym e ∙ f),
)

-- it is not possible that a token is found at the front and that none is
pub none_front : (t : Token) (r : List ℕ) (o : Option (Token × List ℕ)) → o ≡ Some (t, r) → o ≡ None → ⊥
none_front t r o e f = cc

-- the first token of the list is the one at the front
pub first_is : (text : List ℕ) (t : Token) (rest : List ℕ) (ts : List Token)
    → is_over (skip_blanks text) ≡ false
    → token_at (skip_blanks text) ≡ Some (t, rest)
    → HasTokens text ts
    → (us : List Token) × (ts ≡ t ∷ us) × HasTokens rest us
first_is text t rest [] some at_front h = absurd (false≢true (sym some ∙ h))
first_is text t rest (u ∷ us) some at_front h =
    let same = same_front u t h.0 rest (token_at (skip_blanks text)) (found (skip_blanks text) u h.0 h.1) at_front in
    (us, ap (λ (x : Token). x ∷ us) same.0, subst (λ (r : List ℕ). HasTokens r us) same.1 h.2)

-- if a text is more than a comment and no token is at its front, it has no list of tokens
pub no_tokens : (text : List ℕ) (ts : List Token)
    → is_over (skip_blanks text) ≡ false → token_at (skip_blanks text) ≡ None
    → HasTokens text ts
    → ⊥
no_tokens text [] some none h = false≢true (sym some ∙ h)
no_tokens text (t ∷ ts) some none h =
    none_front t h.0 (token_at (skip_blanks text)) (found (skip_blanks text) t h.0 h.1) none

-- a list with one more token
abbrev pub Whole : List ℕ → List ℕ → List Token → Type 0
Whole line rest before = (ts : List Token) → HasTokens rest ts → HasTokens line (before ++ ts)

abbrev pub Only : List ℕ → List ℕ → List Token → Type 0
Only line rest before =
    (ts : List Token) → HasTokens line ts → (us : List Token) × (ts ≡ before ++ us) × HasTokens rest us

-- also after one more token, the tokens so far and those of any reading of the rest are tokens of the line
pub whole_more : (line rest text after : List ℕ) (t : Token) (before new : List Token)
    → text ≡ skip_blanks rest → Some (t, after) ≡ token_at text
    → new ≡ before ++ t ∷ [] → Whole line rest before
    → Whole line after new
whole_more line rest text after t before new skipped at_front more whole = λ ts h.
    let here : HasTokens line (before ++ t ∷ ts) =
    whole (t ∷ ts) (after, taken (skip_blanks rest) t after (sym (ap token_at skipped) ∙ sym at_front), h) in
    subst (λ (us : List Token). HasTokens line us)
    (sym (append_assoc before (t ∷ []) ts) ∙ ap (λ (us : List Token). us ++ ts) (sym more))
    here

-- also after one more token, all tokens of the line are the ones so far and then tokens of the rest
pub only_more : (line rest text after : List ℕ) (t : Token) (before new : List Token)
    → text ≡ skip_blanks rest → is_over text ≡ false
    → Some (t, after) ≡ token_at text → new ≡ before ++ t ∷ []
    → Only line rest before
    → Only line after new
only_more line rest text after t before new skipped some at_front more only = λ ts h.
    let u = only ts h in
    let f =
    first_is rest t after u.0 (sym (ap is_over skipped) ∙ some) (sym (ap token_at skipped) ∙ sym at_front) u.2 in (
      f.0,
      u.1
          ∙ ap (λ (us : List Token). before ++ us) f.1
          ∙ sym (append_assoc before (t ∷ []) f.0)
          ∙ ap (λ (us : List Token). us ++ f.0) (sym more),
      f.2,
    )

-- with one more token of the code, the tokens that are represented have one more, the one that it represents
pub shown_more : (ts new : List CodeToken) (t : CodeToken)
    → new ≡ ts ++ t ∷ [] → shown_tokens new ≡ shown_tokens ts ++ shown t ∷ []
shown_more ts new t e = ap shown_tokens e ∙ map-append shown ts (t ∷ [])
