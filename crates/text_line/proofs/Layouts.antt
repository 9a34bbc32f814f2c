-- A text that is laid out is read as its tokens.
use Rattle.std.proofs.Common.{◌≡◌, ◌≢◌, ℕ, ◌<◌, ◌^◌, Bool, true, false, ◌&&◌, not, List, [], ◌∷◌, ◌++◌}
use Rattle.std.proofs.Common.{length, get_or, Some, None, refl, sym, ap, ◌∙◌, arith, decimal, IsAscii}
use Rattle.std.specs.List.{AllByRecursion}
use Rattle.std.specs.Char.{is_ascii_digit, is_ascii_graphic}
use Rattle.std.specs.Int.{is_in_range}
use Rattle.std.proofs.lemmas.Bool.{false≢true, and_parts, not-true}
use Rattle.std.proofs.lemmas.Bool.Decides.{nat_tests}
use Rattle.std.proofs.lemmas.Fmt.{decimal_nonempty}
use Rattle.std.proofs.lemmas.Str.Ascii.{IsAscii-nil, IsAscii-cons}
use Rattle.text_line.specs.Blanks.{is_blank, skip_blanks}
use Rattle.text_line.specs.Token.{Token, name, number, symbol, symbols, is_name_start, is_name_byte, HasTokens}
use Rattle.text_line.specs.inside.Tokens.{token_at}
use Rattle.text_line.specs.Form.{TokenLayout, tokens_of}
use Rattle.text_line.specs.Written.{lexeme, laid_out}
use Rattle.text_line.proofs.Fronts.{passes, passes-append, passes_more, is_long_name, is_picked, prolongs, start_in_name, start_prolongs_none}
use Rattle.text_line.proofs.Fronts.{digit_prolongs_none, name_graphic, digit_graphic, decimal_digits, name_front, number_front, symbol_front}
use Rattle.text_line.proofs.Longest.{taken}

-- ---- layouts whose tokens are apart

abbrev pub is_sign : List ℕ → Bool
is_sign y = is_picked y symbols && passes is_ascii_graphic y

-- the text after a name or a number does not prolong it
abbrev pub ends_word : TokenLayout → Bool
ends_word [] = true
ends_word (None ∷ rest) = true
ends_word (Some (name n) ∷ rest) = false
ends_word (Some (number v) ∷ rest) = false
ends_word (Some (symbol y) ∷ rest) = not (is_name_byte (get_or y 0 0))

-- the text after a symbol does not prolong it
abbrev pub ends_sign : TokenLayout → Bool
ends_sign [] = true
ends_sign (None ∷ rest) = true
ends_sign (Some (name n) ∷ rest) = true
ends_sign (Some (number v) ∷ rest) = true
ends_sign (Some (symbol y) ∷ rest) = not (prolongs (get_or y 0 0))

abbrev pub IsApart : TokenLayout → Type 0
IsApart [] = Unit {0}
IsApart (None ∷ rest) = IsApart rest
IsApart (Some (name n) ∷ rest) = (is_long_name n ≡ true) × (ends_word rest ≡ true) × IsApart rest
IsApart (Some (number None) ∷ rest) = ⊥
IsApart (Some (number (Some n)) ∷ rest) = (n < 2 ^ 64) × (ends_word rest ≡ true) × IsApart rest
IsApart (Some (symbol y) ∷ rest) = (is_sign y ≡ true) × (ends_sign rest ≡ true) × IsApart rest

apart_rest : (t : Token) (rest : TokenLayout) → IsApart (Some t ∷ rest) → IsApart rest
apart_rest (name n) rest h = h.2
apart_rest (number None) rest h = absurd h
apart_rest (number (Some n)) rest h = h.2
apart_rest (symbol y) rest h = h.2

-- ---- first bytes

digits_first : (ds : List ℕ) → 0 < length ds → passes is_ascii_digit ds ≡ true → is_ascii_digit (get_or ds 0 0) ≡ true
digits_first [] some p = absurd (omega arith)
digits_first (d ∷ ds) some p = (and_parts (is_ascii_digit d) (passes is_ascii_digit ds) p).0

decimal_first : (n : ℕ) → n < 2 ^ 64 → is_ascii_digit (get_or (decimal n) 0 0) ≡ true
decimal_first n fits = digits_first (decimal n) (decimal_nonempty n fits) (decimal_digits n fits)

name_first : (n : List ℕ) → is_long_name n ≡ true → is_name_start (get_or n 0 0) ≡ true
name_first [] h = absurd (false≢true h)
name_first (a ∷ []) h = absurd (false≢true h)
name_first (a ∷ b ∷ n) h = (and_parts (is_name_start a) (passes is_name_byte (b ∷ n)) h).0

name_bytes : (n : List ℕ) → is_long_name n ≡ true → passes is_name_byte n ≡ true
name_bytes [] h = refl
name_bytes (a ∷ []) h = absurd (false≢true h)
name_bytes (a ∷ b ∷ n) h =
    let both = and_parts (is_name_start a) (passes is_name_byte (b ∷ n)) h in
    rw (start_in_name a both.0) both.1

graphic_first : (bs : List ℕ)
    → is_picked [] symbols ≡ false → is_picked bs symbols ≡ true
    → passes is_ascii_graphic bs ≡ true
    → is_ascii_graphic (get_or bs 0 0) ≡ true
graphic_first [] none h p = absurd (false≢true (sym none ∙ h))
graphic_first (b ∷ bs) none h p = (and_parts (is_ascii_graphic b) (passes is_ascii_graphic bs) p).0

-- the first byte of a list that is not empty is the first byte of each longer list
first_stays : (test : ℕ → Bool) (bs s : List ℕ)
    → test 0 ≡ false → test (get_or bs 0 0) ≡ true
    → get_or (bs ++ s) 0 0 ≡ get_or bs 0 0
first_stays test [] s none h = absurd (false≢true (sym none ∙ h))
first_stays test (b ∷ bs) s none h = refl

-- the bytes of a token are graphic, and there is at least one
record IsSeen (bs : List ℕ) : Type 0 where
  all : passes is_ascii_graphic bs ≡ true
  first : is_ascii_graphic (get_or bs 0 0) ≡ true

seen : (t : Token) (rest : TokenLayout) → IsApart (Some t ∷ rest) → IsSeen (lexeme t)
seen (name n) rest h = record {
  all = passes_more is_name_byte is_ascii_graphic n name_graphic (name_bytes n h.0);
  first = name_graphic (get_or n 0 0) (start_in_name (get_or n 0 0) (name_first n h.0));
}
seen (number None) rest h = absurd h
seen (number (Some n)) rest h = record {
  all = passes_more is_ascii_digit is_ascii_graphic (decimal n) digit_graphic (decimal_digits n h.0);
  first = digit_graphic (get_or (decimal n) 0 0) (decimal_first n h.0);
}
seen (symbol y) rest h =
    let both = and_parts (is_picked y symbols) (passes is_ascii_graphic y) h.0 in
    record { all = both.1; first = graphic_first y refl both.0 both.1 }

laid_first : (t : Token) (rest : TokenLayout)
    → IsApart (Some t ∷ rest) → get_or (laid_out (Some t ∷ rest)) 0 0 ≡ get_or (lexeme t) 0 0
laid_first t rest h = first_stays is_ascii_graphic (lexeme t) (laid_out rest) refl (seen t rest h).first

-- ---- the text after a token

word_ends : (rest : TokenLayout)
    → IsApart rest → ends_word rest ≡ true
    → is_name_byte (get_or (laid_out rest) 0 0) ≡ false
word_ends [] h e = refl
word_ends (None ∷ rest) h e = refl
word_ends (Some (name n) ∷ rest) h e = absurd (false≢true e)
word_ends (Some (number v) ∷ rest) h e = absurd (false≢true e)
word_ends (Some (symbol y) ∷ rest) h e =
    ap is_name_byte (laid_first (symbol y) rest h) ∙ not-true (is_name_byte (get_or y 0 0)) e

sign_ends : (rest : TokenLayout) → IsApart rest → ends_sign rest ≡ true → prolongs (get_or (laid_out rest) 0 0) ≡ false
sign_ends [] h e = refl
sign_ends (None ∷ rest) h e = refl
sign_ends (Some (name n) ∷ rest) h e =
    ap prolongs (laid_first (name n) rest h) ∙ start_prolongs_none (get_or n 0 0) (name_first n h.0)
sign_ends (Some (number None) ∷ rest) h e = absurd h
sign_ends (Some (number (Some n)) ∷ rest) h e =
    ap prolongs (laid_first (number (Some n)) rest h)
    ∙ digit_prolongs_none (get_or (decimal n) 0 0) (decimal_first n h.0)
sign_ends (Some (symbol y) ∷ rest) h e =
    ap prolongs (laid_first (symbol y) rest h) ∙ not-true (prolongs (get_or y 0 0)) e

front : (t : Token) (rest : TokenLayout)
    → IsApart (Some t ∷ rest) → token_at (lexeme t ++ laid_out rest) ≡ Some (t, laid_out rest)
front (name n) rest h = name_front n (laid_out rest) h.0 (word_ends rest h.2 h.1)
front (number None) rest h = absurd h
front (number (Some n)) rest h = number_front n (laid_out rest) h.0 (word_ends rest h.2 h.1)
front (symbol y) rest h =
    symbol_front y (laid_out rest)
    (and_parts (is_picked y symbols) (passes is_ascii_graphic y) h.0).0
    (sign_ends rest h.2 h.1)

-- ---- tokens

graphic_no_blank : (b : ℕ) → is_ascii_graphic b ≡ true → is_blank b ≡ false
graphic_no_blank b h = grind (arith, nat_tests)

none_skipped : (bs s : List ℕ) → is_ascii_graphic (get_or bs 0 0) ≡ true → skip_blanks (bs ++ s) ≡ bs ++ s
none_skipped [] s h = absurd (false≢true h)
none_skipped (b ∷ bs) s h = rw (graphic_no_blank b h) refl

space_before : (text : List ℕ) (ts : List Token) → HasTokens text ts → HasTokens (32 ∷ text) ts
space_before text [] h = h
space_before text (t ∷ ts) h = h

-- the text of a layout whose tokens are apart has these tokens
pub laid_tokens : (l : TokenLayout) → IsApart l → HasTokens (laid_out l) (tokens_of l)
laid_tokens [] h = refl
laid_tokens (None ∷ rest) h = space_before (laid_out rest) (tokens_of rest) (laid_tokens rest h)
laid_tokens (Some t ∷ rest) h =
    let skipped : skip_blanks (lexeme t ++ laid_out rest) ≡ lexeme t ++ laid_out rest =
    none_skipped (lexeme t) (laid_out rest) (seen t rest h).first in (
      laid_out rest,
      taken (skip_blanks (laid_out (Some t ∷ rest))) t (laid_out rest) (ap token_at skipped ∙ front t rest h),
      laid_tokens rest (apart_rest t rest h),
    )

-- ---- bytes

-- a graphic byte or a space
abbrev is_plain : ℕ → Bool
is_plain b = is_in_range 32 126 b

graphic_plain : (b : ℕ) → is_ascii_graphic b ≡ true → is_plain b ≡ true
graphic_plain b h = grind (arith, nat_tests)

plain_ascii : (b : ℕ) → is_plain b ≡ true → b < 128
plain_ascii b h = grind (arith, nat_tests)

plain_no_feed : (b : ℕ) → is_plain b ≡ true → b ≢ 10
plain_no_feed b h = λ e. false≢true (sym (ap is_plain e) ∙ h)

laid_plain : (l : TokenLayout) → IsApart l → passes is_plain (laid_out l) ≡ true
laid_plain [] h = refl
laid_plain (None ∷ rest) h = laid_plain rest h
laid_plain (Some t ∷ rest) h =
    passes-append is_plain (lexeme t) (laid_out rest)
    (passes_more is_ascii_graphic is_plain (lexeme t) graphic_plain (seen t rest h).all)
    (laid_plain rest (apart_rest t rest h))

ascii_of_plain : (bs : List ℕ) → passes is_plain bs ≡ true → IsAscii bs
ascii_of_plain [] p = IsAscii-nil
ascii_of_plain (b ∷ bs) p =
    let both = and_parts (is_plain b) (passes is_plain bs) p in
    IsAscii-cons b bs (plain_ascii b both.0) (ascii_of_plain bs both.1)

line_of_plain : (bs : List ℕ) → passes is_plain bs ≡ true → AllByRecursion (λ b. b ≢ 10) bs
line_of_plain [] p = tt
line_of_plain (b ∷ bs) p =
    let both = and_parts (is_plain b) (passes is_plain bs) p in (plain_no_feed b both.0, line_of_plain bs both.1)

-- the text of a layout whose tokens are apart is ASCII
pub laid_ascii : (l : TokenLayout) → IsApart l → IsAscii (laid_out l)
laid_ascii l h = ascii_of_plain (laid_out l) (laid_plain l h)

-- the text of a layout whose tokens are apart has no line feed
pub laid_one_line : (l : TokenLayout) → IsApart l → AllByRecursion (λ b. b ≢ 10) (laid_out l)
laid_one_line l h = line_of_plain (laid_out l) (laid_plain l h)
