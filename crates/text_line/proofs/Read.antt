-- A line has at most one reading.
use Rattle.std.proofs.Common.{◌≡◌, ℕ, true, eqb, List, [], ◌∷◌, ◌++◌, length, take, drop, Option, Some, None, refl, sym, ap, ◌∙◌, arith, inl, inr, subst}
use Rattle.std.specs.Prelude.{codes, nat_eq}
use Rattle.std.specs.List.{starts_with}
use Rattle.std.proofs.lemmas.Bool.{or_cases}
use Rattle.std.proofs.lemmas.Bool.Decides.{nat_tests}
use Rattle.std.proofs.lemmas.List.{take-append-drop}
use Rattle.std.proofs.lemmas.Slice.Eq.{bytes_eq-Decides}
use Rattle.text_line.specs.Blanks.{skip_blanks}
use Rattle.text_line.specs.Token.{Token, HasTokens, IsTokens, is_over}
use Rattle.text_line.specs.inside.Tokens.{token_at, symbol_at, name_at, number_at}
use Rattle.text_line.specs.Line.{Line, line_tokens, ReadAs}
use Rattle.text_line.specs.inside.Reading.{line_of}
use Rattle.text_line.proofs.Grammar.{line_is}
use Rattle.text_line.proofs.Spelled.{line_read}
use Rattle.text_line.proofs.Tokens.{none_front}
use Rattle.text_line.proofs.OneToken.{same_begin, found}

empty_none : token_at [] ≡ None
unfolding token_at symbol_at name_at number_at
empty_none = refl

comment_none : (rest : List ℕ) → token_at (47 ∷ 47 ∷ rest) ≡ None
unfolding token_at symbol_at name_at number_at
comment_none rest = refl

-- a comment begins no token
over_none : (text : List ℕ) → is_over text ≡ true → token_at text ≡ None
over_none text e =
    elim (or_cases (eqb (length text) 0) (starts_with nat_eq text (codes "//")) e) [
      | inl nothing ↦
          let len : length text ≡ 0 = grind (arith, nat_tests) in
          ap token_at (length_zero text len) ∙ empty_none
      | inr comment ↦
          let front : take 2 text ≡ codes "//" = sym ((bytes_eq-Decides (codes "//") (take 2 text)).0 comment) in
          let whole : text ≡ 47 ∷ 47 ∷ drop 2 text =
          sym (take-append-drop 2 text) ∙ ap (λ (t : List ℕ). t ++ drop 2 text) front in
          ap token_at whole ∙ comment_none (drop 2 text)
    ]
  where
    length_zero : (t : List ℕ) → length t ≡ 0 → t ≡ []
    length_zero [] h = refl
    length_zero (b ∷ bs) h = absurd (omega arith)

-- a line has at most one list of tokens
pub same_tokens : (text : List ℕ) (ts us : List Token) → HasTokens text ts → HasTokens text us → ts ≡ us
same_tokens text [] [] h k = refl
same_tokens text [] (u ∷ us) h k =
    absurd (none_front u k.0 (token_at (skip_blanks text)) (found (skip_blanks text) u k.0 k.1)
    (over_none (skip_blanks text) h))
same_tokens text (t ∷ ts) [] h k =
    absurd (none_front t h.0 (token_at (skip_blanks text)) (found (skip_blanks text) t h.0 h.1)
    (over_none (skip_blanks text) k))
same_tokens text (t ∷ ts) (u ∷ us) h k =
    let f = same_begin (skip_blanks text) t u h.0 k.0 h.1 k.1 in
    let more = same_tokens h.0 ts us h.2 (subst (λ (r : List ℕ). HasTokens r us) (sym f.1) k.2) in
    ap (λ (x : Token). x ∷ ts) f.0 ∙ ap (λ (l : List Token). u ∷ l) more

-- bytes with these tokens are read as the line of the tokens, or have no reading if no line has them
pub read_as : (bytes : List ℕ) (ts : List Token) (o : Option Line) → IsTokens bytes ts → o ≡ line_of ts → ReadAs bytes o
read_as bytes ts (Some line) h e =
    let is = line_is ts line (sym e) in
    (is.1, subst (λ (us : List Token). IsTokens bytes us) is.0 h)
read_as bytes ts None h e = λ line read.
    let same = same_tokens bytes (line_tokens line) ts read.1.1 h.1 in
    let some : None ≡ Some line = e ∙ ap line_of (sym same) ∙ line_read line read.0 in
    cc some

-- a line has at most one reading
pub same_line : (bytes : List ℕ) (a b : Option Line) → ReadAs bytes a → ReadAs bytes b → a ≡ b
same_line bytes None None h k = refl
same_line bytes None (Some b) h k = absurd (h b k)
same_line bytes (Some a) None h k = absurd (k a h)
same_line bytes (Some a) (Some b) h k =
    let same = same_tokens bytes (line_tokens a) (line_tokens b) h.1.1 k.1.1 in
    sym (line_read a h.0) ∙ ap line_of same ∙ line_read b k.0
