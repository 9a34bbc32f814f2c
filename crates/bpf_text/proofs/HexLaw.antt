-- The printed hex lines are read again.
use Rattle.std.proofs.Common.{◌≡◌, ℕ, zero, suc, ◌+◌, ◌*◌, ◌≤◌, Bool, true, false, eqb, cond, List, [], ◌∷◌, ◌++◌, length}
use Rattle.std.proofs.Common.{take, get_or, reverse, Option, Some, None, Ok, refl, sym, ap, ◌∙◌, arith, subst, length-append}
use Rattle.std.specs.Prelude.{IsSome, unwrap_or, is_ok, IsOk}
use Rattle.std.specs.List.{slice_get, All, AllPass, AllByRecursion}
use Rattle.std.proofs.lemmas.Bool.Decides.{nat_tests}
use Rattle.std.proofs.lemmas.List.{reverse-reverse}
use Rattle.std.proofs.lemmas.List.Splits.{slice_split_at}
use Rattle.hex.specs.Hex.{encode_with, encode_lower, decode_sized, is_hex_digit, IsBytes}
use Rattle.hex.proofs.HexLemmas.{decode_sized-encode_lower, IsOk-decode_sized}
use Rattle.insn_set.specs.declared.TheConstants.{MAX_SLOTS}
use Rattle.text_line.specs.Blanks.{is_blank, skip_blanks, stripped}
use Rattle.bpf_text.specs.Lines.{text_lines}
use Rattle.bpf_text.specs.HexText.{hex_text, hex_line, hex_bytes, hex_fault, hex_fault_of, hex_fault_at, IsHexText}
use Rattle.bpf_text.proofs.HexLines.{fits, hex_text-append, slot_line}

digit_no_feed : (b : ℕ) → is_hex_digit b ≡ true → eqb b 10 ≡ false
digit_no_feed b h = grind (arith, nat_tests)

digit_no_blank : (b : ℕ) → is_hex_digit b ≡ true → is_blank b ≡ false
digit_no_blank b h = grind (arith, nat_tests)

-- no blank at the front
abbrev Bare : List ℕ → Type 0
Bare [] = Unit {0}
Bare (b ∷ bs) = is_blank b ≡ false

skip_bare : (bs : List ℕ) → Bare bs → skip_blanks bs ≡ bs
skip_bare [] h = refl
skip_bare (b ∷ bs) h = ap (λ (t : Bool). cond t (skip_blanks bs) (b ∷ bs)) h

stripped_bare : (bs : List ℕ) → Bare bs → Bare (reverse bs) → stripped bs ≡ bs
stripped_bare bs front back =
    ap (λ (l : List ℕ). reverse (skip_blanks (reverse l))) (skip_bare bs front)
    ∙ ap reverse (skip_bare (reverse bs) back)
    ∙ reverse-reverse bs

-- eight bytes as digits
record IsEight (front : List ℕ) : Type 0 where
  digits : AllPass is_hex_digit (encode_lower front)
  line : hex_line (encode_lower front) ≡ Some front

eight : (a b c d e f g h : ℕ)
    → IsBytes (a ∷ b ∷ c ∷ d ∷ e ∷ f ∷ g ∷ h ∷ []) → IsEight (a ∷ b ∷ c ∷ d ∷ e ∷ f ∷ g ∷ h ∷ [])
unfolding encode_with
eight a b c d e f g h bytes =
    let front : List ℕ = a ∷ b ∷ c ∷ d ∷ e ∷ f ∷ g ∷ h ∷ [] in
    let decoded : decode_sized (encode_lower front) 8 ≡ Ok front = decode_sized-encode_lower front 8 refl bytes in
    let ok : IsOk (decode_sized (encode_lower front) 8) = ap is_ok decoded in
    let all : AllPass is_hex_digit (encode_lower front) = ((IsOk-decode_sized (encode_lower front) 8).0 ok).1 in
    let bare : stripped (encode_lower front) ≡ encode_lower front =
    stripped_bare (encode_lower front)
    (digit_no_blank (get_or (encode_lower front) 0 0) (all 0 0 (omega arith)))
    (digit_no_blank (get_or (encode_lower front) 15 0) (all 15 0 (omega arith))) in
    record {
      digits = all;
      line = slot_line (encode_lower front) (encode_lower front) front (sym bare) refl (sym decoded);
    }

no_feeds : (xs : List ℕ) → AllPass is_hex_digit xs → All (λ b. eqb b 10 ≡ false) xs
no_feeds xs all = λ k d h. digit_no_feed (get_or xs k d) (all k d h)

-- each line can be read
abbrev AreSlots : List (List ℕ) → Type 0
AreSlots lines = AllByRecursion (λ line. IsSome (hex_line line)) lines

some_is : (o : Option (List ℕ)) (bytes : List ℕ) → o ≡ Some bytes → IsSome o
some_is None bytes e = absurd (let no : Some bytes ≡ None = sym e in cc no)
some_is (Some x) bytes e = refl

lines_step : (front rest : List ℕ)
    → IsEight front → length front ≡ 8
    → (hex_bytes (text_lines (hex_text rest)) ≡ rest) × AreSlots (text_lines (hex_text rest))
    → (hex_bytes (text_lines (hex_text (front ++ rest))) ≡ front ++ rest)
    × AreSlots (text_lines (hex_text (front ++ rest)))
lines_step front rest eight len more =
    let cut : text_lines (hex_text (front ++ rest)) ≡ encode_lower front ∷ text_lines (hex_text rest) =
    ap text_lines (hex_text-append front rest len)
    ∙ slice_split_at (λ b. eqb b 10) (encode_lower front) 10 (hex_text rest)
    (no_feeds (encode_lower front) eight.digits) refl in (
      ap hex_bytes cut
          ∙ ap (λ (o : Option (List ℕ)). unwrap_or o [] ++ hex_bytes (text_lines (hex_text rest))) eight.line
          ∙ ap (λ (l : List ℕ). front ++ l) more.0,
      subst AreSlots (sym cut) (some_is (hex_line (encode_lower front)) front eight.line, more.1),
    )

lines_none : (hex_bytes (text_lines (hex_text [])) ≡ []) × AreSlots (text_lines (hex_text []))
unfolding hex_text hex_line
lines_none = (refl, (refl, tt))

bytes_take : (a b c d e f g h : ℕ) (rest : List ℕ)
    → IsBytes (a ∷ b ∷ c ∷ d ∷ e ∷ f ∷ g ∷ h ∷ rest) → IsBytes (a ∷ b ∷ c ∷ d ∷ e ∷ f ∷ g ∷ h ∷ [])
bytes_take a b c d e f g h rest fit zero = fit 0
bytes_take a b c d e f g h rest fit (suc zero) = fit 1
bytes_take a b c d e f g h rest fit (suc (suc zero)) = fit 2
bytes_take a b c d e f g h rest fit (suc (suc (suc zero))) = fit 3
bytes_take a b c d e f g h rest fit (suc (suc (suc (suc zero)))) = fit 4
bytes_take a b c d e f g h rest fit (suc (suc (suc (suc (suc zero))))) = fit 5
bytes_take a b c d e f g h rest fit (suc (suc (suc (suc (suc (suc zero)))))) = fit 6
bytes_take a b c d e f g h rest fit (suc (suc (suc (suc (suc (suc (suc zero))))))) = fit 7
bytes_take a b c d e f g h rest fit (suc (suc (suc (suc (suc (suc (suc (suc i)))))))) = omega arith

lines_are : (n : ℕ) (bytes : List ℕ)
    → length bytes ≡ 8 * n → IsBytes bytes
    → (hex_bytes (text_lines (hex_text bytes)) ≡ bytes) × AreSlots (text_lines (hex_text bytes))
lines_are zero [] len fit = lines_none
lines_are zero (b ∷ bytes) len fit = absurd (omega arith)
lines_are (suc n) (a ∷ b ∷ c ∷ d ∷ e ∷ f ∷ g ∷ h ∷ rest) len fit =
    lines_step (a ∷ b ∷ c ∷ d ∷ e ∷ f ∷ g ∷ h ∷ []) rest
    (eight a b c d e f g h (bytes_take a b c d e f g h rest fit))
    refl
    (lines_are n rest (omega arith) (λ i. fit (suc (suc (suc (suc (suc (suc (suc (suc i))))))))))
lines_are (suc n) _ len fit = absurd (omega arith)

fault_none_line : (n : ℕ) (o : Option (List ℕ))
    → IsSome o → n + length (unwrap_or o []) ≤ 8 * MAX_SLOTS → hex_fault n o ≡ None
fault_none_line n None some room = absurd (let no : false ≡ true = some in cc no)
fault_none_line n (Some bytes) some room = fits n (Some bytes) bytes refl room

fault_none : (lines : List (List ℕ)) (i n : ℕ)
    → AreSlots lines
    → n + length (hex_bytes lines) ≤ 8 * MAX_SLOTS
    → hex_fault_of (n + length (hex_bytes (take i lines))) (slice_get lines i) ≡ None
fault_none [] i n are room = refl
fault_none (l ∷ lines) zero n are room =
    let here : n + length (unwrap_or (hex_line l) []) ≤ 8 * MAX_SLOTS =
    omega (arith, length-append (unwrap_or (hex_line l) []) (hex_bytes lines)) in
    let same : n + 0 ≡ n = omega arith in
    ap (λ (k : ℕ). hex_fault k (hex_line l)) same ∙ fault_none_line n (hex_line l) are.0 here
fault_none (l ∷ lines) (suc i) n are room =
    let line : List ℕ = unwrap_or (hex_line l) [] in
    let same : n + length (line ++ hex_bytes (take i lines)) ≡ (n + length line) + length (hex_bytes (take i lines)) =
    omega (arith, length-append line (hex_bytes (take i lines))) in
    ap (λ (k : ℕ). hex_fault_of k (slice_get lines i)) same
    ∙ fault_none lines i (n + length line) are.1 (omega (arith, length-append line (hex_bytes lines)))

zero_plus : (n : ℕ) → n ≡ 0 + n
zero_plus n = omega arith

pub hex_text_is_read : (slots : ℕ) (bytes : List ℕ)
    → IsBytes bytes → length bytes ≡ 8 * slots
    → 1 ≤ slots → slots ≤ MAX_SLOTS
    → IsHexText (hex_text bytes) bytes
unfolding hex_fault_at
hex_text_is_read slots bytes fit len some room =
    let lines = lines_are slots bytes len fit in
    let all = ap (λ (l : List ℕ). length l) lines.0 in
    record {
      none = λ i.
          ap (λ (k : ℕ). hex_fault_of k (slice_get (text_lines (hex_text bytes)) i))
          (zero_plus (length (hex_bytes (take i (text_lines (hex_text bytes))))))
          ∙ fault_none (text_lines (hex_text bytes)) i 0 lines.1 (omega arith);
      bytes_are = sym lines.0;
      some = omega arith;
    }
