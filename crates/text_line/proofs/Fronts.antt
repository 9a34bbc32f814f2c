-- The token at the front of a text.
use Rattle.std.proofs.Common.{◌≡◌, ℕ, ◌<◌, ◌^◌, Bool, true, false, ◌&&◌, ◌||◌, not, eqb, ltb, List, [], ◌∷◌, ◌++◌, length, take}
use Rattle.std.proofs.Common.{drop, get_or, Option, Some, None, refl, sym, ap, ◌∙◌, arith, rules, subst, inl, inr, nat_eq, decimal}
use Rattle.std.specs.Prelude.{find}
use Rattle.std.specs.List.{starts_with, prefix_len, AllByRecursion}
use Rattle.std.specs.Char.{is_ascii_digit, is_ascii_graphic}
use Rattle.std.specs.Int.{is_in_range}
use Rattle.std.specs.Str.{bytes_eq, all_ascii_digits}
use Rattle.std.specs.Str.Parse.{digits_value}
use Rattle.std.proofs.lemmas.Bool.{false≢true, and_parts, and_right, or_cases, not-true, ne_eqb, lt-ltb}
use Rattle.std.proofs.lemmas.Bool.Decides.{nat_tests}
use Rattle.std.proofs.lemmas.Slice.Eq.{bytes_eq-Decides}
use Rattle.std.proofs.lemmas.Str.Parse.{IsNumeralModel, numerals_by_value, tells_all_ascii_digits}
use Rattle.std.proofs.lemmas.Fmt.{decimal_nonempty, digits_decimal, digits_value-decimal}
use Rattle.std.proofs.Math.Seq.{take-append_seam, drop-append_seam}
use Rattle.text_line.specs.Token.{name, number, symbol, symbols, value_of, is_name_start, is_name_byte, is_hex_digit}
use Rattle.text_line.specs.inside.Tokens.{symbol_at, name_at, number_at, token_at, is_hexadecimal}

-- ---- bytes

differ : (a b : ℕ) (test : ℕ → Bool) → test a ≡ true → test b ≡ false → eqb a b ≡ false
differ a b test passed failed = ne_eqb a b (λ e. false≢true (sym failed ∙ sym (ap test e) ∙ passed))

differ_back : (a b : ℕ) (test : ℕ → Bool) → test a ≡ false → test b ≡ true → eqb a b ≡ false
differ_back a b test failed passed = ne_eqb a b (λ e. false≢true (sym failed ∙ ap test e ∙ passed))

-- a byte that may start a name may be in a name
pub start_in_name : (b : ℕ) → is_name_start b ≡ true → is_name_byte b ≡ true
start_in_name b h = grind (arith, nat_tests)

-- no digit starts a name
pub digit_no_start : (b : ℕ) → is_ascii_digit b ≡ true → is_name_start b ≡ false
digit_no_start b h = grind (arith, nat_tests)

-- each byte that may be in a name is a graphic one
pub name_graphic : (b : ℕ) → is_name_byte b ≡ true → is_ascii_graphic b ≡ true
name_graphic b h = grind (arith, nat_tests)

-- each digit is a graphic byte
pub digit_graphic : (b : ℕ) → is_ascii_digit b ≡ true → is_ascii_graphic b ≡ true
digit_graphic b h = grind (arith, nat_tests)

-- ---- bytes that pass a test

-- each byte passes the test
abbrev pub passes : (ℕ → Bool) → List ℕ → Bool
passes test [] = true
passes test (b ∷ bs) = test b && passes test bs

-- if all bytes of two lists pass a test, so do those of the lists one after the other
pub passes-append : (test : ℕ → Bool) (xs ys : List ℕ)
    → passes test xs ≡ true → passes test ys ≡ true → passes test (xs ++ ys) ≡ true
passes-append test [] ys p q = q
passes-append test (x ∷ xs) ys p q =
    let both = and_parts (test x) (passes test xs) p in rw both.0 (passes-append test xs ys both.1 q)

-- bytes that pass a test pass each weaker test
pub passes_more : (test other : ℕ → Bool) (xs : List ℕ)
    → ((b : ℕ) → test b ≡ true → other b ≡ true) → passes test xs ≡ true
    → passes other xs ≡ true
passes_more test other [] more p = refl
passes_more test other (x ∷ xs) more p =
    let both = and_parts (test x) (passes test xs) p in rw (more x both.0) (passes_more test other xs more both.1)

-- the longest front of bytes that pass
run_is : (test : ℕ → Bool) (xs s : List ℕ)
    → passes test xs ≡ true → test (get_or s 0 0) ≡ false
    → prefix_len test (xs ++ s) ≡ length xs
run_is test [] [] p stop = refl
run_is test [] (b ∷ s) p stop = rw stop refl
run_is test (x ∷ xs) s p stop =
    let both = and_parts (test x) (passes test xs) p in
    let more : prefix_len test (xs ++ s) ≡ length xs = run_is test xs s both.1 stop in
    rw both.0 (omega arith)

run_taken : (test : ℕ → Bool) (xs s : List ℕ)
    → passes test xs ≡ true → test (get_or s 0 0) ≡ false
    → take (prefix_len test (xs ++ s)) (xs ++ s) ≡ xs
run_taken test xs s p stop = ap (λ (n : ℕ). take n (xs ++ s)) (run_is test xs s p stop) ∙ take-append_seam xs s

run_dropped : (test : ℕ → Bool) (xs s : List ℕ)
    → passes test xs ≡ true → test (get_or s 0 0) ≡ false
    → drop (prefix_len test (xs ++ s)) (xs ++ s) ≡ s
run_dropped test xs s p stop = ap (λ (n : ℕ). drop n (xs ++ s)) (run_is test xs s p stop) ∙ drop-append_seam xs s

-- ---- symbols

none_found : {A : Type 0} (p q : A → Bool) (xs : List A)
    → ((x : A) → q x ≡ true → p x ≡ false) → AllByRecursion (λ (x : A). q x ≡ true) xs
    → find p xs ≡ None
none_found p q [] f each = refl
none_found p q (x ∷ xs) f each = rw (f x each.0) (none_found p q xs f each.1)

-- no name has the symbol's first byte, or no name has its second
abbrev pub begins_no_name : List ℕ → Bool
begins_no_name [] = false
begins_no_name (x ∷ []) = not (is_name_byte x)
begins_no_name (x ∷ y ∷ z) = not (is_name_byte x) || not (is_name_byte y)

no_name_begins : (a b : ℕ) (t z : List ℕ)
    → is_name_byte a ≡ true → is_name_byte b ≡ true
    → begins_no_name z ≡ true
    → starts_with nat_eq (a ∷ b ∷ t) z ≡ false
no_name_begins a b t [] p q h = absurd (false≢true h)
no_name_begins a b t (x ∷ []) p q h = rw (differ_back x a is_name_byte (not-true (is_name_byte x) h) p) refl
no_name_begins a b t (x ∷ y ∷ z) p q h =
    elim (or_cases (not (is_name_byte x)) (not (is_name_byte y)) h) [
      | inl first ↦ rw (differ_back x a is_name_byte (not-true (is_name_byte x) first) p) refl
      | inr second ↦ rw
          (differ_back y b is_name_byte (not-true (is_name_byte y) second) q)
          (and_right (eqb x a) false refl)
    ]

-- the first or the second byte of each symbol is one that no name has
pub symbols_no_name : AllByRecursion (λ (z : List ℕ). begins_no_name z ≡ true) symbols
symbols_no_name = search rules

name_no_symbol : (a b : ℕ) (t : List ℕ) → is_name_byte a ≡ true → is_name_byte b ≡ true → symbol_at (a ∷ b ∷ t) ≡ None
unfolding symbol_at
name_no_symbol a b t p q =
    none_found (λ z. starts_with nat_eq (a ∷ b ∷ t) z) begins_no_name symbols
    (λ z h. no_name_begins a b t z p q h) symbols_no_name

abbrev pub begins_no_digit : List ℕ → Bool
begins_no_digit [] = false
begins_no_digit (x ∷ z) = not (is_ascii_digit x)

no_digit_begins : (a : ℕ) (t z : List ℕ)
    → is_ascii_digit a ≡ true → begins_no_digit z ≡ true
    → starts_with nat_eq (a ∷ t) z ≡ false
no_digit_begins a t [] p h = absurd (false≢true h)
no_digit_begins a t (x ∷ z) p h = rw (differ_back x a is_ascii_digit (not-true (is_ascii_digit x) h) p) refl

-- no symbol begins with a digit
pub symbols_no_digit : AllByRecursion (λ (z : List ℕ). begins_no_digit z ≡ true) symbols
symbols_no_digit = search rules

digit_no_symbol : (a : ℕ) (t : List ℕ) → is_ascii_digit a ≡ true → symbol_at (a ∷ t) ≡ None
unfolding symbol_at
digit_no_symbol a t p =
    none_found (λ z. starts_with nat_eq (a ∷ t) z) begins_no_digit symbols
    (λ z h. no_digit_begins a t z p h) symbols_no_digit

-- a byte that may continue a symbol: `<`, `=` or `>`
abbrev pub prolongs : ℕ → Bool
prolongs b = is_in_range 60 62 b

-- no byte that may start a name may continue a symbol
pub start_prolongs_none : (b : ℕ) → is_name_start b ≡ true → prolongs b ≡ false
start_prolongs_none b h = grind (arith, nat_tests)

-- no digit may continue a symbol
pub digit_prolongs_none : (b : ℕ) → is_ascii_digit b ≡ true → prolongs b ≡ false
digit_prolongs_none b h = grind (arith, nat_tests)

-- A text that begins with y, if no such byte follows, does not begin with z: the two differ, or z has such a byte after y.
abbrev tells_apart : List ℕ → List ℕ → Bool
tells_apart [] [] = false
tells_apart [] (b ∷ z) = prolongs b
tells_apart (a ∷ y) [] = false
tells_apart (a ∷ y) (b ∷ z) = not (eqb b a) || tells_apart y z

begins_no_other : (y z s : List ℕ)
    → tells_apart y z ≡ true → prolongs (get_or s 0 0) ≡ false
    → starts_with nat_eq (y ++ s) z ≡ false
begins_no_other [] [] s h stop = absurd (false≢true h)
begins_no_other [] (b ∷ z) [] h stop = refl
begins_no_other [] (b ∷ z) (c ∷ s) h stop = rw (differ b c prolongs h stop) refl
begins_no_other (a ∷ y) [] s h stop = absurd (false≢true h)
begins_no_other (a ∷ y) (b ∷ z) s h stop =
    elim (or_cases (not (eqb b a)) (tells_apart y z) h) [
      | inl here ↦ rw (not-true (eqb b a) here) refl
      | inr later ↦ and_right (eqb b a) (starts_with nat_eq (y ++ s) z) (begins_no_other y z s later stop)
    ]

-- a list of bytes, followed by others, begins with this list
pub begins_itself : (y s : List ℕ) → starts_with nat_eq (y ++ s) y ≡ true
begins_itself y s = (bytes_eq-Decides y (take (length y) (y ++ s))).1 (sym (take-append_seam y s))

-- it is one of these, and a text that begins with it begins with none of those before it
abbrev pub is_picked : List ℕ → List (List ℕ) → Bool
is_picked y [] = false
is_picked y (z ∷ zs) = bytes_eq y z || (tells_apart y z && is_picked y zs)

picked : (y s : List ℕ) (zs : List (List ℕ))
    → is_picked y zs ≡ true → prolongs (get_or s 0 0) ≡ false
    → find (λ z. starts_with nat_eq (y ++ s) z) zs ≡ Some y
picked y s [] h stop = absurd (false≢true h)
picked y s (z ∷ zs) h stop =
    elim (or_cases (bytes_eq y z) (tells_apart y z && is_picked y zs) h) [
      | inl same ↦
          let e : y ≡ z = (bytes_eq-Decides y z).0 same in
          let begins : starts_with nat_eq (y ++ s) z ≡ true =
          subst (λ (w : List ℕ). starts_with nat_eq (y ++ s) w ≡ true) e (begins_itself y s) in
          rw begins (ap (λ (w : List ℕ). Some w) (sym e))
      | inr later ↦
          let both = and_parts (tells_apart y z) (is_picked y zs) later in
          rw (begins_no_other y z s both.0 stop) (picked y s zs both.1 stop)
    ]

symbol_first : (y s : List ℕ)
    → is_picked y symbols ≡ true → prolongs (get_or s 0 0) ≡ false
    → symbol_at (y ++ s) ≡ Some y
unfolding symbol_at
symbol_first y s h stop = picked y s symbols h stop

token_of_symbol : (text y rest : List ℕ)
    → symbol_at text ≡ Some y → drop (length y) text ≡ rest
    → token_at text ≡ Some (symbol y, rest)
unfolding token_at
token_of_symbol text y rest found after = rw (found, after) refl

-- a symbol for which `is_picked` holds, with no byte after it that may continue it, is the token at the front
pub symbol_front : (y s : List ℕ)
    → is_picked y symbols ≡ true → prolongs (get_or s 0 0) ≡ false
    → token_at (y ++ s) ≡ Some (symbol y, s)
symbol_front y s h stop = token_of_symbol (y ++ s) y s (symbol_first y s h stop) (drop-append_seam y s)

-- ---- names

-- a name of two bytes or more, so that no symbol begins it
abbrev pub is_long_name : List ℕ → Bool
is_long_name [] = false
is_long_name (a ∷ []) = false
is_long_name (a ∷ b ∷ n) = is_name_start a && passes is_name_byte (b ∷ n)

token_of_name : (text n rest : List ℕ)
    → symbol_at text ≡ None → is_name_start (get_or text 0 0) ≡ true
    → take (prefix_len is_name_byte text) text ≡ n
    → drop (prefix_len is_name_byte text) text ≡ rest
    → token_at text ≡ Some (name n, rest)
unfolding token_at name_at
token_of_name text n rest none start taken after = rw (none, start, taken, after) refl

-- a name of two bytes or more, with no byte of a name after it, is the token at the front
pub name_front : (n s : List ℕ)
    → is_long_name n ≡ true → is_name_byte (get_or s 0 0) ≡ false
    → token_at (n ++ s) ≡ Some (name n, s)
name_front [] s h stop = absurd (false≢true h)
name_front (a ∷ []) s h stop = absurd (false≢true h)
name_front (a ∷ b ∷ n) s h stop =
    let both = and_parts (is_name_start a) (passes is_name_byte (b ∷ n)) h in
    let first = start_in_name a both.0 in
    let second = and_parts (is_name_byte b) (passes is_name_byte n) both.1 in
    let all : passes is_name_byte (a ∷ b ∷ n) ≡ true = rw first both.1 in
    token_of_name (a ∷ b ∷ n ++ s) (a ∷ b ∷ n) s (name_no_symbol a b (n ++ s) first second.0) both.0
    (run_taken is_name_byte (a ∷ b ∷ n) s all stop)
    (run_dropped is_name_byte (a ∷ b ∷ n) s all stop)

-- ---- numbers

own : IsNumeralModel (λ ds. all_ascii_digits ds ≡ true) (digits_value 10)
own = numerals_by_value (λ ds. all_ascii_digits ds ≡ true) tells_all_ascii_digits

passes-digits : (ds : List ℕ) → all_ascii_digits ds ≡ passes is_ascii_digit ds
passes-digits [] = refl
passes-digits (d ∷ ds) = ap (λ (t : Bool). is_ascii_digit d && t) (passes-digits ds)

-- the decimal text of a number below 2 ^ 64 has only digits
pub decimal_digits : (n : ℕ) → n < 2 ^ 64 → passes is_ascii_digit (decimal n) ≡ true
decimal_digits n fits = sym (passes-digits (decimal n)) ∙ digits_decimal own n fits

-- the second byte is not the `x` of a hexadecimal number
no_x : (ds s : List ℕ)
    → passes is_ascii_digit ds ≡ true → is_name_byte (get_or s 0 0) ≡ false
    → eqb (get_or (ds ++ s) 0 0) 120 ≡ false
no_x [] s p stop = differ_back (get_or s 0 0) 120 is_name_byte stop refl
no_x (d ∷ ds) s p stop = differ d 120 is_ascii_digit (and_parts (is_ascii_digit d) (passes is_ascii_digit ds) p).0 refl

middle_false : (a b : Bool) → (a && false && b) ≡ false
middle_false true b = refl
middle_false false b = refl

no_hexadecimal : (text : List ℕ) → eqb (get_or text 1 0) 120 ≡ false → is_hexadecimal text ≡ false
no_hexadecimal text h = rw h (middle_false (eqb (get_or text 0 0) 48) (is_hex_digit (get_or text 2 0)))

no_digit_after : (b : ℕ) → is_name_byte b ≡ false → is_ascii_digit b ≡ false
no_digit_after b h = grind (arith, nat_tests)

token_of_number : (text ds rest : List ℕ)
    → symbol_at text ≡ None → is_name_start (get_or text 0 0) ≡ false
    → is_hexadecimal text ≡ false → is_ascii_digit (get_or text 0 0) ≡ true
    → take (prefix_len is_ascii_digit text) text ≡ ds
    → drop (prefix_len is_ascii_digit text) text ≡ rest
    → token_at text ≡ Some (number (value_of (digits_value 10 ds)), rest)
unfolding token_at name_at number_at
token_of_number text ds rest none start hexadecimal digit taken after =
    rw (none, start, hexadecimal, digit, taken, after) refl

digits_front : (ds s : List ℕ)
    → 0 < length ds → passes is_ascii_digit ds ≡ true
    → is_name_byte (get_or s 0 0) ≡ false
    → token_at (ds ++ s) ≡ Some (number (value_of (digits_value 10 ds)), s)
digits_front [] s some p stop = absurd (omega arith)
digits_front (d ∷ ds) s some p stop =
    let both = and_parts (is_ascii_digit d) (passes is_ascii_digit ds) p in
    let stops = no_digit_after (get_or s 0 0) stop in
    token_of_number (d ∷ ds ++ s) (d ∷ ds) s (digit_no_symbol d (ds ++ s) both.0)
    (digit_no_start d both.0)
    (no_hexadecimal (d ∷ ds ++ s) (no_x ds s both.1 stop))
    both.0 (run_taken is_ascii_digit (d ∷ ds) s p stops)
    (run_dropped is_ascii_digit (d ∷ ds) s p stops)

value_of_is : (n : ℕ) → n < 2 ^ 64 → value_of n ≡ Some n
value_of_is n fits = let h : ltb n (2 ^ 64) ≡ true = lt-ltb _ _ fits in rw h refl

-- the decimal text of a number below 2 ^ 64, with no byte of a name after it, is the token at the front
pub number_front : (n : ℕ) (s : List ℕ)
    → n < 2 ^ 64 → is_name_byte (get_or s 0 0) ≡ false
    → token_at (decimal n ++ s) ≡ Some (number (Some n), s)
number_front n s fits stop =
    digits_front (decimal n) s (decimal_nonempty n fits) (decimal_digits n fits) stop
    ∙ ap (λ (m : ℕ). Some (number (value_of m), s)) (digits_value-decimal own n fits)
    ∙ ap (λ (v : Option ℕ). Some (number v, s)) (value_of_is n fits)
