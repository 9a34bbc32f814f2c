-- The token that is taken at the front of a text is the longest there.
use Rattle.std.proofs.Common.{◌≡◌, ℕ, ◌+◌, ◌<◌, ◌≤◌, Bool, true, false, ◌&&◌, not, cond, eqb, ltb, leb, List, [], ◌∷◌, ◌++◌, length, take}
use Rattle.std.proofs.Common.{drop, get_or, Option, Some, None, option_map, refl, sym, ap, ◌∙◌, arith, rules, subst, inl, inr, zero, suc}
use Rattle.std.specs.Prelude.{find, nat_eq, codes, slice_index}
use Rattle.std.specs.List.{prefix_len, starts_with, list_all, AllByRecursion, Contains}
use Rattle.std.specs.Char.{is_ascii_digit}
use Rattle.std.specs.Str.Parse.{digits_value}
use Rattle.std.proofs.lemmas.Bool.{false≢true, and_parts, and_from, and_right, or_cases, not-true, leb-true, eqb-true, lt-ltb, both_ways}
use Rattle.std.proofs.lemmas.List.{take-append-drop}
use Rattle.std.proofs.lemmas.Option.{none-some, same_Some}
use Rattle.std.proofs.lemmas.Slice.Eq.{bytes_eq-Decides}
use Rattle.text_line.specs.Token.{Token, name, number, symbol, symbols, is_name, are_digits, value_of}
use Rattle.text_line.specs.Token.{is_name_start, is_name_byte, is_hex_digit, IsToken, BeginsWith}
use Rattle.text_line.specs.inside.Tokens.{symbol_at, is_hexadecimal, run, name_at, number_at, token_at}
use Rattle.std.specs.Option.{option_or}
use Rattle.text_line.proofs.Fronts.{begins_itself, begins_no_name, symbols_no_name, begins_no_digit, symbols_no_digit, start_in_name, digit_no_start}

-- ---- bytes that pass a test

-- the longest front of bytes that pass is at least as long as any front of bytes that pass
run_at_least : (test : ℕ → Bool) (bytes back : List ℕ)
    → list_all test bytes ≡ true → length bytes ≤ prefix_len test (bytes ++ back)
run_at_least test [] back h = omega arith
run_at_least test (b ∷ bs) back h =
    let both = and_parts (test b) (list_all test bs) h in
    let more = run_at_least test bs back both.1 in
    rw both.0 (omega arith)

run_covers : (test : ℕ → Bool) (text bytes back : List ℕ)
    → text ≡ bytes ++ back → list_all test bytes ≡ true
    → length bytes ≤ prefix_len test text
run_covers test text bytes back e h =
    subst (λ (t : List ℕ). length bytes ≤ prefix_len test t) (sym e) (run_at_least test bytes back h)

-- the bytes of the longest front pass the test
abbrev one_more : (ℕ → Bool) → ℕ → List ℕ → Bool → List ℕ
one_more test b bs here = take (cond here (1 + prefix_len test bs) 0) (b ∷ bs)

passes_step : (test : ℕ → Bool) (b : ℕ) (bs : List ℕ) (here : Bool)
    → test b ≡ here → list_all test (run test bs) ≡ true
    → list_all test (one_more test b bs here) ≡ true
passes_step test b bs true h more =
    let next : take (1 + prefix_len test bs) (b ∷ bs) ≡ b ∷ run test bs = grind arith in
    rw next (and_from (test b) (list_all test (run test bs)) h more)
passes_step test b bs false h more = refl

run_passes : (test : ℕ → Bool) (text : List ℕ) → list_all test (run test text) ≡ true
run_passes test [] = refl
run_passes test (b ∷ bs) = passes_step test b bs (test b) refl (run_passes test bs)

run_begins : (test : ℕ → Bool) (text : List ℕ)
    → test (slice_index text 0) ≡ true → test 0 ≡ false
    → (0 < length (run test text)) × (slice_index (run test text) 0 ≡ slice_index text 0)
run_begins test [] h zero_fails = absurd (both_ways (test 0) zero_fails h)
run_begins test (b ∷ bs) h zero_fails =
    let next : take (1 + prefix_len test bs) (b ∷ bs) ≡ b ∷ run test bs = grind arith in
    rw (h, next) (omega arith, refl)

length_step : (test : ℕ → Bool) (b : ℕ) (bs : List ℕ) (here : Bool)
    → length (run test bs) ≡ prefix_len test bs
    → length (one_more test b bs here) ≡ cond here (1 + prefix_len test bs) 0
length_step test b bs true more =
    let next : take (1 + prefix_len test bs) (b ∷ bs) ≡ b ∷ run test bs = grind arith in
    rw next (omega (arith, more))
length_step test b bs false more = refl

length_run : (test : ℕ → Bool) (text : List ℕ) → length (run test text) ≡ prefix_len test text
length_run test [] = refl
length_run test (b ∷ bs) = length_step test b bs (test b) (length_run test bs)

-- ---- symbols

found_step : {A : Type 0} (Q : A → Type 0) (p : A → Bool) (x : A) (rest : Option A) (s : A) (b : Bool)
    → p x ≡ b → Q x
    → (rest ≡ Some s → Q s × (p s ≡ true)) → cond b (Some x) rest ≡ Some s
    → Q s × (p s ≡ true)
found_step Q p x rest s true here q more e = let same : x ≡ s = cc in (subst Q same q, ap p (sym same) ∙ here)
found_step Q p x rest s false here q more e = more e

-- an element that is found passes the test and has each property that all elements have
pub found_is : {A : Type 0} (Q : A → Type 0) (p : A → Bool) (xs : List A) (s : A)
    → AllByRecursion Q xs → find p xs ≡ Some s → Q s × (p s ≡ true)
found_is Q p [] s each e = absurd (let no : Some s ≡ None = sym e in cc no)
found_is Q p (x ∷ xs) s each e = found_step Q p x (find p xs) s (p x) refl each.0 (found_is Q p xs s each.1) e

symbols_some : AllByRecursion (λ (s : List ℕ). 0 < length s) symbols
symbols_some = search rules

-- the symbol that is found is not empty, and the text begins with it
pub symbol_is : (text s : List ℕ) → symbol_at text ≡ Some s → (0 < length s) × (take (length s) text ≡ s)
unfolding symbol_at
symbol_is text s e =
    let f = found_is (λ (s : List ℕ). 0 < length s) (λ s. starts_with nat_eq text s) symbols s symbols_some e in
    (f.0, sym ((bytes_eq-Decides s (take (length s) text)).0 f.1))

-- if all elements have a property, so has the element at an index
at_index : {A : Type 0} (Q : A → Type 0) (xs : List A) (k : ℕ) (x : A)
    → AllByRecursion Q xs → k < length xs → get_or xs k x ≡ x → Q x
at_index Q [] k x each lt e = absurd (omega arith)
at_index Q (y ∷ ys) zero x each lt e = subst Q e each.0
at_index Q (y ∷ ys) (suc k) x each lt e = at_index Q ys k x each.1 (omega arith) e

-- what holds for all symbols of the list holds for each symbol that it contains
pub each_symbol : (Q : List ℕ → Type 0) (s : List ℕ) → AllByRecursion Q symbols → Contains symbols s → Q s
each_symbol Q s each h = at_index Q symbols h.0 s each h.1 h.2

contained_step : {A : Type 0} (x : A) (xs : List A) (s : A) (o : Option A) (b : Bool)
    → (o ≡ Some s → Contains xs s) → cond b (Some x) o ≡ Some s
    → Contains (x ∷ xs) s
contained_step x xs s o true more e = (0, omega arith, same_Some x s e)
contained_step x xs s o false more e = let there = more e in (suc there.0, omega (arith, there.1), there.2)

contained : {A : Type 0} (p : A → Bool) (xs : List A) (s : A) → find p xs ≡ Some s → Contains xs s
contained p [] s e = absurd (none-some s e)
contained p (x ∷ xs) s e = contained_step x xs s (find p xs) (p x) (contained p xs s) e

-- each is as long as those after it, or longer
abbrev longest_first : List (List ℕ) → Bool
longest_first [] = true
longest_first (x ∷ xs) = list_all (λ y. leb (length y) (length x)) xs && longest_first xs

symbols_longest_first : longest_first symbols ≡ true
symbols_longest_first = refl

no_longer : (n : ℕ) (xs : List (List ℕ)) (k : ℕ) (z : List ℕ)
    → list_all (λ y. leb (length y) n) xs ≡ true → k < length xs
    → get_or xs k z ≡ z
    → length z ≤ n
no_longer n [] k z h lt e = absurd (omega arith)
no_longer n (y ∷ ys) zero z h lt e =
    subst (λ (w : List ℕ). length w ≤ n) e
    (leb-true (length y) n (and_parts (leb (length y) n) (list_all (λ w. leb (length w) n) ys) h).0)
no_longer n (y ∷ ys) (suc k) z h lt e =
    no_longer n ys k z (and_parts (leb (length y) n) (list_all (λ w. leb (length w) n) ys) h).1 (omega arith) e

abbrev FindsAsLong : (List ℕ → Bool) → List (List ℕ) → List ℕ → Type 0
FindsAsLong p xs z = (s : List ℕ) × (find p xs ≡ Some s) × (length z ≤ length s)

finds_longest : (p : List ℕ → Bool) (xs : List (List ℕ)) (k : ℕ) (z : List ℕ)
    → longest_first xs ≡ true → k < length xs
    → get_or xs k z ≡ z → p z ≡ true
    → FindsAsLong p xs z
finds_longest p [] k z h lt e passes = absurd (omega arith)
finds_longest p (x ∷ xs) zero z h lt e passes =
    let here : p x ≡ true = ap p e ∙ passes in
    (x, rw here refl, omega (arith, ap length e))
finds_longest p (x ∷ xs) (suc k) z h lt e passes =
    let both = and_parts (list_all (λ y. leb (length y) (length x)) xs) (longest_first xs) h in
    by_first (p x)
    (no_longer (length x) xs k z both.0 (omega arith) e)
    (finds_longest p xs k z both.1 (omega arith) e passes)
  where
    by_first : (b : Bool)
        → length z ≤ length x → FindsAsLong p xs z
        → (s : List ℕ) × (cond b (Some x) (find p xs) ≡ Some s) × (length z ≤ length s)
    by_first true short more = (x, refl, short)
    by_first false short more = more

symbol_as_long : (text z back : List ℕ)
    → text ≡ z ++ back → Contains symbols z
    → (s : List ℕ) × (symbol_at text ≡ Some s) × (length z ≤ length s)
unfolding symbol_at
symbol_as_long text z back e h =
    finds_longest (λ s. starts_with nat_eq text s) symbols h.0 z symbols_longest_first h.1 h.2
    (subst (λ (t : List ℕ). starts_with nat_eq t z ≡ true) (sym e) (begins_itself z back))

symbol_contained : (text s : List ℕ) → symbol_at text ≡ Some s → Contains symbols s
unfolding symbol_at
symbol_contained text s e = contained (λ s. starts_with nat_eq text s) symbols s e

-- ---- a name or a number at the front of the bytes of a symbol

-- two lists with the same bytes have the same first byte
same_byte : (a b : ℕ) (x y : List ℕ) → a ∷ x ≡ b ∷ y → a ≡ b
same_byte a b x y e = ap (λ (t : List ℕ). get_or t 0 0) e

same_second : (a b c d : ℕ) (x y : List ℕ) → a ∷ b ∷ x ≡ c ∷ d ∷ y → b ≡ d
same_second a b c d x y e = ap (λ (t : List ℕ). get_or t 1 0) e

-- the first byte of a name may start a name, and each of its bytes may be in a name
pub name_bytes : (bytes : List ℕ)
    → is_name bytes ≡ true
    → (is_name_start (slice_index bytes 0) ≡ true) × (list_all is_name_byte bytes ≡ true)
name_bytes bytes h = and_parts (is_name_start (slice_index bytes 0)) (list_all is_name_byte bytes) h

-- a name at the front is not longer than a symbol at the front
name_in_symbol : (n z x y : List ℕ) → n ++ x ≡ z ++ y → is_name n ≡ true → begins_no_name z ≡ true → length n ≤ length z
name_in_symbol [] z x y e h other = omega arith
name_in_symbol (a ∷ []) [] x y e h other = absurd (false≢true other)
name_in_symbol (a ∷ []) (c ∷ z) x y e h other = omega arith
name_in_symbol (a ∷ b ∷ n) [] x y e h other = absurd (false≢true other)
name_in_symbol (a ∷ b ∷ n) (c ∷ []) x y e h other =
    let parts = name_bytes (a ∷ b ∷ n) h in
    let no : is_name_byte c ≡ false = not-true (is_name_byte c) other in
    absurd (both_ways (is_name_byte c) no
    (ap is_name_byte (sym (same_byte a c (b ∷ n ++ x) y e)) ∙ start_in_name a parts.0))
name_in_symbol (a ∷ b ∷ n) (c ∷ d ∷ z) x y e h other =
    let parts = name_bytes (a ∷ b ∷ n) h in
    let both = and_parts (is_name_byte a) (is_name_byte b && list_all is_name_byte n) parts.1 in
    let second = and_parts (is_name_byte b) (list_all is_name_byte n) both.1 in
    elim (or_cases (not (is_name_byte c)) (not (is_name_byte d)) other) [
      | inl first ↦ absurd
          (both_ways (is_name_byte c) (not-true (is_name_byte c) first)
          (ap is_name_byte (sym (same_byte a c (b ∷ n ++ x) (d ∷ z ++ y) e)) ∙ both.0))
      | inr later ↦ absurd
          (both_ways (is_name_byte d) (not-true (is_name_byte d) later)
          (ap is_name_byte (sym (same_second a b c d (n ++ x) (z ++ y) e)) ∙ second.0))
    ]

-- a number begins with a digit
decimal_first : (bytes : List ℕ) → are_digits is_ascii_digit bytes ≡ true → is_ascii_digit (slice_index bytes 0) ≡ true
decimal_first [] h = absurd (false≢true h)
decimal_first (b ∷ bs) h =
    (and_parts (is_ascii_digit b) (list_all is_ascii_digit bs)
    (and_parts (ltb 0 (length (b ∷ bs))) (list_all is_ascii_digit (b ∷ bs)) h).1).0

-- a number begins with a digit
pub number_first : (bytes : List ℕ) (value : Option ℕ)
    → IsToken bytes (number value) → is_ascii_digit (slice_index bytes 0) ≡ true
number_first bytes value (inl d) = decimal_first bytes d.0
number_first bytes value (inr h) = rw h.1 refl

front_first : (text front back : List ℕ)
    → text ≡ front ++ back → 0 < length front
    → slice_index text 0 ≡ slice_index front 0
front_first text [] back e some = absurd (omega arith)
front_first text (a ∷ front) back e some = ap (λ (t : List ℕ). get_or t 0 0) e

-- bytes that pass the test `begins_no_digit` do not begin with a digit
pub no_digit_symbol : (z : List ℕ) → begins_no_digit z ≡ true → is_ascii_digit (slice_index z 0) ≡ true → ⊥
no_digit_symbol [] h digit = false≢true h
no_digit_symbol (x ∷ z) h digit = both_ways (is_ascii_digit x) (not-true (is_ascii_digit x) h) digit

-- a number has a digit
number_some : (bytes : List ℕ) (value : Option ℕ) → IsToken bytes (number value) → 0 < length bytes
number_some [] value h = absurd (false≢true (number_first [] value h))
number_some (b ∷ bs) value h = omega arith

-- ---- the token that is taken, by the bytes at the front

whole_of : (text s : List ℕ) → take (length s) text ≡ s → text ≡ s ++ drop (length s) text
whole_of text s h = sym (take-append-drop (length s) text) ∙ ap (λ (t : List ℕ). t ++ drop (length s) text) h

symbol_longest : (text s : List ℕ)
    → symbol_at text ≡ Some s
    → (other : Token) (front back : List ℕ) → text ≡ front ++ back
    → IsToken front other
    → length front ≤ length s
symbol_longest text s found (symbol z) front back e h =
    let as_long = symbol_as_long text z back (e ∙ ap (λ (t : List ℕ). t ++ back) h.0) h.1 in
    let same : as_long.0 ≡ s = same_Some as_long.0 s (sym as_long.1 ∙ found) in
    omega (arith, as_long.2, ap length same, ap length h.0)
symbol_longest text s found (name n) front back e h =
    let whole = whole_of text s (symbol_is text s found).1 in
    name_in_symbol front s back (drop (length s) text) (sym e ∙ whole) h.1
    (each_symbol (λ z. begins_no_name z ≡ true) s symbols_no_name (symbol_contained text s found))
symbol_longest text s found (number value) front back e h =
    let is = symbol_is text s found in
    let first : slice_index s 0 ≡ slice_index front 0 =
    sym (front_first text s (drop (length s) text) (whole_of text s is.1) is.0)
    ∙ front_first text front back e (number_some front value h) in
    absurd (no_digit_symbol s
    (each_symbol (λ z. begins_no_digit z ≡ true) s symbols_no_digit (symbol_contained text s found))
    (ap is_ascii_digit first ∙ number_first front value h))

symbol_taken : (text s : List ℕ) → symbol_at text ≡ Some s → BeginsWith text (symbol s) (drop (length s) text)
symbol_taken text s found = record {
  bytes = s;
  parts = whole_of text s (symbol_is text s found).1;
  is_token = (refl, symbol_contained text s found);
  longest = symbol_longest text s found;
}

-- if no symbol is found at the front, the text begins with no symbol
pub no_symbol_there : (text z back : List ℕ) → symbol_at text ≡ None → text ≡ z ++ back → Contains symbols z → ⊥
no_symbol_there text z back none e h =
    let as_long = symbol_as_long text z back e h in
    none-some as_long.0 (sym none ∙ as_long.1)

-- a text whose front is this symbol is the symbol, followed by the same rest
pub symbol_back : (text z front back : List ℕ) → text ≡ front ++ back → front ≡ z → text ≡ z ++ back
symbol_back text z front back e same = e ∙ ap (λ (t : List ℕ). t ++ back) same

name_some : (bytes : List ℕ) → is_name bytes ≡ true → 0 < length bytes
name_some [] h = absurd (false≢true h)
name_some (b ∷ bs) h = omega arith

-- a text that begins with a name begins with a byte that may start a name
pub name_first : (text front back : List ℕ)
    → text ≡ front ++ back → is_name front ≡ true
    → is_name_start (slice_index text 0) ≡ true
name_first text front back e h =
    ap is_name_start (front_first text front back e (name_some front h)) ∙ (name_bytes front h).0

-- a text that begins with a number begins with a digit
pub digit_first : (text front back : List ℕ) (value : Option ℕ)
    → text ≡ front ++ back → IsToken front (number value)
    → is_ascii_digit (slice_index text 0) ≡ true
digit_first text front back value e h =
    ap is_ascii_digit (front_first text front back e (number_some front value h)) ∙ number_first front value h

-- no digit is a byte that may start a name
pub start_no_digit : {A : Type 0} (b : ℕ) → is_name_start b ≡ true → is_ascii_digit b ≡ true → A
start_no_digit b start digit = absurd (both_ways (is_name_start b) (digit_no_start b digit) start)

name_longest : (text : List ℕ)
    → symbol_at text ≡ None → is_name_start (slice_index text 0) ≡ true
    → (other : Token) (front back : List ℕ) → text ≡ front ++ back
    → IsToken front other
    → length front ≤ length (run is_name_byte text)
name_longest text none start (symbol z) front back e h =
    absurd (no_symbol_there text z back none (symbol_back text z front back e h.0) h.1)
name_longest text none start (name n) front back e h =
    omega (arith, run_covers is_name_byte text front back e (name_bytes front h.1).1, length_run is_name_byte text)
name_longest text none start (number value) front back e h =
    start_no_digit (slice_index text 0) start (digit_first text front back value e h)

cut_run : (test : ℕ → Bool) (text : List ℕ) → text ≡ run test text ++ drop (prefix_len test text) text
cut_run test text = sym (take-append-drop (prefix_len test text) text)

name_taken : (text : List ℕ)
    → symbol_at text ≡ None → is_name_start (slice_index text 0) ≡ true
    → BeginsWith text (name (run is_name_byte text)) (drop (prefix_len is_name_byte text) text)
name_taken text none start =
    let begins = run_begins is_name_byte text (start_in_name (slice_index text 0) start) refl in
    let bytes = run is_name_byte text in
    record {
      bytes = bytes;
      parts = cut_run is_name_byte text;
      is_token = (
        refl,
        and_from (is_name_start (slice_index bytes 0)) (list_all is_name_byte bytes)
            (ap is_name_start begins.1 ∙ start) (run_passes is_name_byte text),
      );
      longest = name_longest text none start;
    }

digits_of : (test : ℕ → Bool) (bytes : List ℕ)
    → 0 < length bytes → list_all test bytes ≡ true → are_digits test bytes ≡ true
digits_of test bytes some h = and_from (ltb 0 (length bytes)) (list_all test bytes) (lt-ltb 0 (length bytes) some) h

run_digits : (test : ℕ → Bool) (text : List ℕ)
    → test (slice_index text 0) ≡ true → test 0 ≡ false
    → are_digits test (run test text) ≡ true
run_digits test text first fails =
    digits_of test (run test text) (run_begins test text first fails).0 (run_passes test text)

-- if bytes are digits of a class, at least one, each of them is in this class
pub all_digits_of : (test : ℕ → Bool) (bytes : List ℕ) → are_digits test bytes ≡ true → list_all test bytes ≡ true
all_digits_of test bytes h = (and_parts (ltb 0 (length bytes)) (list_all test bytes) h).1

-- a hexadecimal number at the front
hexadecimal_there : (text digits back : List ℕ)
    → text ≡ (codes "0x" ++ digits) ++ back → are_digits is_hex_digit digits ≡ true
    → is_hexadecimal text ≡ true
hexadecimal_there text [] back e h = absurd (false≢true h)
hexadecimal_there text (d ∷ ds) back e h =
    rw e (and_parts (is_hex_digit d) (list_all is_hex_digit ds) (all_digits_of is_hex_digit (d ∷ ds) h)).0

decimal_longest : (text : List ℕ)
    → symbol_at text ≡ None → is_hexadecimal text ≡ false
    → is_ascii_digit (slice_index text 0) ≡ true
    → (other : Token) (front back : List ℕ) → text ≡ front ++ back
    → IsToken front other
    → length front ≤ length (run is_ascii_digit text)
decimal_longest text none plain digit (symbol z) front back e h =
    absurd (no_symbol_there text z back none (symbol_back text z front back e h.0) h.1)
decimal_longest text none plain digit (name n) front back e h =
    start_no_digit (slice_index text 0) (name_first text front back e h.1) digit
decimal_longest text none plain digit (number value) front back e (inl h) =
    omega (
      arith,
      run_covers is_ascii_digit text front back e (all_digits_of is_ascii_digit front h.0),
      length_run is_ascii_digit text,
    )
decimal_longest text none plain digit (number value) front back e (inr h) =
    absurd (both_ways (is_hexadecimal text) plain
    (hexadecimal_there text h.0 back (e ∙ ap (λ (t : List ℕ). t ++ back) h.1) h.2))

decimal_taken : (text : List ℕ)
    → symbol_at text ≡ None → is_hexadecimal text ≡ false
    → is_ascii_digit (slice_index text 0) ≡ true
    → BeginsWith text
    (number (value_of (digits_value 10 (run is_ascii_digit text))))
    (drop (prefix_len is_ascii_digit text) text)
decimal_taken text none plain digit = record {
  bytes = run is_ascii_digit text;
  parts = cut_run is_ascii_digit text;
  is_token = inl (run_digits is_ascii_digit text digit refl, refl);
  longest = decimal_longest text none plain digit;
}

hexadecimal_bytes : (text : List ℕ)
    → is_hexadecimal text ≡ true
    → (text ≡ 48 ∷ 120 ∷ drop 2 text) × (is_hex_digit (slice_index (drop 2 text) 0) ≡ true)
hexadecimal_bytes [] h = absurd (false≢true h)
hexadecimal_bytes (a ∷ []) h = absurd (false≢true (sym (and_right (eqb a 48 && false) false refl) ∙ h))
hexadecimal_bytes (a ∷ b ∷ t) h =
    let both = and_parts (eqb a 48 && eqb b 120) (is_hex_digit (slice_index (a ∷ b ∷ t) 2)) h in
    let front = and_parts (eqb a 48) (eqb b 120) both.0 in
    (ap (λ (x : ℕ). x ∷ b ∷ t) (eqb-true a 48 front.0) ∙ ap (λ (y : ℕ). 48 ∷ y ∷ t) (eqb-true b 120 front.1), both.1)

decimal_short : (front back rest : List ℕ)
    → 48 ∷ 120 ∷ rest ≡ front ++ back → list_all is_ascii_digit front ≡ true
    → length front ≤ 1
decimal_short [] back rest e h = omega arith
decimal_short (a ∷ []) back rest e h = omega arith
decimal_short (a ∷ b ∷ front) back rest e h =
    let both = and_parts (is_ascii_digit a) (is_ascii_digit b && list_all is_ascii_digit front) h in
    let second = and_parts (is_ascii_digit b) (list_all is_ascii_digit front) both.1 in
    absurd (false≢true (ap is_ascii_digit (same_second 48 120 a b rest (front ++ back) e) ∙ second.0))

hexadecimal_longest : (text : List ℕ)
    → symbol_at text ≡ None → is_hexadecimal text ≡ true
    → (other : Token) (front back : List ℕ) → text ≡ front ++ back
    → IsToken front other
    → length front ≤ length (codes "0x" ++ run is_hex_digit (drop 2 text))
hexadecimal_longest text none is (symbol z) front back e h =
    absurd (no_symbol_there text z back none (symbol_back text z front back e h.0) h.1)
hexadecimal_longest text none is (name n) front back e h =
    let first : slice_index text 0 ≡ 48 = ap (λ (t : List ℕ). get_or t 0 0) (hexadecimal_bytes text is).0 in
    absurd (false≢true (sym (ap is_name_start first) ∙ name_first text front back e h.1))
hexadecimal_longest text none is (number value) front back e (inl h) =
    omega (
      arith,
      decimal_short front back (drop 2 text) (sym (hexadecimal_bytes text is).0 ∙ e)
          (all_digits_of is_ascii_digit front h.0),
    )
hexadecimal_longest text none is (number value) front back e (inr h) =
    let digits : drop 2 text ≡ h.0 ++ back = ap (drop 2) (e ∙ ap (λ (t : List ℕ). t ++ back) h.1) in
    omega (
      arith,
      ap length h.1,
      run_covers is_hex_digit (drop 2 text) h.0 back digits (all_digits_of is_hex_digit h.0 h.2),
      length_run is_hex_digit (drop 2 text),
    )

hexadecimal_taken : (text : List ℕ)
    → symbol_at text ≡ None → is_hexadecimal text ≡ true
    → BeginsWith text
    (number (value_of (digits_value 16 (run is_hex_digit (drop 2 text)))))
    (drop (prefix_len is_hex_digit (drop 2 text)) (drop 2 text))
hexadecimal_taken text none is =
    let digits = run is_hex_digit (drop 2 text) in
    record {
      bytes = codes "0x" ++ digits;
      parts = (hexadecimal_bytes text is).0 ∙ ap (λ (t : List ℕ). 48 ∷ 120 ∷ t) (cut_run is_hex_digit (drop 2 text));
      is_token = inr (digits, refl, run_digits is_hex_digit (drop 2 text) (hexadecimal_bytes text is).1 refl, refl);
      longest = hexadecimal_longest text none is;
    }

-- ---- by the tests of the code

-- a token and the bytes after it
abbrev cut : Token → List ℕ → Option (Token × List ℕ)
cut t rest = Some (t, rest)

same_taken : (text : List ℕ) (found t : Token) (after rest : List ℕ)
    → BeginsWith text found after → cut found after ≡ cut t rest
    → BeginsWith text t rest
same_taken text found t after rest h e =
    let front : Token × List ℕ = (found, after) in
    let back : Token × List ℕ = (t, rest) in
    let same : front ≡ back = same_Some front back e in
    subst (λ (p : Token × List ℕ). BeginsWith text p.0 p.1) same h

by_digit : (text : List ℕ) (t : Token) (rest : List ℕ)
    → symbol_at text ≡ None → is_hexadecimal text ≡ false
    → (b : Bool) → is_ascii_digit (slice_index text 0) ≡ b
    → cond b
    (cut (number (value_of (digits_value 10 (run is_ascii_digit text)))) (drop (prefix_len is_ascii_digit text) text))
    None
    ≡ cut t rest
    → BeginsWith text t rest
by_digit text t rest none plain true digit e =
    same_taken text
    (number (value_of (digits_value 10 (run is_ascii_digit text))))
    t (drop (prefix_len is_ascii_digit text) text) rest
    (decimal_taken text none plain digit) e
by_digit text t rest none plain false digit e = absurd (let pair : Token × List ℕ = (t, rest) in none-some pair e)

by_number : (text : List ℕ) (t : Token) (rest : List ℕ)
    → symbol_at text ≡ None → (b : Bool) → is_hexadecimal text ≡ b
    → cond b
    (cut (number (value_of (digits_value 16 (run is_hex_digit (drop 2 text)))))
    (drop (prefix_len is_hex_digit (drop 2 text)) (drop 2 text)))
    (cond (is_ascii_digit (slice_index text 0))
    (cut (number (value_of (digits_value 10 (run is_ascii_digit text)))) (drop (prefix_len is_ascii_digit text) text))
    None)
    ≡ cut t rest
    → BeginsWith text t rest
by_number text t rest none true is e =
    same_taken text
    (number (value_of (digits_value 16 (run is_hex_digit (drop 2 text)))))
    t
    (drop (prefix_len is_hex_digit (drop 2 text)) (drop 2 text))
    rest (hexadecimal_taken text none is) e
by_number text t rest none false plain e = by_digit text t rest none plain (is_ascii_digit (slice_index text 0)) refl e

by_name : (text : List ℕ) (t : Token) (rest : List ℕ)
    → symbol_at text ≡ None
    → (b : Bool) → is_name_start (slice_index text 0) ≡ b
    → option_or (cond b (cut (name (run is_name_byte text)) (drop (prefix_len is_name_byte text) text)) None)
    (number_at text)
    ≡ cut t rest
    → BeginsWith text t rest
unfolding number_at
by_name text t rest none true start e =
    same_taken text (name (run is_name_byte text)) t (drop (prefix_len is_name_byte text) text) rest
    (name_taken text none start) e
by_name text t rest none false start e = by_number text t rest none (is_hexadecimal text) refl e

by_symbol : (text : List ℕ) (t : Token) (rest : List ℕ) (o : Option (List ℕ))
    → symbol_at text ≡ o
    → option_or (option_map (λ s. (symbol s, drop (length s) text)) o) (option_or (name_at text) (number_at text))
    ≡ cut t rest
    → BeginsWith text t rest
unfolding name_at
by_symbol text t rest (Some s) found e =
    same_taken text (symbol s) t (drop (length s) text) rest (symbol_taken text s found) e
by_symbol text t rest None none e = by_name text t rest none (is_name_start (slice_index text 0)) refl e

-- the token that is found at the front is the longest with which the text begins
pub taken : (text : List ℕ) (t : Token) (rest : List ℕ) → token_at text ≡ cut t rest → BeginsWith text t rest
unfolding token_at
taken text t rest e = by_symbol text t rest (symbol_at text) refl e
