-- A key of at most eight bytes is the number that its bytes make.
use Rattle.std.proofs.Common.{◌≡◌, ℕ, zero, suc, ◌+◌, ◌*◌, ◌/◌, ◌%◌, ◌<◌, ◌≤◌, ◌^◌, Bool, true, false, cond, List, [], ◌∷◌, ◌++◌, length}
use Rattle.std.proofs.Common.{take, replicate, get_or, None, option_map, refl, sym, ap, subst, ◌∙◌, nat_eq, arith, eqb-true, eq-eqb}
use Rattle.std.specs.Cmp.Lexicographic.{bytes_decides}
use Rattle.std.specs.Int.{w64, to_le_bytes}
use Rattle.std.specs.Map.{lookup, remove_entry}
use Rattle.ordered_keys.specs.Orders.{first_key_of}
use Rattle.words.specs.Bytes.{number_of, low_bytes}
use Rattle.words.specs.ByteLaws.{length-low_bytes, number_of-low_bytes, low_bytes_of_number, number_below}
use Rattle.tagged_model.specs.Table.{is_key, key_after}
use Rattle.bpf_maps.specs.KeyLists.{shown_by}
use Rattle.bpf_maps.specs.Words.{AreBelow}
use Rattle.bpf_maps.proofs.Shown.{Tests, first_follows}

abbrev pub AreBytes : List ℕ → Type 0
AreBytes bs = (i : ℕ) → i < length bs → get_or bs i 0 < 256

-- ---- one key

module _ (size : ℕ) (key : List ℕ) (small : AreBytes key) (long : length key ≡ size) where
  spelled : low_bytes size (number_of key) ≡ key
  spelled = subst (λ (n : ℕ). low_bytes n (number_of key) ≡ key) long (low_bytes_of_number key small)

  -- the low bytes of the number of a key are the key
  pub word_spelled : (word : ℕ) → word ≡ number_of key → low_bytes size word ≡ key
  word_spelled word is = ap (low_bytes size) is ∙ spelled

  -- a key's number has as many bytes as keys have
  pub key_below : number_of key < 256 ^ size
  key_below = subst (λ (n : ℕ). number_of key < 256 ^ n) long (number_below key small)

  -- two keys are the same if their numbers are
  same_word : (word : ℕ) → word < 256 ^ size → nat_eq (number_of key) word ≡ is_key key (low_bytes size word)
  same_word word h = by (nat_eq (number_of key) word) refl (is_key key (low_bytes size word)) refl
    where
      by : (a : Bool) → nat_eq (number_of key) word ≡ a → (b : Bool) → is_key key (low_bytes size word) ≡ b → a ≡ b
      by true e true f = refl
      by false e false f = refl
      by true e false f =
          let keys : key ≡ low_bytes size word = sym spelled ∙ ap (low_bytes size) (eqb-true (number_of key) word e) in
          sym (sym f ∙ (bytes_decides key (low_bytes size word)).1 keys)
      by false e true f =
          let keys : key ≡ low_bytes size word = (bytes_decides key (low_bytes size word)).0 f in
          let words : number_of key ≡ word = ap number_of keys ∙ number_of-low_bytes size word h in
          sym e ∙ eq-eqb (number_of key) word words

  number_tests : (es : List (ℕ × ℕ)) → AreBelow (256 ^ size) es → Tests (low_bytes size) key (nat_eq (number_of key)) es
  number_tests [] h = tt
  number_tests (e ∷ es) h = (same_word e.0 h.0, number_tests es h.1)

  -- a number in the index is that of the key if and only if it represents the bytes of the key
  pub word_tests : (word : ℕ) (es : List (ℕ × ℕ))
      → word ≡ number_of key → AreBelow (256 ^ size) es
      → Tests (low_bytes size) key (nat_eq word) es
  word_tests word es is h = subst (λ (n : ℕ). Tests (low_bytes size) key (nat_eq n) es) (sym is) (number_tests es h)

-- ---- all numbers are below the bound

-- if all numbers are below a bound, they are after one below it is added
pub below-append : (bound word element : ℕ) (es : List (ℕ × ℕ))
    → AreBelow bound es → word < bound → AreBelow bound (es ++ (word, element) ∷ [])
below-append bound word element [] h l = (l, tt)
below-append bound word element (e ∷ es) h l = (h.0, below-append bound word element es h.1 l)

-- if all numbers are below a bound, they are after one is removed
pub below-remove : (bound : ℕ) (test : ℕ → Bool) (es : List (ℕ × ℕ))
    → AreBelow bound es → AreBelow bound (remove_entry test es)
below-remove bound test [] h = tt
below-remove bound test (e ∷ es) h = by (test e.0) (below-remove bound test es h.1)
  where
    by : (b : Bool) → AreBelow bound (remove_entry test es) → AreBelow bound (cond b es (e ∷ remove_entry test es))
    by true r = h.1
    by false r = (h.0, r)

-- ---- a key of another size

other_size : (key : List ℕ) (size word : ℕ) → (length key ≡ size → ⊥) → is_key key (low_bytes size word) ≡ false
other_size key size word differ = by (is_key key (low_bytes size word)) refl
  where
    by : (b : Bool) → is_key key (low_bytes size word) ≡ b → b ≡ false
    by false e = refl
    by true e = absurd (differ (ap length ((bytes_decides key (low_bytes size word)).0 e) ∙ length-low_bytes size word))

none_passes : (es : List (ℕ × ℕ)) → lookup (λ (word : ℕ). false) es ≡ None
none_passes [] = refl
none_passes (e ∷ es) = none_passes es

-- a key of another size is followed by the first
pub after_other_size : (key : List ℕ) (size : ℕ) (es : List (ℕ × ℕ))
    → (length key ≡ size → ⊥)
    → option_map (low_bytes size) (first_key_of es) ≡ key_after key (shown_by (low_bytes size) es)
after_other_size key size es differ =
    first_follows (low_bytes size) key (λ (word : ℕ). false) es (tests es) (none_passes es)
  where
    tests : (es : List (ℕ × ℕ)) → Tests (low_bytes size) key (λ (word : ℕ). false) es
    tests [] = tt
    tests (e ∷ es) = (sym (other_size key size e.0 differ), tests es)

-- ---- the number of a key's bytes

number_of_zeros : (n : ℕ) → number_of (replicate n 0) ≡ 0
number_of_zeros zero = refl
number_of_zeros (suc n) = let h = number_of_zeros n in omega arith

-- zeros after the bytes add nothing
pub zeros_behind : (key : List ℕ) (n : ℕ) → number_of (key ++ replicate n 0) ≡ number_of key
zeros_behind [] n = number_of_zeros n
zeros_behind (b ∷ key) n = ap (λ (x : ℕ). b + 256 * x) (zeros_behind key n)

-- ---- the bytes of a number

-- the little-endian bytes of a word are its eight low bytes
pub spelled_word : (x : ℕ) → to_le_bytes w64 x ≡ low_bytes 8 x
spelled_word x =
    let c : x / 65536 % 256 ≡ x / 256 / 256 % 256 = omega arith in
    let d : x / 16777216 % 256 ≡ x / 256 / 256 / 256 % 256 = omega arith in
    let e : x / 4294967296 % 256 ≡ x / 256 / 256 / 256 / 256 % 256 = omega arith in
    let f : x / 1099511627776 % 256 ≡ x / 256 / 256 / 256 / 256 / 256 % 256 = omega arith in
    let g : x / 281474976710656 % 256 ≡ x / 256 / 256 / 256 / 256 / 256 / 256 % 256 = omega arith in
    let h : x / 72057594037927936 % 256 ≡ x / 256 / 256 / 256 / 256 / 256 / 256 / 256 % 256 = omega arith in
    λ k. x % 256 ∷ x / 256 % 256 ∷ c k ∷ d k ∷ e k ∷ f k ∷ g k ∷ h k ∷ []

pub take_low_bytes : (n m x : ℕ) → n ≤ m → take n (low_bytes m x) ≡ low_bytes n x
take_low_bytes zero m x h = refl
take_low_bytes (suc n) zero x h = absurd (omega arith)
take_low_bytes (suc n) (suc m) x h =
    ap (λ (bytes : List ℕ). x % 256 ∷ bytes) (take_low_bytes n m (x / 256) (omega arith))
