-- The bits of a word that has a bit for each taken entry.
use Rattle.std.proofs.Common.{◌≡◌, ℕ, ◌+◌, ◌-◌, ◌*◌, ◌%◌, ◌<◌, ◌≤◌, ◌^◌, Bool, true, false, cond, List, length, get_or, set}
use Rattle.std.proofs.Common.{Option, Some, None, refl, sym, ap, subst, ◌∙◌, ◌⊎◌, inl, inr, arith, get_or-set_same, get_or-set_other}
use Rattle.std.specs.Prelude.{nat_lt, is_none, position, bit_and, bit_or}
use Rattle.std.specs.List.{position_or_len}
use lib.Count.{count_trailing_zeros}
use Rattle.std.specs.Int.{w64, bit_at, bit_not, trailing_ones}
use Rattle.std.proofs.lemmas.Bool.{cases_eq, cases_lt, lt-ltb, le-ltb}
use Rattle.std.proofs.lemmas.List.{get_or-replicate}
use Rattle.std.proofs.lemmas.List.Sums.{position_or_len_is}
use Rattle.std.proofs.lemmas.Nat.Bits.{bit_at-zero, bit_at_ones, bit_at-trailing_ones, bit_at_set_same, bit_at_set_other, bit_at_clear_same, bit_at_clear_other}
use Rattle.fd_table.specs.Table.{nothing_open}
use Rattle.fd_table.specs.Bits.{MarksTaken}

free_bit : (b : Bool) (bit : ℕ) → bit ≡ 0 → bit ≡ cond b 0 1 → b ≡ true
free_bit true bit zero e = refl
free_bit false bit zero e = absurd (omega arith)

taken_bit : (b : Bool) (bit : ℕ) → bit ≡ 1 → bit ≡ cond b 0 1 → b ≡ false
taken_bit true bit one e = absurd (omega arith)
taken_bit false bit one e = refl

ones_of_full : (word : ℕ) → word ≡ 2 ^ 64 - 1 → trailing_ones w64 word ≡ 64
unfolding count_trailing_zeros
ones_of_full word full = ap (trailing_ones w64) full

module _ {A : Type 0} where
  -- the lowest 0 is the index of the first free entry
  below_full : (word : ℕ) (entries : List (Option A))
      → length entries ≡ 64 → word + 1 < 2 ^ 64
      → MarksTaken word entries
      → (trailing_ones w64 word < 64) × (position_or_len is_none entries ≡ trailing_ones w64 word)
  below_full word entries len room tells =
      let (within, here, before) = bit_at-trailing_ones w64 word room in
      let free =
      free_bit (is_none (get_or entries (trailing_ones w64 word) None))
      (bit_at word (trailing_ones w64 word)) here (tells (trailing_ones w64 word) within) in (
        within,
        position_or_len_is is_none entries (trailing_ones w64 word) None (omega arith)
            (λ k lt. taken_bit (is_none (get_or entries k None)) (bit_at word k) (before k lt) (tells k (omega arith)))
            (λ _. free),
      )

  -- if there is no 0, no entry is free
  at_full : (word : ℕ) (entries : List (Option A)) → length entries ≡ 64 → word ≡ 2 ^ 64 - 1 → MarksTaken word entries
      → (trailing_ones w64 word ≡ 64) × (position_or_len is_none entries ≡ 64)
  at_full word entries len full tells =
      let ones : (k : ℕ) → k < 64 → bit_at word k ≡ 1 = λ k lt. ap (λ w. bit_at w k) full ∙ bit_at_ones 64 k lt in (
        ones_of_full word full,
        position_or_len_is is_none entries 64 None (omega arith)
            (λ k lt. taken_bit (is_none (get_or entries k None)) (bit_at word k) (ones k lt) (tells k lt))
            (λ lt. absurd (omega arith)),
      )

  first_free : (word : ℕ) (entries : List (Option A))
      → length entries ≡ 64 → word < 2 ^ 64
      → MarksTaken word entries → (word + 1 < 2 ^ 64) ⊎ (2 ^ 64 ≤ word + 1)
      → position_or_len is_none entries ≡ trailing_ones w64 word
  first_free word entries len small tells (inl room) = (below_full word entries len room tells).1
  first_free word entries len small tells (inr full) =
      let (ones, none) = at_full word entries len (omega arith) tells in
      none ∙ sym ones

  -- if a bit is 0, the ones below the lowest 0 give the index of the first free entry
  pub some_free : (word index : ℕ) (entries seen : List (Option A))
      → entries ≡ seen → length entries ≡ 64
      → word < 2 ^ 64 → MarksTaken word entries
      → index ≡ trailing_ones w64 word → index < 64
      → Some index ≡ position is_none seen
  some_free word index entries seen same len small tells ones lt =
      let first : position_or_len is_none entries ≡ index =
      first_free word entries len small tells (cases_lt (word + 1) (2 ^ 64)) ∙ sym ones in
      let within : nat_lt index 64 ≡ true = lt-ltb index 64 lt in
      let here : Some index ≡ position is_none entries = rw (first, len, within) refl in
      here ∙ ap (position is_none) same

  -- if no bit is 0, no entry is free
  pub none_free : (word index : ℕ) (entries seen : List (Option A))
      → entries ≡ seen → length entries ≡ 64
      → word < 2 ^ 64 → MarksTaken word entries
      → index ≡ trailing_ones w64 word → 64 ≤ index
      → None ≡ position is_none seen
  none_free word index entries seen same len small tells ones above =
      let first : position_or_len is_none entries ≡ index =
      first_free word entries len small tells (cases_lt (word + 1) (2 ^ 64)) ∙ sym ones in
      let past : nat_lt index 64 ≡ false = le-ltb index 64 above in
      let here : None ≡ position is_none entries = rw (first, len, past) refl in
      here ∙ ap (position is_none) same

  more_at : (word : ℕ) (entries : List (Option A)) (index : ℕ) (x : A)
      → index < length entries → index < 64
      → MarksTaken word entries → (k : ℕ) → k < 64
      → (k ≡ index) ⊎ (k ≡ index → ⊥)
      → bit_at (bit_or word (1 * 2 ^ index % 2 ^ 64)) k
      ≡ cond (is_none (get_or (set entries index (Some x)) k None)) 0 1
  more_at word entries index x within lt tells k low (inl same) =
      rw same
      (bit_at_set_same w64 word index lt
      ∙ sym (ap (λ (o : Option A). cond (is_none o) 0 1) (get_or-set_same entries index (Some x) None within)))
  more_at word entries index x within lt tells k low (inr other) =
      bit_at_set_other w64 word index lt k other
      ∙ tells k low
      ∙ sym (ap (λ (o : Option A). cond (is_none o) 0 1) (get_or-set_other entries index k (Some x) None other))

  -- after an entry is taken, its bit is set
  pub taken_more : (word : ℕ) (entries : List (Option A)) (index : ℕ) (x : A)
      → length entries ≡ 64 → index < 64
      → MarksTaken word entries
      → MarksTaken (bit_or word (1 * 2 ^ index % 2 ^ 64)) (set entries index (Some x))
  taken_more word entries index x len lt tells k low =
      more_at word entries index x (omega arith) lt tells k low (cases_eq k index)

  less_at : (word : ℕ) (entries : List (Option A)) (index : ℕ)
      → index < length entries → index < 64
      → MarksTaken word entries → (k : ℕ) → k < 64
      → (k ≡ index) ⊎ (k ≡ index → ⊥)
      → bit_at (bit_and word (bit_not w64 (1 * 2 ^ index % 2 ^ 64))) k
      ≡ cond (is_none (get_or (set entries index None) k None)) 0 1
  less_at word entries index within lt tells k low (inl same) =
      rw same
      (bit_at_clear_same w64 word index lt
      ∙ sym (ap (λ (o : Option A). cond (is_none o) 0 1) (get_or-set_same entries index None None within)))
  less_at word entries index within lt tells k low (inr other) =
      bit_at_clear_other w64 word index lt k low other
      ∙ tells k low
      ∙ sym (ap (λ (o : Option A). cond (is_none o) 0 1) (get_or-set_other entries index k None None other))

  -- after an entry is freed, its bit is cleared
  pub taken_less : (word : ℕ) (entries : List (Option A)) (index : ℕ)
      → length entries ≡ 64 → index < 64
      → MarksTaken word entries
      → MarksTaken (bit_and word (bit_not w64 (1 * 2 ^ index % 2 ^ 64))) (set entries index None)
  taken_less word entries index len lt tells k low =
      less_at word entries index (omega arith) lt tells k low (cases_eq k index)

-- the same, if `left` is None
pub left_free : {A : Type 0} (word : ℕ) (entries : List (Option A)) (index : ℕ) (left : Option A)
    → length entries ≡ 64 → index < 64
    → MarksTaken word entries → left ≡ None
    → MarksTaken (bit_and word (bit_not w64 (1 * 2 ^ index % 2 ^ 64))) (set entries index left)
left_free {A = A} word entries index left len lt tells gone =
    subst (λ (o : Option A). MarksTaken (bit_and word (bit_not w64 (1 * 2 ^ index % 2 ^ 64))) (set entries index o))
    (sym gone) (taken_less word entries index len lt tells)

-- no bit is set if nothing is open
pub none_taken : (A : Type 0) (entries : List (Option A)) → entries ≡ nothing_open → MarksTaken 0 entries
none_taken A entries none k lt =
    bit_at-zero k
    ∙ sym (ap (λ (os : List (Option A)). cond (is_none (get_or os k None)) 0 1) none
    ∙ ap (λ (o : Option A). cond (is_none o) 0 1) (get_or-replicate 64 k None None lt))
