-- Words that follow one another in a list of bytes.
use Rattle.std.proofs.Common.{◌≡◌, ℕ, zero, suc, ◌+◌, ◌*◌, ◌<◌, List, [], ◌∷◌, length, take, drop, get_or, refl, sym, ap, ap₂, ◌∙◌, arith}
use Rattle.std.proofs.lemmas.List.{get_or-take, get_or-drop, drop-drop}
use Rattle.byteorder.specs.Endian.{little_number, IsRead}
use Rattle.command_frames.specs.Command.{words_in}

later : (k : ℕ) (bytes : List ℕ) → drop (4 * suc k) bytes ≡ drop (4 * k) (drop 4 bytes)
later k bytes =
    let same : 4 * suc k ≡ 4 + 4 * k = omega arith in
    ap (λ n. drop n bytes) same ∙ sym (drop-drop (4 * k) 4 bytes)

-- words that are read one after another
words_read : (n : ℕ) (bytes found : List ℕ)
    → length found ≡ n
    → ((k : ℕ) → k < n → get_or found k 0 ≡ little_number 4 (drop (4 * k) bytes))
    → found ≡ words_in n bytes
unfolding words_in
words_read zero bytes [] len each = refl
words_read zero bytes (w ∷ ws) len each = absurd (omega arith)
words_read (suc n) bytes [] len each = absurd (omega arith)
words_read (suc n) bytes (w ∷ ws) len each =
    let first : w ≡ little_number 4 bytes = each 0 (omega arith) in
    let rest : ws ≡ words_in n (drop 4 bytes) =
    words_read n (drop 4 bytes) ws (omega arith)
    (λ k lt. each (suc k) (omega arith) ∙ ap (little_number 4) (later k bytes)) in
    ap₂ (λ (x : ℕ) (xs : List ℕ). x ∷ xs) first rest

byte_of_front : (bytes : List ℕ) (n at j : ℕ)
    → at + j < n → get_or (drop at (take n bytes)) j 0 ≡ get_or (drop at bytes) j 0
byte_of_front bytes n at j lt =
    get_or-drop at (take n bytes) j 0 ∙ get_or-take n bytes (at + j) 0 lt ∙ sym (get_or-drop at bytes j 0)

-- a word that lies in the first n bytes
word_of_front : (bytes : List ℕ) (n at : ℕ)
    → at + 3 < n → little_number 4 (drop at (take n bytes)) ≡ little_number 4 (drop at bytes)
word_of_front bytes n at lt =
    let first = byte_of_front bytes n at 0 (omega arith) in
    let second = byte_of_front bytes n at 1 (omega arith) in
    let third = byte_of_front bytes n at 2 (omega arith) in
    let fourth = byte_of_front bytes n at 3 lt in
    omega arith

-- ten words that are read from the first 40 bytes are the first ten words of all bytes
pub words_in_front : (bytes found : List ℕ)
    → length found ≡ 10
    → IsRead little_number 4 (take 40 bytes) found
    → found ≡ words_in 10 bytes
words_in_front bytes found len read =
    words_read 10 bytes found len (λ k lt. read k (omega arith) ∙ word_of_front bytes 40 (4 * k) (omega arith))
