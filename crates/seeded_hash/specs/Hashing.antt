-- The result of the seeded hash function. No contract of a map mentions it. This project's own.
use Rattle.std.specs.Prelude.{ℕ, zero, suc, ◌+◌, ◌-◌, ◌*◌, ◌/◌, ◌%◌, ◌^◌, List, length}
use Rattle.std.specs.Prelude.{if◌then◌else◌, nat_le, nat_lt, slice_index, take, drop, bit_and, bit_or, bit_xor}
use Rattle.std.specs.Int.{w64, from_le_bytes, rotate_left}
use Rattle.seeded_hash.specs.declared.HashSeed.{HashSeed}
use Rattle.seeded_hash.specs.declared.SeededHasher.{SeededHasher}

-- the seed of sixteen bytes: its state is the number of the first eight, and its factor that of the
-- last eight, little-endian
abbrev pub seed_of : List ℕ → HashSeed
seed_of bytes = record {
  state = from_le_bytes w64 (take 8 bytes);
  factor = from_le_bytes w64 (drop 8 bytes);
}

-- the hasher of a seed, before anything is written
abbrev pub started : HashSeed → SeededHasher
started seed = record { state = seed.state; factor = seed.factor }

-- the two halves of the 128 bits of a * b, joined by exclusive or
unfoldable pub folded_product : ℕ → ℕ → ℕ
folded_product a b = bit_xor (bit_and (a * b) (2 ^ 64 - 1)) (a * b / 2 ^ 64)

-- the number of the four bytes from i on, little-endian
unfoldable pub half_word_at : List ℕ → ℕ → ℕ
half_word_at bs i =
    slice_index bs i + slice_index bs (i + 1) * 256 + slice_index bs (i + 2) * 65536
    + slice_index bs (i + 3) * 16777216

-- x shifted to the left by this number of bits, modulo 2 ^ 64
abbrev pub shifted : ℕ → ℕ → ℕ
shifted x by = (x * 2 ^ by) % 2 ^ 64

-- the number of the eight bytes from i on, little-endian
unfoldable pub word_at : List ℕ → ℕ → ℕ
word_at bs i = bit_or (half_word_at bs i) (shifted (half_word_at bs (i + 4)) 32)

-- at most eight bytes as one number: the first four and the last four, or of one to three bytes the
-- first, the middle and the last; 0 for no bytes
unfoldable pub short_word : List ℕ → ℕ
short_word bs =
    let n = length bs in
    if nat_le 4 n then bit_or (half_word_at bs 0) (shifted (half_word_at bs (n - 4)) 32)
    else
    (if nat_lt 0 n
    then bit_or (bit_or (slice_index bs 0) (shifted (slice_index bs (n / 2)) 8))
    (shifted (slice_index bs (n - 1)) 16)
    else 0)

-- the state after two words are mixed in, the eight bytes at i and those at j: the folded product
-- of the first word xor the state before and the second word xor the factor of the seed
abbrev pub mixed : ℕ → List ℕ → ℕ → ℕ → ℕ → ℕ
mixed factor bs state i j =
    folded_product (bit_xor (word_at bs i) state) (bit_xor (word_at bs j) factor)

-- the state after the first n blocks of sixteen bytes each are mixed in, from the state before them
unfoldable pub blocks_mixed : ℕ → List ℕ → ℕ → ℕ → ℕ
blocks_mixed factor bs state zero = state
blocks_mixed factor bs state (suc n) =
    mixed factor bs (blocks_mixed factor bs state n) (16 * n) (16 * n + 8)

-- the hasher after a write of bytes, whose number is added to the state first. One product mixes in
-- up to eight bytes. For more, one product mixes in each block of sixteen that does not reach the
-- last byte, one the last sixteen (the first eight and the last eight if there are fewer than
-- sixteen), and one more is by the factor
unfoldable pub written : SeededHasher → List ℕ → SeededHasher
written h bs =
    let n = length bs in
    let state = (h.state + n) % 2 ^ 64 in
    let short =
    folded_product (bit_xor (short_word bs) state)
    (bit_xor (rotate_left w64 (short_word bs) 32) h.factor) in
    let long =
    folded_product
    (mixed h.factor bs (blocks_mixed h.factor bs state ((n - 1) / 16)) (n - 16)
    (n - 8)) h.factor in
    record { state = if nat_le n 8 then short else long; factor = h.factor }

-- the hash of all bytes written: the state of the hasher
abbrev pub finished : SeededHasher → ℕ
finished h = h.state
