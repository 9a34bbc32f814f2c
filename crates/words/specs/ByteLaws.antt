-- Laws of bytes that are written into a list and read from it, and of the bytes of a number, of the
-- definitions of `Bytes`, proved here for the proofs of the crates above. This project's own. No
-- contract cites them, so they are not part of what has to be trusted.
use Rattle.std.proofs.Common.{◌≡◌, ◌⊎◌, inl, inr, ℕ, zero, suc, ◌+◌, ◌-◌, ◌*◌, ◌/◌, ◌%◌, ◌<◌, ◌≤◌, ◌^◌, List, []}
use Rattle.std.proofs.Common.{◌∷◌, ◌++◌, length, get_or, take, drop, slice_range, refl, sym, ap, ◌∙◌, ⊎_elim, arith}
use Rattle.std.proofs.Math.Nat.{pow-suc}
use Rattle.std.proofs.Math.Seq.{take-take, drop-append-add, take-append_seam, drop-append_seam}
use Rattle.std.proofs.lemmas.Bool.{cases_lt}
use Rattle.std.proofs.lemmas.List.{length-take, length-take-le, length-drop, length-append, get_or_append_left, get_or-append-add}
use Rattle.std.proofs.lemmas.List.{get_or-append_right, get_or-take, get_or-drop, ext_get_or, take-append-drop, drop-drop, drop-take, take-append-le}
use Rattle.std.proofs.lemmas.List.{drop-append-le}
use Rattle.words.specs.Bytes.{number_of, low_bytes, bytes_at, written_at}

-- ---- bytes of a list

-- byte k of the n bytes at an offset is byte offset + k of the list
pub byte_of : (bytes : List ℕ) (offset n k : ℕ)
    → k < n
    → get_or (bytes_at bytes offset n) k 0 ≡ get_or bytes (offset + k) 0
byte_of bytes offset n k lt =
    get_or-take n (drop offset bytes) k 0 lt ∙ get_or-drop offset bytes k 0

-- if a list has n bytes from an offset on, `bytes_at` there has length n
pub length-bytes_at : (bytes : List ℕ) (offset n : ℕ)
    → offset + n ≤ length bytes
    → length (bytes_at bytes offset n) ≡ n
length-bytes_at bytes offset n h =
    omega (arith, length-take n (drop offset bytes), length-drop offset bytes)

-- if each of the n bytes at an offset is the byte of `new` at its position, they are `new`
pub bytes_are : (bytes new : List ℕ) (offset n : ℕ)
    → length new ≡ n
    → offset + n ≤ length bytes
    → ((k : ℕ) → k < n → get_or bytes (offset + k) 0 ≡ get_or new k 0)
    → bytes_at bytes offset n ≡ new
bytes_are bytes new offset n count h same =
    let long = length-bytes_at bytes offset n h in
    ext_get_or 0 (bytes_at bytes offset n) new (long ∙ sym count)
    (λ k lt. byte_of bytes offset n k (omega arith) ∙ same k (omega arith))

-- of the `size` bytes at an offset, the n bytes at `at` are those of the list at offset + at
pub bytes_within : (bytes : List ℕ) (offset size at n : ℕ)
    → at + n ≤ size
    → bytes_at (bytes_at bytes offset size) at n ≡ bytes_at bytes (offset + at) n
bytes_within bytes offset size at n room =
    let split : size ≡ at + (size - at) = omega arith in
    ap (λ (k : ℕ). take n (drop at (take k (drop offset bytes)))) split
    ∙ ap (take n) (drop-take at (size - at) (drop offset bytes))
    ∙ take-take n (size - at) (drop at (drop offset bytes)) (omega arith)
    ∙ ap (take n) (drop-drop at offset bytes)

-- the slice of a list from an offset to offset + n is the n bytes at this offset
pub range_is_bytes : (bytes : List ℕ) (offset n : ℕ)
    → slice_range bytes offset (offset + n) ≡ bytes_at bytes offset n
range_is_bytes bytes offset n =
    let same : offset + n - offset ≡ n = omega arith in
    ap (λ (k : ℕ). take k (drop offset bytes)) same

-- ---- a list in which bytes are written

-- writing leaves the length of the list unchanged
pub length-written_at : (bytes new : List ℕ) (offset : ℕ)
    → offset + length new ≤ length bytes
    → length (written_at bytes offset new) ≡ length bytes
length-written_at bytes new offset h =
    omega (
      arith,
      length-append (take offset bytes) (new ++ drop (offset + length new) bytes),
      length-append new (drop (offset + length new) bytes),
      length-take offset bytes,
      length-drop (offset + length new) bytes,
    )

-- byte k of those written at an offset is byte offset + k of the list after the write
pub written_in : (bytes new : List ℕ) (offset k : ℕ)
    → offset ≤ length bytes
    → k < length new
    → get_or (written_at bytes offset new) (offset + k) 0 ≡ get_or new k 0
written_in bytes new offset k h lt =
    let long = length-take-le offset bytes h in
    let at : offset + k ≡ length (take offset bytes) + k = omega arith in
    ap (λ (q : ℕ). get_or (written_at bytes offset new) q 0) at
    ∙ get_or-append-add (take offset bytes) (new ++ drop (offset + length new) bytes) k 0
    ∙ get_or_append_left new (drop (offset + length new) bytes) 0 k lt

-- a byte of the list before or after those written is unchanged
pub written_out : (bytes new : List ℕ) (offset q : ℕ)
    → offset ≤ length bytes
    → (q < offset) ⊎ (offset + length new ≤ q)
    → get_or (written_at bytes offset new) q 0 ≡ get_or bytes q 0
written_out bytes new offset q h (inl below) =
    let long = length-take-le offset bytes h in
    get_or_append_left (take offset bytes) (new ++ drop (offset + length new) bytes) 0 q
    (omega arith)
    ∙ get_or-take offset bytes q 0 below
written_out bytes new offset q h (inr above) =
    let long = length-take-le offset bytes h in
    let at : offset + length new + (q - offset - length new) ≡ q = omega arith in
    get_or-append_right (take offset bytes)
    (new ++ drop (offset + length new) bytes) offset q 0 long (omega arith)
    ∙ get_or-append_right new (drop (offset + length new) bytes) (length new) (q - offset) 0 refl
    (omega arith)
    ∙ get_or-drop (offset + length new) bytes (q - offset - length new) 0
    ∙ ap (λ (p : ℕ). get_or bytes p 0) at

-- the bytes at the offset of a write are those written
pub bytes_written : (bytes new : List ℕ) (offset : ℕ)
    → offset + length new ≤ length bytes
    → bytes_at (written_at bytes offset new) offset (length new) ≡ new
bytes_written bytes new offset h =
    let long : offset ≡ length (take offset bytes) = omega (arith, length-take offset bytes) in
    ap (λ (p : ℕ). take (length new) (drop p (written_at bytes offset new))) long
    ∙ ap (take (length new))
    (drop-append_seam (take offset bytes) (new ++ drop (offset + length new) bytes))
    ∙ take-append_seam new (drop (offset + length new) bytes)

-- the n bytes at `from` in a list (`bytes_at`) are unchanged if they end at `offset` or below it,
-- and other bytes (`rest`), of any number, replace all bytes of the list from `offset` on. `offset`
-- is at most the list's length, so `rest` begins at `offset`. `bytes_stay` needs this for bytes
-- before a write; there `rest` is the bytes written and those after them
before : (bytes rest : List ℕ) (offset from n : ℕ)
    → from + n ≤ offset
    → offset ≤ length bytes
    → bytes_at (take offset bytes ++ rest) from n ≡ bytes_at bytes from n
before bytes rest offset from n h k =
    let long : length (take offset bytes) ≡ offset = omega (arith, length-take offset bytes) in
    let there : from ≤ length (take offset bytes) = omega arith in
    let left : length (drop from (take offset bytes)) ≡ offset - from =
    omega (arith, length-drop from (take offset bytes)) in
    let room : n ≤ length (drop from (take offset bytes)) = omega arith in
    let split : from + (offset - from) ≡ offset = omega arith in
    let less : n ≤ length (take (offset - from) (drop from bytes)) =
    omega (arith, length-take (offset - from) (drop from bytes), length-drop from bytes) in
    ap (take n) (drop-append-le from (take offset bytes) rest there)
    ∙ take-append-le n (drop from (take offset bytes)) rest room
    ∙ ap (λ (p : ℕ). take n (drop from (take p bytes))) (sym split)
    ∙ ap (take n) (drop-take from (offset - from) bytes)
    ∙ sym
    (take-append-le n (take (offset - from) (drop from bytes))
    (drop (offset - from) (drop from bytes)) less)
    ∙ ap (take n) (take-append-drop (offset - from) (drop from bytes))

-- if the bytes `new` are written at `offset` (`written_at`), and each of them is before `from`, the
-- list is not changed from `from` on. It is assumed that the write begins in the list or at its end
-- (`offset ≤ length bytes`); it may make the list longer. `bytes_stay` needs this for bytes after a
-- write
rest_after_write : (bytes new : List ℕ) (offset from : ℕ)
    → offset + length new ≤ from
    → offset ≤ length bytes
    → drop from (written_at bytes offset new) ≡ drop from bytes
rest_after_write bytes new offset from h k =
    let long : length (take offset bytes) ≡ offset = omega (arith, length-take offset bytes) in
    let far : from ≡ length (take offset bytes) + (length new + (from - (offset + length new))) =
    omega arith in
    let back : offset + length new + (from - (offset + length new)) ≡ from = omega arith in
    ap (λ (n : ℕ). drop n (written_at bytes offset new)) far
    ∙ drop-append-add (take offset bytes) (new ++ drop (offset + length new) bytes)
    (length new + (from - (offset + length new)))
    ∙ drop-append-add new (drop (offset + length new) bytes) (from - (offset + length new))
    ∙ drop-drop (from - (offset + length new)) (offset + length new) bytes
    ∙ ap (λ (n : ℕ). drop n bytes) (omega arith)

-- n bytes that lie before or after those written are unchanged
pub bytes_stay : (bytes new : List ℕ) (offset from n : ℕ)
    → offset + length new ≤ length bytes
    → (from + n ≤ offset) ⊎ (offset + length new ≤ from)
    → bytes_at (written_at bytes offset new) from n ≡ bytes_at bytes from n
bytes_stay bytes new offset from n k (inl h) =
    before bytes (new ++ drop (offset + length new) bytes) offset from n h (omega arith)
bytes_stay bytes new offset from n k (inr h) =
    ap (take n) (rest_after_write bytes new offset from h (omega arith))

-- to write `new` at offset + at and then take the `size` bytes from `offset` on gives the same as
-- to take these bytes first and then write `new` at `at`; all bytes written lie among them
pub over_within : (bytes new : List ℕ) (offset size at : ℕ)
    → offset + size ≤ length bytes
    → at + length new ≤ size
    → bytes_at (written_at bytes (offset + at) new) offset size
    ≡ written_at (bytes_at bytes offset size) at new
over_within bytes new offset size at fits room =
    let inner = bytes_at bytes offset size in
    let long : length inner ≡ size =
    omega (arith, length-take size (drop offset bytes), length-drop offset bytes) in
    let after = length-written_at bytes new (offset + at) (omega arith) in
    let count : length (written_at inner at new) ≡ size =
    length-written_at inner new at (omega arith) ∙ long in
    bytes_are (written_at bytes (offset + at) new) (written_at inner at new) offset size count
    (omega arith)
    (λ k lt. ⊎_elim
    (λ below. outside k lt long (inl (omega arith)) (inl below))
    (λ from.
    ⊎_elim (λ within. inside k lt long from within)
    (λ above. outside k lt long (inr (omega arith)) (inr above)) (cases_lt k (at + length new)))
    (cases_lt k at))
  where
    -- on both sides of the law, a byte that is not written is that of the list
    outside : (k : ℕ)
        → k < size
        → length (bytes_at bytes offset size) ≡ size
        → (offset + k < offset + at) ⊎ (offset + at + length new ≤ offset + k)
        → (k < at) ⊎ (at + length new ≤ k)
        → get_or (written_at bytes (offset + at) new) (offset + k) 0
        ≡ get_or (written_at (bytes_at bytes offset size) at new) k 0
    outside k lt long far near =
        written_out bytes new (offset + at) (offset + k) (omega arith) far
        ∙ sym
        (written_out (bytes_at bytes offset size) new at k (omega arith) near
        ∙ byte_of bytes offset size k lt)

    -- on both sides of the law, a byte that is written is the new one
    inside : (k : ℕ)
        → k < size
        → length (bytes_at bytes offset size) ≡ size
        → at ≤ k
        → k < at + length new
        → get_or (written_at bytes (offset + at) new) (offset + k) 0
        ≡ get_or (written_at (bytes_at bytes offset size) at new) k 0
    inside k lt long from within =
        let there : offset + k ≡ offset + at + (k - at) = omega arith in
        let here : k ≡ at + (k - at) = omega arith in
        ap (λ (q : ℕ). get_or (written_at bytes (offset + at) new) q 0) there
        ∙ written_in bytes new (offset + at) (k - at) (omega arith) (omega arith)
        ∙ sym
        (ap (λ (q : ℕ). get_or (written_at (bytes_at bytes offset size) at new) q 0) here
        ∙ written_in (bytes_at bytes offset size) new at (k - at) (omega arith) (omega arith))

-- if `new` is written at `at` into the `size` bytes at `start`, and these are written back at
-- `start`, then `new` is written into the list at start + at
pub over_part : (bytes new : List ℕ) (start size at : ℕ)
    → start + size ≤ length bytes
    → at + length new ≤ size
    → written_at bytes start (written_at (bytes_at bytes start size) at new)
    ≡ written_at bytes (start + at) new
over_part bytes new start size at fits room =
    let part = bytes_at bytes start size in
    let long : length part ≡ size =
    omega (arith, length-take size (drop start bytes), length-drop start bytes) in
    let inner : length (written_at part at new) ≡ size =
    length-written_at part new at (omega arith) ∙ long in
    let left : length (written_at bytes start (written_at part at new)) ≡ length bytes =
    length-written_at bytes (written_at part at new) start (omega arith) in
    let right : length (written_at bytes (start + at) new) ≡ length bytes =
    length-written_at bytes new (start + at) (omega arith) in
    ext_get_or 0 (written_at bytes start (written_at part at new))
    (written_at bytes (start + at) new) (left ∙ sym right)
    (λ q lt. ⊎_elim
    (λ below. outside q inner (inl below) (inl (omega arith)))
    (λ from.
    ⊎_elim (λ within. inside q from within long inner)
    (λ above. outside q inner (inr (omega arith)) (inr (omega arith)))
    (cases_lt q (start + size)))
    (cases_lt q start))
  where
    -- on both sides of the law, a byte outside the `size` bytes at `start` is that of the list
    outside : (q : ℕ)
        → length (written_at (bytes_at bytes start size) at new) ≡ size
        → (q < start) ⊎ (start + length (written_at (bytes_at bytes start size) at new) ≤ q)
        → (q < start + at) ⊎ (start + at + length new ≤ q)
        → get_or (written_at bytes start (written_at (bytes_at bytes start size) at new)) q 0
        ≡ get_or (written_at bytes (start + at) new) q 0
    outside q inner far near =
        written_out bytes (written_at (bytes_at bytes start size) at new) start q (omega arith) far
        ∙ sym (written_out bytes new (start + at) q (omega arith) near)

    -- after the `size` bytes are written back, a byte of the list among them is that which they had
    -- after the write of `new`
    through : (q : ℕ)
        → start ≤ q
        → q < start + size
        → length (written_at (bytes_at bytes start size) at new) ≡ size
        → get_or (written_at bytes start (written_at (bytes_at bytes start size) at new)) q 0
        ≡ get_or (written_at (bytes_at bytes start size) at new) (q - start) 0
    through q from within inner =
        let there : q ≡ start + (q - start) = omega arith in
        ap
        (λ (x : ℕ).
        get_or
        (written_at bytes start (written_at (bytes_at bytes start size) at new)) x 0) there
        ∙ written_in bytes (written_at (bytes_at bytes start size) at new) start (q - start)
        (omega arith) (omega arith)

    -- on both sides of the law, a byte among the `size` bytes that `new` does not overwrite is that
    -- of the list
    kept : (q : ℕ)
        → start ≤ q
        → q < start + size
        → length (bytes_at bytes start size) ≡ size
        → (q - start < at) ⊎ (at + length new ≤ q - start)
        → (q < start + at) ⊎ (start + at + length new ≤ q)
        → get_or (written_at (bytes_at bytes start size) at new) (q - start) 0
        ≡ get_or (written_at bytes (start + at) new) q 0
    kept q from within long far near =
        let there : start + (q - start) ≡ q = omega arith in
        written_out (bytes_at bytes start size) new at (q - start) (omega arith) far
        ∙ byte_of bytes start size (q - start) (omega arith)
        ∙ ap (λ (x : ℕ). get_or bytes x 0) there
        ∙ sym (written_out bytes new (start + at) q (omega arith) near)

    -- on both sides of the law, a byte among the `size` bytes that `new` overwrites is a byte of
    -- `new`
    fresh : (q : ℕ)
        → start ≤ q
        → at ≤ q - start
        → q - start < at + length new
        → length (bytes_at bytes start size) ≡ size
        → get_or (written_at (bytes_at bytes start size) at new) (q - start) 0
        ≡ get_or (written_at bytes (start + at) new) q 0
    fresh q from low high long =
        let here : q - start ≡ at + (q - start - at) = omega arith in
        let there : start + at + (q - start - at) ≡ q = omega arith in
        ap (λ (x : ℕ). get_or (written_at (bytes_at bytes start size) at new) x 0) here
        ∙ written_in (bytes_at bytes start size) new at (q - start - at) (omega arith)
        (omega arith)
        ∙ sym
        (ap (λ (x : ℕ). get_or (written_at bytes (start + at) new) x 0) (sym there)
        ∙ written_in bytes new (start + at) (q - start - at) (omega arith) (omega arith))

    -- a byte among the `size` bytes at `start` is the same on both sides of the law
    inside : (q : ℕ)
        → start ≤ q
        → q < start + size
        → length (bytes_at bytes start size) ≡ size
        → length (written_at (bytes_at bytes start size) at new) ≡ size
        → get_or (written_at bytes start (written_at (bytes_at bytes start size) at new)) q 0
        ≡ get_or (written_at bytes (start + at) new) q 0
    inside q from within long inner =
        through q from within inner
        ∙ ⊎_elim (λ below. kept q from within long (inl below) (inl (omega arith)))
        (λ low.
        ⊎_elim (λ high. fresh q from low high long)
        (λ above. kept q from within long (inr above) (inr (omega arith)))
        (cases_lt (q - start) (at + length new)))
        (cases_lt (q - start) at)

-- ---- the bytes of a number

-- `low_bytes n` has length n
pub length-low_bytes : (n x : ℕ) → length (low_bytes n x) ≡ n
length-low_bytes zero x = refl
length-low_bytes (suc n) x = ap suc (length-low_bytes n (x / 256))

-- the low n bytes of a number below 256 ^ n represent that number
pub number_of-low_bytes : (n x : ℕ) → x < 256 ^ n → number_of (low_bytes n x) ≡ x
number_of-low_bytes zero x h = omega arith
number_of-low_bytes (suc n) x h =
    let g = rw pow-suc at h in
    let small : x / 256 < 256 ^ n = omega arith in
    ap (λ (y : ℕ). x % 256 + 256 * y) (number_of-low_bytes n (x / 256) small) ∙ omega arith

-- n bytes, each below 256 (`small`), represent a number below 256 ^ n, little-endian (`number_of`);
-- n is the length of the list. This bounds the number of a key, and of loaded bytes
pub number_below : (bytes : List ℕ)
    → ((i : ℕ) → i < length bytes → get_or bytes i 0 < 256)
    → number_of bytes < 256 ^ length bytes
number_below [] small = omega arith
number_below (b ∷ bytes) small =
    below_more b (length bytes) (number_of bytes) (small 0 (omega arith))
    (number_below bytes (λ i below. small (suc i) (omega arith)))
  where
    -- if x is a number of n bytes, b + 256 * x is one of n + 1
    below_more : (b n x : ℕ) → b < 256 → x < 256 ^ n → b + 256 * x < 256 ^ suc n
    below_more b n x h g = omega arith

-- if each byte of a list is below 256, the low bytes (`low_bytes`) of the number that the list
-- represents (`number_of`), as many as the list has, are the list. The lowest byte is the first of
-- the list. So the number and the length determine the list: `WordIndex` of `bpf_maps` can keep a
-- key of at most eight bytes as its number, and `copy_double` of `arena` can copy eight bytes as
-- one number
pub low_bytes_of_number : (bytes : List ℕ)
    → ((i : ℕ) → i < length bytes → get_or bytes i 0 < 256)
    → low_bytes (length bytes) (number_of bytes) ≡ bytes
low_bytes_of_number [] small = refl
low_bytes_of_number (b ∷ bytes) small =
    let first : b < 256 = small 0 (omega arith) in
    let rest : low_bytes (length bytes) (number_of bytes) ≡ bytes =
    low_bytes_of_number bytes (λ i below. small (suc i) (omega arith)) in
    let low : (b + 256 * number_of bytes) % 256 ≡ b = omega arith in
    let high : (b + 256 * number_of bytes) / 256 ≡ number_of bytes = omega arith in
    ap (λ (x : ℕ). x ∷ low_bytes (length bytes) ((b + 256 * number_of bytes) / 256)) low
    ∙ ap (λ (n : ℕ). b ∷ low_bytes (length bytes) n) high
    ∙ ap (λ (xs : List ℕ). b ∷ xs) rest
