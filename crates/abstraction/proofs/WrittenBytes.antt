-- The bytes of a cell after a number is written over some of them.
use Rattle.std.proofs.Common.{◌≡◌, ℕ, zero, suc, ◌+◌, ◌-◌, ◌/◌, ◌%◌, ◌<◌, ◌≤◌, ◌&&◌, ltb, leb}
use Rattle.std.proofs.Common.{bit_or, List, length, slice_get, get_or, Some, ap, ◌∙◌, ⊎_elim, arith}
use Rattle.std.proofs.lemmas.Bool.{cond_both, cond-true, and_parts, and_from, ltb-true, leb-true, lt-ltb, le-leb}
use Rattle.std.proofs.lemmas.List.{get_or-replicate}
use Rattle.std.proofs.lemmas.Option.{none-some, slice_get-get_or}
use Rattle.words.specs.Bytes.{low_bytes}
use Rattle.words.specs.ByteLaws.{length-low_bytes}
use Rattle.reg_kinds.specs.Stack.{byte_bits}
use Rattle.tagged_model.specs.Cells.{Cell, byte_at, written_over}
use Rattle.abstraction.specs.Admits.{HasBytes}
use Rattle.abstraction.proofs.CellBytes.{AreBytes}
use Rattle.abstraction.proofs.MaskBits.{only_touched, of_either}

-- ---- the bytes of a number

low_byte_small : (n x k b : ℕ) → slice_get (low_bytes n x) k ≡ Some b → b < 256
low_byte_small zero x k b e = absurd (none-some b e)
low_byte_small (suc n) x zero b e = let h : x % 256 ≡ b = cc in omega arith
low_byte_small (suc n) x (suc k) b e = low_byte_small n (x / 256) k b e

-- a byte that is present is present after a write, possibly with another value
still_there : (c : Cell) (j k b : ℕ) (bs : List ℕ)
    → byte_at c k ≡ Some b → (d : ℕ) × (byte_at (written_over c j bs) k ≡ Some d)
still_there c j k b bs e =
    cond_both (leb j k && ltb k (j + length bs)) (slice_get bs (k - j)) (byte_at c k) (λ o. (d : ℕ) × (o ≡ Some d))
    (λ t. let h = and_parts (leb j k) (ltb k (j + length bs)) t in
    let from = leb-true j k h.0 in
    let to = ltb-true k (j + length bs) h.1 in
    (get_or bs (k - j) 0, slice_get-get_or bs (k - j) 0 (omega arith)))
    (λ _. (b, e))

-- the byte at an index that was written
new_byte : (c : Cell) (j k : ℕ) (bs : List ℕ)
    → j ≤ k → k < j + length bs
    → byte_at (written_over c j bs) k ≡ Some (get_or bs (k - j) 0)
new_byte c j k bs from to =
    cond-true (leb j k && ltb k (j + length bs)) (slice_get bs (k - j)) (byte_at c k)
    (and_from (leb j k) (ltb k (j + length bs)) (le-leb j k from) (lt-ltb k (j + length bs) to))
    ∙ slice_get-get_or bs (k - j) 0 (omega arith)

-- after the bytes of a number are written over a cell of bytes, it has only bytes
pub over_small : (c : Cell) (j n x : ℕ) → AreBytes c → AreBytes (written_over c j (low_bytes n x))
over_small c j n x small i b =
    cond_both (leb j i && ltb i (j + length (low_bytes n x))) (slice_get (low_bytes n x) (i - j))
    (byte_at c i) (λ o. o ≡ Some b → b < 256)
    (λ _ e. low_byte_small n x (i - j) b e)
    (λ _ e. small i b e)

-- the bytes of an access are present after it is written
pub touched_there : (c : Cell) (p n x : ℕ) → HasBytes (byte_bits p n) (written_over c (p % 8) (low_bytes n x))
touched_there c p n x k lt e =
    let bs = low_bytes n x in
    let long = length-low_bytes n x in
    let at = only_touched p n k e in
    (get_or bs (k - p % 8) 0, new_byte c (p % 8) k bs at.0 (omega arith))

-- after a number is written over some bytes of a cell, these and the bytes that were present are present
pub both_there : (mask : ℕ) (c : Cell) (p n x : ℕ)
    → HasBytes mask c
    → HasBytes (bit_or mask (byte_bits p n)) (written_over c (p % 8) (low_bytes n x))
both_there mask c p n x has k lt e =
    ⊎_elim
    (λ old. let b = has k lt old in still_there c (p % 8) k b.0 (low_bytes n x) b.1)
    (λ new. touched_there c p n x k lt new)
    (of_either mask (byte_bits p n) k e)

-- the bytes of 0 are zeros
pub zeros : (c : Cell) (k : ℕ) → k < 8 → byte_at (written_over c 0 (low_bytes 8 0)) k ≡ Some 0
zeros c k lt =
    new_byte c 0 k (low_bytes 8 0) (omega arith) (omega arith)
    ∙ ap Some (ap (λ i. get_or (low_bytes 8 0) i 0) (omega arith) ∙ get_or-replicate 8 k 0 0 lt)
