-- A write within one part leaves the other parts unchanged. Parts are this project's own.
use Rattle.std.specs.Prelude.{◌≡◌, ◌≢◌, ℕ, ◌+◌, ◌*◌, ◌<◌, ◌≤◌, List, length, Option, Some}
use Rattle.words.specs.Bytes.{number_of, low_bytes}
use Rattle.arena.specs.Bytes.{bytes_at, written_at}
use Rattle.arena.specs.Memory.{Memory, size_of, base, offset_of, loaded, stored, copied, part_start, part_bytes, with_bytes, with_part}

-- the memory consists of its parts, and t is one of them
abbrev pub IsPart : Memory → ℕ → Type 0
IsPart m t = (size_of m ≡ m.parts * m.part) × (t < m.parts)

-- bytes written within part t leave every other part u unchanged
abbrev pub WritesStayInside : Type 0
WritesStayInside =
    (m : Memory) (t u offset : ℕ) (new : List ℕ)
    → IsPart m t
    → part_start m t ≤ offset
    → offset + length new ≤ part_start m t + m.part
    → u ≢ t
    → part_bytes (with_bytes m offset new) u ≡ part_bytes m u

-- if all bytes of part t are replaced by `new`, the part has these, every other part is unchanged,
-- and so is the size of the memory
pub record PartsAreApart : Type 0 where
  pub others : (m : Memory) (t u : ℕ) (new : List ℕ)
      → IsPart m t
      → length new ≡ m.part
      → u ≢ t
      → part_bytes (with_part m t new) u ≡ part_bytes m u
  pub own : (m : Memory) (t : ℕ) (new : List ℕ)
      → IsPart m t
      → length new ≡ m.part
      → part_bytes (with_part m t new) t ≡ new
  pub size : (m : Memory) (t : ℕ) (new : List ℕ)
      → IsPart m t
      → length new ≡ m.part
      → size_of (with_part m t new) ≡ size_of m

-- Bytes are written at offset `at` of part t, all of them in the part. A write of them into the
-- memory (`with_bytes`) writes them at `at` in the part's bytes, and keeps the size of the memory.
-- To write the part's bytes, so changed, over the part (`with_part`) gives the same memory.
pub record WritesAreInParts : Type 0 where
  pub bytes : (m : Memory) (t at : ℕ) (new : List ℕ)
      → IsPart m t
      → at + length new ≤ m.part
      → part_bytes (with_bytes m (part_start m t + at) new) t ≡ written_at (part_bytes m t) at new
  pub memory : (m : Memory) (t at : ℕ) (new : List ℕ)
      → IsPart m t
      → at + length new ≤ m.part
      → with_part m t (written_at (part_bytes m t) at new) ≡ with_bytes m (part_start m t + at) new
  pub size : (m : Memory) (t at : ℕ) (new : List ℕ)
      → IsPart m t
      → at + length new ≤ m.part
      → size_of (with_bytes m (part_start m t + at) new) ≡ size_of m

-- ---- by address

-- in the memory after, new is written at offset `at` of part t, and every other part is unchanged
pub record IsWrittenAt (old : Memory) (t at : ℕ) (new : List ℕ) (after : Memory) : Type 0 where
  pub own : part_bytes after t ≡ written_at (part_bytes old t) at new
  pub others : (u : ℕ) → u ≢ t → part_bytes after u ≡ part_bytes old u

-- the offset in the memory of n bytes at offset `at` of part t; None if they do not lie in the
-- memory
abbrev pub asked_in : Memory → ℕ → ℕ → ℕ → Option ℕ
asked_in m t n at = offset_of (size_of m) n (base + (part_start m t + at))

-- a range within part t is found, and its bytes are those of the part; a load there returns their
-- number, and a store or a copy there writes only in the part's bytes
pub record HasAccesses (m : Memory) (t : ℕ) : Type 0 where
  pub found : (at n : ℕ) → at + n ≤ m.part → asked_in m t n at ≡ Some (part_start m t + at)
  pub bytes : (at n : ℕ)
      → at + n ≤ m.part
      → bytes_at m.bytes (part_start m t + at) n ≡ bytes_at (part_bytes m t) at n
  pub load : (at n : ℕ)
      → at + n ≤ m.part
      → loaded m n (asked_in m t n at) ≡ Some (number_of (bytes_at (part_bytes m t) at n))
  pub store : (at n value : ℕ)
      → at + n ≤ m.part
      → IsWrittenAt m t at (low_bytes n value) (stored m n value (asked_in m t n at))
  pub copy : (to from n : ℕ) → to + n ≤ m.part → from + n ≤ m.part
      → IsWrittenAt m t to (bytes_at (part_bytes m t) from n)
      (copied m n (asked_in m t n from) (asked_in m t n to))

-- in each part of a memory, a range is found, a load returns the part's bytes as a number, and a
-- store or a copy writes only in the part's bytes (`HasAccesses`)
abbrev pub AccessesAreInParts : Type 0
AccessesAreInParts = (m : Memory) (t : ℕ) → IsPart m t → HasAccesses m t
