-- A write within one part changes no other part.
use Rattle.std.proofs.Common.{◌≡◌, ◌≢◌, ◌⊎◌, inl, inr, ℕ, zero, suc, ◌+◌, ◌*◌, ◌<◌, ◌≤◌, List, ◌++◌, length, take, drop, refl, sym, ap, ◌∙◌, arith}
use Rattle.std.proofs.Math.Seq.{take-append_seam}
use Rattle.words.specs.ByteLaws.{bytes_stay, bytes_written, length-written_at}
use Rattle.arena.specs.Bytes.{bytes_at, written_at}
use Rattle.arena.specs.Memory.{Memory, size_of, part_start, part_bytes, with_bytes, with_part, refilled}
use Rattle.arena.specs.Apart.{IsPart}
use Rattle.arena.specs.PartLaws.{part_within}

-- refilling all bytes gives the new bytes
pub refilled_whole : (bytes others : List ℕ) → length others ≡ length bytes → refilled bytes others ≡ others
refilled_whole bytes others e =
    ap (λ (n : ℕ). take n (others ++ drop (length others) bytes)) (sym e)
    ∙ take-append_seam others (drop (length others) bytes)

-- ---- parts are disjoint

order : (u t : ℕ) → u ≢ t → (u < t) ⊎ (t < u)
order zero zero differ = absurd (differ refl)
order zero (suc t) differ = inl (omega arith)
order (suc u) zero differ = inr (omega arith)
order (suc u) (suc t) differ =
    elim (order u t (λ e. differ (ap suc e))) [ inl h ↦ inl (omega arith) | inr h ↦ inr (omega arith) ]

below : (u t s : ℕ) → u < t → u * s + s ≤ t * s
below u zero s h = absurd (omega arith)
below zero (suc t) s h = omega (arith, next t s)
  where
    next : (t s : ℕ) → suc t * s ≡ t * s + s
    next t s = omega arith
below (suc u) (suc t) s h = omega (arith, below u t s (omega arith))

sides : (m : Memory) (t u offset n : ℕ)
    → part_start m t ≤ offset → offset + n ≤ part_start m t + m.part
    → u ≢ t
    → (part_start m u + m.part ≤ offset) ⊎ (offset + n ≤ part_start m u)
sides m t u offset n from to differ =
    elim (order u t differ) [
      | inl h ↦ inl (omega (arith, below u t m.part h))
      | inr h ↦ inr (omega (arith, below t u m.part h))
    ]

-- bytes that are written in one part do not change another part
pub stays : (m : Memory) (t u offset : ℕ) (new : List ℕ)
    → IsPart m t → part_start m t ≤ offset
    → offset + length new ≤ part_start m t + m.part
    → u ≢ t
    → part_bytes (with_bytes m offset new) u ≡ part_bytes m u
stays m t u offset new is from to differ =
    bytes_stay m.bytes new offset (part_start m u) m.part (omega (arith, part_within m t is))
    (sides m t u offset (length new) from to differ)

whole : (m : Memory) (t : ℕ) (new : List ℕ)
    → IsPart m t → length new ≡ m.part
    → refilled m.bytes (written_at m.bytes (part_start m t) new) ≡ written_at m.bytes (part_start m t) new
whole m t new is e =
    refilled_whole m.bytes (written_at m.bytes (part_start m t) new)
    (length-written_at m.bytes new (part_start m t) (omega (arith, part_within m t is)))

-- replacing all bytes of one part does not change another part
pub others_stay : (m : Memory) (t u : ℕ) (new : List ℕ)
    → IsPart m t → length new ≡ m.part
    → u ≢ t
    → part_bytes (with_part m t new) u ≡ part_bytes m u
others_stay m t u new is e differ =
    ap (λ (bytes : List ℕ). bytes_at bytes (part_start m u) m.part) (whole m t new is e)
    ∙ stays m t u (part_start m t) new is (omega arith) (omega arith) differ

-- a part whose bytes are all replaced has the new bytes
pub own_is : (m : Memory) (t : ℕ) (new : List ℕ)
    → IsPart m t → length new ≡ m.part → part_bytes (with_part m t new) t ≡ new
own_is m t new is e =
    ap (λ (bytes : List ℕ). bytes_at bytes (part_start m t) m.part) (whole m t new is e)
    ∙ ap (bytes_at (written_at m.bytes (part_start m t) new) (part_start m t)) (sym e)
    ∙ bytes_written m.bytes new (part_start m t) (omega (arith, part_within m t is))

-- replacing all bytes of a part does not change the size of the memory
pub size_stays : (m : Memory) (t : ℕ) (new : List ℕ)
    → IsPart m t → length new ≡ m.part → size_of (with_part m t new) ≡ size_of m
size_stays m t new is e =
    ap length (whole m t new is e) ∙ length-written_at m.bytes new (part_start m t) (omega (arith, part_within m t is))
