-- A write within a part is a write to the bytes of the part.
use Rattle.std.proofs.Common.{◌≡◌, ℕ, ◌+◌, ◌≤◌, List, length, ap, ◌∙◌, arith}
use Rattle.words.specs.ByteLaws.{length-written_at, over_within, over_part}
use Rattle.arena.specs.Bytes.{written_at}
use Rattle.arena.specs.Memory.{Memory, size_of, part_start, part_bytes, with_bytes, with_part}
use Rattle.arena.specs.Apart.{IsPart}
use Rattle.arena.specs.PartLaws.{part_within}
use Rattle.arena.proofs.Apart.{refilled_whole}

-- bytes that are written in a part of the memory are written at this offset in the bytes of the part
pub part_over : (m : Memory) (t at : ℕ) (new : List ℕ)
    → IsPart m t → at + length new ≤ m.part
    → part_bytes (with_bytes m (part_start m t + at) new) t ≡ written_at (part_bytes m t) at new
part_over m t at new is room = over_within m.bytes new (part_start m t) m.part at (part_within m t is) room

-- bytes that are written in a part do not change the size of the memory
pub part_size : (m : Memory) (t at : ℕ) (new : List ℕ)
    → IsPart m t → at + length new ≤ m.part
    → size_of (with_bytes m (part_start m t + at) new) ≡ size_of m
part_size m t at new is room =
    let fits = part_within m t is in length-written_at m.bytes new (part_start m t + at) (omega arith)

-- putting back a part with bytes written at an offset is writing these bytes there in the memory
pub part_written : (m : Memory) (t at : ℕ) (new : List ℕ)
    → IsPart m t → at + length new ≤ m.part
    → with_part m t (written_at (part_bytes m t) at new) ≡ with_bytes m (part_start m t + at) new
part_written m t at new is room =
    let same = over_part m.bytes new (part_start m t) m.part at (part_within m t is) room in
    let long : length (written_at m.bytes (part_start m t) (written_at (part_bytes m t) at new)) ≡ length m.bytes =
    ap length same ∙ part_size m t at new is room in
    ap (λ (x : List ℕ). let r : Memory = record { bytes = x; parts = m.parts; part = m.part } in r)
    (refilled_whole m.bytes (written_at m.bytes (part_start m t) (written_at (part_bytes m t) at new)) long ∙ same)
