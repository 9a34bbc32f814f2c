-- The accesses of a run at the addresses of a part are loads and stores of the bytes of the part.
use Rattle.std.proofs.Common.{◌≡◌, ℕ, ◌+◌, ◌≤◌, List, length, Option, Some, refl, sym, ap, ◌∙◌, arith}
use Rattle.words.specs.Bytes.{number_of, low_bytes}
use Rattle.words.specs.ByteLaws.{bytes_within, length-bytes_at, length-low_bytes}
use Rattle.arena.specs.Bytes.{bytes_at}
use Rattle.arena.specs.Memory.{Memory, size_of, base, loaded, stored, copied, part_start, part_bytes, with_bytes}
use Rattle.arena.specs.Apart.{IsPart, IsWrittenAt, asked_in, HasAccesses, AccessesAreInParts}
use Rattle.arena.specs.PartLaws.{part_within, offset_is}
use Rattle.arena.proofs.Apart.{stays}
use Rattle.arena.proofs.Within.{part_over}

module _ (m : Memory) (t : ℕ) (is : IsPart m t) where
  found : (at n : ℕ) → at + n ≤ m.part → asked_in m t n at ≡ Some (part_start m t + at)
  found at n room =
      offset_is (size_of m) n (part_start m t + at) (base + (part_start m t + at)) refl
      (let fits = part_within m t is in omega arith)

  in_part : (at n : ℕ) → at + n ≤ m.part → bytes_at m.bytes (part_start m t + at) n ≡ bytes_at (part_bytes m t) at n
  in_part at n room = sym (bytes_within m.bytes (part_start m t) m.part at n room)

  long : (at n : ℕ) → at + n ≤ m.part → length (bytes_at (part_bytes m t) at n) ≡ n
  long at n room =
      let fits = part_within m t is in
      ap length (sym (in_part at n room)) ∙ length-bytes_at m.bytes (part_start m t + at) n (omega arith)

  written : (at n : ℕ) (new : List ℕ) (after : Memory)
      → length new ≡ n → at + n ≤ m.part
      → after ≡ with_bytes m (part_start m t + at) new
      → IsWrittenAt m t at new after
  written at n new after count room e = record {
    own = ap (λ (k : Memory). part_bytes k t) e ∙ part_over m t at new is (omega arith);
    others = λ u differ.
        ap (λ (k : Memory). part_bytes k u) e
        ∙ stays m t u (part_start m t + at) new is (omega arith) (omega arith) differ;
  }

  stored_is : (at n value : ℕ)
      → at + n ≤ m.part
      → stored m n value (asked_in m t n at) ≡ with_bytes m (part_start m t + at) (low_bytes n value)
  stored_is at n value room = ap (stored m n value) (found at n room)

  copied_is : (to from n : ℕ)
      → to + n ≤ m.part → from + n ≤ m.part
      → copied m n (asked_in m t n from) (asked_in m t n to)
      ≡ with_bytes m (part_start m t + to) (bytes_at (part_bytes m t) from n)
  copied_is to from n fits room =
      ap (λ (o : Option ℕ). copied m n o (asked_in m t n to)) (found from n room)
      ∙ ap (copied m n (Some (part_start m t + from))) (found to n fits)
      ∙ ap (with_bytes m (part_start m t + to)) (in_part from n room)

  has : HasAccesses m t
  has = record {
    found = found;
    bytes = in_part;
    load = λ at n room.
        ap (loaded m n) (found at n room) ∙ ap (λ (bs : List ℕ). Some (number_of bs)) (in_part at n room);
    store = λ at n value room.
        written at n (low_bytes n value) _ (length-low_bytes n value) room (stored_is at n value room);
    copy = λ to from n fits room.
        written to n (bytes_at (part_bytes m t) from n) _ (long from n room) fits (copied_is to from n fits room);
  }

-- loads, stores and copies within a part are those of the bytes of the part
pub has_accesses : AccessesAreInParts
has_accesses m t is = has m t is
