-- Bytes that are written through a borrowed part.
use Rattle.std.proofs.Common.{◌≡◌, ℕ, suc, ◌+◌, ◌-◌, ◌*◌, ◌<◌, ◌≤◌, List, ◌++◌, length, take, drop, ap, ◌∙◌, arith}
use Rattle.std.proofs.lemmas.Nat.{mul-le}
use Rattle.std.proofs.lemmas.List.{length-take, length-drop, drop-drop}
use Rattle.words.specs.Bytes.{written_at}
use Rattle.arena.specs.Memory.{Memory, size_of, part_start, part_bytes, with_bytes, with_part}
use Rattle.arena.specs.Apart.{WritesAreInParts}

part_fits : (m : Memory) (t : ℕ) → size_of m ≡ m.parts * m.part → t < m.parts → part_start m t + m.part ≤ size_of m
part_fits m t parts lt =
    let below : suc t * m.part ≤ m.parts * m.part = mul-le (suc t) m.part m.parts m.part lt (omega arith) in
    let next : suc t * m.part ≡ t * m.part + m.part = omega arith in
    omega arith

-- bytes written at an offset of a borrowed part are written at this offset of the part in the memory
pub lent_written : WritesAreInParts
    → (m : Memory) (t at n : ℕ) (part new written : List ℕ) → part ≡ part_bytes m t
    → written ≡ new → length new ≡ n
    → size_of m ≡ m.parts * m.part → t < m.parts
    → at + n ≤ m.part
    → with_part m t (take at part ++ (written ++ drop (at + n - at) (drop at part)))
    ≡ with_bytes m (part_start m t + at) new
lent_written law m t at n part new written is same count parts lt room =
    let few : at + n - at ≡ length new = omega (arith, count) in
    ap (λ (w : List ℕ). with_part m t (take at part ++ (w ++ drop (at + n - at) (drop at part)))) same
    ∙ ap (λ (k : ℕ). with_part m t (take at part ++ (new ++ drop k (drop at part)))) few
    ∙ ap (λ (x : List ℕ). with_part m t (take at part ++ (new ++ x))) (drop-drop (length new) at part)
    ∙ ap (λ (x : List ℕ). with_part m t (written_at x at new)) is
    ∙ law.memory m t at new (parts, lt) (omega (arith, count))

-- the bytes of a borrowed part are as many as each part has
pub lent_long : (m : Memory) (t : ℕ) (part : List ℕ)
    → part ≡ part_bytes m t → size_of m ≡ m.parts * m.part
    → t < m.parts
    → length part ≡ m.part
lent_long m t part is parts lt =
    let fits = part_fits m t parts lt in
    ap length is
    ∙ omega (arith, length-take m.part (drop (part_start m t) m.bytes), length-drop (part_start m t) m.bytes)
