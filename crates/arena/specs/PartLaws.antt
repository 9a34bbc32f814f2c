-- Laws of parts of the memory and of addresses in it, of the definitions of `Memory` and `Apart`,
-- proved here for the proofs of the crates above. This project's own. No contract cites them, so
-- they are not part of what has to be trusted.
use Rattle.std.proofs.Common.{◌≡◌, ℕ, suc, ◌+◌, ◌-◌, ◌*◌, ◌≤◌, ◌&&◌, leb, Some, None, ap, ◌∙◌, arith}
use Rattle.std.proofs.lemmas.Bool.{cond-true, and_from, le-leb}
use Rattle.std.proofs.lemmas.Nat.{mul-le}
use Rattle.arena.specs.Memory.{Memory, base, size_of, offset_of, part_start}
use Rattle.arena.specs.Apart.{IsPart}

-- a part lies in the memory
pub part_within : (m : Memory) (t : ℕ) → IsPart m t → part_start m t + m.part ≤ size_of m
part_within m t is =
    let below : suc t * m.part ≤ m.parts * m.part =
    mul-le (suc t) m.part m.parts m.part is.1 (omega arith) in
    let next : suc t * m.part ≡ t * m.part + m.part = omega arith in
    let size = is.0 in
    omega arith

-- if n bytes at an offset are in the memory, `offset_of` returns it for the address base + offset
pub offset_is : (size n offset address : ℕ)
    → address ≡ base + offset
    → offset + n ≤ size
    → offset_of size n address ≡ Some offset
offset_is size n offset address e h =
    let from : base ≤ address = omega arith in
    let to : address + n ≤ base + size = omega arith in
    let t =
    and_from (leb base address) (leb (address + n) (base + size)) (le-leb base address from)
    (le-leb (address + n) (base + size) to) in
    let at : address - base ≡ offset = omega arith in
    cond-true (leb base address && leb (address + n) (base + size)) (Some (address - base)) None t
    ∙ ap (λ (q : ℕ). Some q) at
