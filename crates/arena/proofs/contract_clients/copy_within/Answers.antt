-- `copy_within`: only the bytes at `to` change, to those at `from`, by the law `accesses_are_in_parts` and the contract of `copy`, since
-- both addresses are that of the part plus an offset.
use Rattle.std.proofs.Common.{◌≡◌, ℕ, ◌+◌, ap, sym, subst, ◌∙◌, arith}
use Rattle.arena.specs.Bytes.{bytes_at}
use Rattle.arena.specs.Memory.{Memory, size_of, base, offset_of, copied, part_start, part_bytes}
use Rattle.arena.specs.Apart.{IsWrittenAt, asked_in}
use Rattle.arena.proofs.contract_clients.copy_within.Goals as goal

pub returns : goal.returns
returns c =
    let m = c.args.arena.now in
    let t = c.args.tenant in
    let has = c.accesses_are_in_parts.ensures m t (c.memory_is_its_parts.ensures.parts, c.requires.tenant) in
    let value = c.address-start.ensures.value in
    let from : c.address-start.result + c.args.from ≡ base + (part_start m t + c.args.from) = omega arith in
    let to : c.address-start.result + c.args.to ≡ base + (part_start m t + c.args.to) = omega arith in
    subst (λ (after : Memory). IsWrittenAt m t c.args.to (bytes_at (part_bytes m t) c.args.from 8) after)
    (sym (c.copy.ensures.bytes
    ∙ ap (λ (a : ℕ).
    copied m 8 (offset_of (size_of m) 8 a) (offset_of (size_of m) 8 (c.address-start.result + c.args.to)))
    from
    ∙ ap (λ (a : ℕ). copied m 8 (asked_in m t 8 c.args.from) (offset_of (size_of m) 8 a)) to))
    (has.copy c.args.to c.args.from 8 c.requires.to c.requires.from)
