-- `store_within`: only the bytes at `at` change, to those of `value`, by the law `accesses_are_in_parts` and the contract of `store`, since
-- the address is that of the part plus `at`.
use Rattle.std.proofs.Common.{◌≡◌, ℕ, ◌+◌, ap, sym, subst, ◌∙◌, arith}
use Rattle.words.specs.Bytes.{low_bytes}
use Rattle.arena.specs.Memory.{Memory, size_of, base, offset_of, stored, part_start}
use Rattle.arena.specs.Apart.{IsWrittenAt}
use Rattle.arena.proofs.contract_clients.store_within.Goals as goal

pub returns : goal.returns
returns c =
    let m = c.args.arena.now in
    let t = c.args.tenant in
    let has = c.accesses_are_in_parts.ensures m t (c.memory_is_its_parts.ensures.parts, c.requires.tenant) in
    let value = c.address.ensures.value in
    let there : c.address.result + c.args.at ≡ base + (part_start m t + c.args.at) = omega arith in
    subst (λ (after : Memory). IsWrittenAt m t c.args.at (low_bytes 8 c.args.value) after)
    (sym (c.store.ensures.bytes ∙ ap (λ (a : ℕ). stored m 8 c.args.value (offset_of (size_of m) 8 a)) there))
    (has.store c.args.at 8 c.args.value c.requires.room)
