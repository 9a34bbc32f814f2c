-- `write_zeros`: a fill of `count` bytes of the lent part is a write of as many zeros into the memory, by the contract of `part_mut` and
-- the law `writes_are_in_parts` (`lent_written`).
use Rattle.std.proofs.Common.{◌≡◌, ℕ, ◌+◌, ◌-◌, take, drop, length, replicate, ap, ◌∙◌, arith}
use Rattle.std.proofs.lemmas.List.{length-replicate, length-take, length-drop}
use Rattle.bpf_helpers.proofs.Parts.{lent_written, lent_long}
use Rattle.bpf_helpers.proofs.output.write_zeros.Goals as goal

pub returns : goal.returns
returns c =
    let part = c.part_mut-part.result.now in
    let all : length part ≡ c.args.arena.now.part =
    lent_long c.args.arena.now c.args.tenant part c.part_mut-part.ensures.bytes
    c.memory_is_its_parts.ensures.parts c.requires.tenant in
    let count : length (take (c.args.at + c.args.count - c.args.at) (drop c.args.at part)) ≡ c.args.count =
    omega (
      arith,
      length-take (c.args.at + c.args.count - c.args.at) (drop c.args.at part),
      length-drop c.args.at part,
      c.requires.room,
      all,
    ) in
    lent_written c.writes_are_in_parts.ensures c.args.arena.now c.args.tenant c.args.at c.args.count
    part (replicate c.args.count 0) c.fill.new.self c.part_mut-part.ensures.bytes
    (c.fill.ensures.after (λ y e. e) ∙ ap (λ (n : ℕ). replicate n 0) count)
    (length-replicate c.args.count 0) c.memory_is_its_parts.ensures.parts
    c.requires.tenant c.requires.room
