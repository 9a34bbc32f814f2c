-- `read_program_of_an_exit`: the bytes spell the program of an exit, so by `only` of `read_program` this is returned, and it has one slot.
use Rattle.std.proofs.Common.{◌≡◌, [], ◌∷◌, ap, refl, lit≤, ◌∙◌}
use Rattle.insn_set.specs.declared.insn.Insn.TheVariants.{Exit}
use Rattle.insn_set.specs.Program.{slot_count}
use Rattle.insn_set.specs.Spelling.{spelling}
use Rattle.insn_codec.proofs.known_answers.read_program_of_an_exit.Goals as goal

pub prove-unreachable-requires : goal.prove-unreachable-requires
unfolding spelling
prove-unreachable-requires c =
    let same : c.in_ok-program.program ≡ Exit ∷ [] =
    c.in_ok-program.ensures.only (Exit ∷ []) (record { each = (tt, tt); some = lit≤ tt; room = lit≤ tt }) refl in
    c.if-prove.true (c.slots-slots.ensures.count ∙ ap slot_count same)
