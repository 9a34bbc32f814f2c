-- `exit_is_decoded`: the bytes are the spelling of the exit, so by `only` of `decode` the exit is the result.
use Rattle.std.proofs.Common.{◌≡◌, true, refl}
use Rattle.insn_set.specs.declared.insn.Insn.TheVariants.{Exit}
use Rattle.insn_set.specs.Spelling.{spelling}
use Rattle.insn_codec.proofs.known_answers.exit_is_decoded.Goals as goal

pub prove-unreachable-requires : goal.prove-unreachable-requires
unfolding spelling
prove-unreachable-requires c =
    let found = c.decode-found.ensures.only Exit tt refl in
    let same : c.eq-is_exit.result ≡ true = rw found at c.eq-is_exit.ensures in
    cc
