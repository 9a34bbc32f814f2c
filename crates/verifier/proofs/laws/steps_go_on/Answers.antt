-- `steps_go_on`: the facts on the edge that a step takes admit the next state, by the laws of the transfer function, and so do the facts
-- before the slot to which it leads, into which they are joined, by the law `join_admits`.
use Rattle.verifier.proofs.Steps.{each_step}
use Rattle.verifier.proofs.laws.steps_go_on.Goals as goal

pub returns : goal.returns
returns c =
    each_step (record {
      cover = c.transfer_is_sound.ensures;
      stay = c.transfer_keeps_well_formed.ensures;
      join = c.join_admits.ensures;
    })
