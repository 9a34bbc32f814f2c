-- `steps_stay_inside`: by cases of the instruction, the ranges that its step accesses lie in the tenant's part (a lemma of `Follows`), from
-- two laws of `bpf_helpers` on loads and stores of words and bytes that represent a state.
use Rattle.flat_machine.proofs.Follows.{steps_stay_inside}
use Rattle.flat_machine.proofs.laws.steps_stay_inside.Goals as goal

pub returns : goal.returns
returns c = steps_stay_inside c.loads_give_words.ensures c.stores_keep_simulation.ensures
