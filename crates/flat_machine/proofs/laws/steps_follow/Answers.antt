-- `steps_follow`: by cases of the instruction, which is no call, its step on words and bytes simulates the tagged machine's (a lemma of
-- `Follows`), from three laws of `bpf_helpers`: addresses of objects are bounded, loads give words, and stores keep the simulation.
use Rattle.flat_machine.proofs.Follows.{steps_follow}
use Rattle.flat_machine.proofs.laws.steps_follow.Goals as goal

pub returns : goal.returns
returns c = steps_follow c.object_addresses_are_bounded.ensures c.loads_give_words.ensures c.stores_keep_simulation.ensures
