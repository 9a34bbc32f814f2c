-- `parts_are_whole`: the parts of a save, joined, are the commands that restore the state; `Saves` proves it by induction over the births.
use Rattle.saving.proofs.Saves as proof
use Rattle.saving.proofs.laws.parts_are_whole.Goals as goal

pub returns : goal.returns
returns c = proof.parts_are_whole
