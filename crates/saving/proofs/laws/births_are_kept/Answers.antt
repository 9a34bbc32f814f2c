-- `births_are_kept`: `births_after` lists the births of the state after each command, and they are few; `Births` proves it by cases of the
-- command, with `maps_are_held`.
use Rattle.saving.proofs.Births as proof
use Rattle.saving.proofs.laws.births_are_kept.Goals as goal

pub returns : goal.returns
returns c = proof.births_are_kept c.maps_are_held.ensures
