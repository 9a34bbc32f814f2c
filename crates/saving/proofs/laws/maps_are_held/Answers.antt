-- `maps_are_held`: exactly the maps of open objects are live, in a new tenant and after each command; `Held` proves it by cases of the
-- command.
use Rattle.saving.proofs.Held as proof
use Rattle.saving.proofs.laws.maps_are_held.Goals as goal

pub returns : goal.returns
returns c = proof.maps_are_held
