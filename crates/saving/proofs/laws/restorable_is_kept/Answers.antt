-- `restorable_is_kept`: a new tenant, and the state after each command, can be restored; `KeptCommands` proves it by cases of the command,
-- from `maps_are_held` and, for a load, `loaded_maps_have_shapes`.
use Rattle.saving.proofs.KeptCommands as proof
use Rattle.saving.proofs.laws.restorable_is_kept.Goals as goal

pub returns : goal.returns
returns c = proof.restorable_is_kept c.maps_are_held.ensures c.loaded_maps_have_shapes.ensures
