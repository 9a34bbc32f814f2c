-- `restored_is_alike`: after each creation and each close the new tenant is alike to a state with the objects that are restored so far
-- (`Restores`, by `alike_is_bisimulation` and `maps_are_held`). By `maps_are_listed` each program is accepted again (`same_verdict`), and
-- the filler is accepted with any targets (`filler_accepted`).
use Rattle.saving.proofs.Restores as proof
use Rattle.saving.proofs.Verdicts.{same_verdict, filler_program, filler_accepted}
use Rattle.saving.proofs.laws.restored_is_alike.Goals as goal

pub returns : goal.returns
returns c =
    proof.restored_is_alike c.maps_are_held.ensures c.alike_is_bisimulation.ensures
    (same_verdict c.maps_are_listed.ensures) (filler_program, filler_accepted)
