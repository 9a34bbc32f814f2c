-- `accepted_runs_are_paths`: each step from an admitted state takes an edge of its instruction to an admitted state, or is an exit, by the
-- soundness of the transfer function and of joins; so by induction over the slots that are left the run is a path.
use Rattle.verifier.proofs.Paths.{runs_are_paths}
use Rattle.verifier.proofs.laws.accepted_runs_are_paths.Goals as goal

pub returns : goal.returns
returns c =
    runs_are_paths (record {
      cover = c.transfer_is_sound.ensures;
      stay = c.transfer_keeps_well_formed.ensures;
      join = c.join_admits.ensures;
    })
