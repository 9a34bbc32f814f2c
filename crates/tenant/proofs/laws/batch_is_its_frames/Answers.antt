-- `batch_is_its_frames`: the frames of a batch's packets have the batch's results and lead to its last state, by induction over frames,
-- packets and results.
use Rattle.tenant.proofs.BatchLaws.{batch_is_its_frames}
use Rattle.tenant.proofs.laws.batch_is_its_frames.Goals as goal

pub returns : goal.returns
returns c = batch_is_its_frames
