-- `batch_is_its_calls`, by induction over the packets: each run is a call of `handle` on its frame, with the run's result as the reply.
use Rattle.host_core.proofs.BatchCalls.{batch_is_its_calls}
use Rattle.host_core.proofs.laws.batch_is_its_calls.Goals as goal

pub returns : goal.returns
returns c = batch_is_its_calls
