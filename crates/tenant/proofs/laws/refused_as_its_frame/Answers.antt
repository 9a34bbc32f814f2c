-- `refused_as_its_frame`: the error of a run in a batch is that of its test-run command, by cases of the object that the descriptor names,
-- and of the packet's length.
use Rattle.tenant.proofs.BatchLaws.{refused_as_its_frame}
use Rattle.tenant.proofs.laws.refused_as_its_frame.Goals as goal

pub returns : goal.returns
returns c = refused_as_its_frame
