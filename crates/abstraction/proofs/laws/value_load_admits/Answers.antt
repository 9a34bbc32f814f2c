-- `value_load_admits`: the bytes of the load are present and in range (`object_read`), so they make a number of as many bits as they
-- have; widened, it is of the kind that facts predict.
use Rattle.abstraction.proofs.ValueAccess.{value_loaded}
use Rattle.abstraction.proofs.laws.value_load_admits.Goals as goal

pub returns : goal.returns
returns c = value_loaded
