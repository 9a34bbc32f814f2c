-- `object_write_admits`: a write of bytes within a value is no fault and keeps its length, and as facts say nothing of these bytes,
-- they admit the state after it too (`object_over`).
use Rattle.abstraction.proofs.Objects.{object_over}
use Rattle.abstraction.proofs.laws.object_write_admits.Goals as goal

pub returns : goal.returns
returns c = λ witness f shapes s m number shape y bs proper admits maps object.
    object_over s m number shape proper object witness f shapes y bs admits maps
