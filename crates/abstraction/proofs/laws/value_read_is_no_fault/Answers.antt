-- `value_read_is_no_fault`: a read within a value gives all its bytes, each in range, since a value of the map has as many bytes as the
-- shape says (`object_read`).
use Rattle.abstraction.proofs.Objects.{object_read}
use Rattle.abstraction.proofs.laws.value_read_is_no_fault.Goals as goal

pub returns : goal.returns
returns c = λ s m number shape y n proper object. object_read s m number shape proper object y n
