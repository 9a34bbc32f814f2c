-- `map_change_admits`: the facts still describe a state of which one map is changed: of a map they need only the shape, the count of
-- objects, which is not less than before, and bytes in range.
use Rattle.abstraction.proofs.AfterCalls.{map_change_admits}
use Rattle.abstraction.proofs.laws.map_change_admits.Goals as goal

pub returns : goal.returns
returns c = map_change_admits
