-- `site_admits`: the facts describe the state by a witness with one more look-up, since no kind in them has its site, and the objects
-- that the witness now counts are those that the state's maps have had.
use Rattle.abstraction.proofs.AfterCalls.{site_admits}
use Rattle.abstraction.proofs.laws.site_admits.Goals as goal

pub returns : goal.returns
returns c = site_admits
