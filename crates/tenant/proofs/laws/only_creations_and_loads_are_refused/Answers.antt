-- `only_creations_and_loads_are_refused`: a reply with the status `NoMemory` is to a creation or a load, by cases: the result of each other
-- command, and each error of a frame without a command or without a served tenant, has another status.
use Rattle.tenant.proofs.Flag.{only_creations_and_loads_are_refused}
use Rattle.tenant.proofs.laws.only_creations_and_loads_are_refused.Goals as goal

pub returns : goal.returns
returns c = only_creations_and_loads_are_refused
