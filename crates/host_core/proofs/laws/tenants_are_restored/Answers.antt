-- `tenants_are_restored`: by induction over the calls on a new host, commands lead a new tenant to each state and its births, so the three
-- laws of the body restore it.
use Rattle.host_core.proofs.Histories.{after_calls}
use Rattle.host_core.proofs.laws.tenants_are_restored.Goals as goal

pub returns : goal.returns
returns c = after_calls c.histories_are_restored.ensures c.frames_have_owners.ensures c.parts_are_whole.ensures
