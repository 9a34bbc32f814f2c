-- `tenants_are_restored` of `Host`: by the host's invariant commands lead a new tenant to each state and its births, so the three laws of
-- the body restore it.
use Rattle.std.proofs.Common.{subst}
use Rattle.host_core.specs.inside.Reached.{AreReached}
use Rattle.host_core.proofs.Histories.{tenants_are_restored}
use Rattle.host_core.proofs.host.Host.tenants_are_restored.Goals as goal

pub returns : goal.returns
returns c =
    tenants_are_restored c.histories_are_restored.ensures c.frames_have_owners.ensures
    c.parts_are_whole.ensures c.args.self.now
    (subst AreReached c.self.view_is c.self.invariant.3)
