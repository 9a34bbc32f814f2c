-- `counts` of `Host`: if `kept` finds a stored tenant, that represents the tenant's state, and has its counts; if not, there is no state.
use Rattle.std.proofs.Common.{◌∙◌}
use Rattle.tenant.specs.Counts.{counts_if_served}
use Rattle.host_core.proofs.Tenants.{of_kept, of_none}
use Rattle.host_core.proofs.host.Host.counts.Goals as goal

pub returns-in-Some : goal.returns-in-Some
returns-in-Some c =
    c.counts.ensures c.kept.ensures.0 ∙ of_kept counts_if_served c.kept.ensures.0 c.kept.ensures.1 c.in-Some.is

pub returns-in-None : goal.returns-in-None
returns-in-None c = c.none.ensures ∙ of_none counts_if_served c.kept.ensures.0 c.kept.ensures.1 c.in-None.is
