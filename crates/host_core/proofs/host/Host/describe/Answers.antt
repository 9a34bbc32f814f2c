-- `describe` of `Host`: if `kept` finds a stored tenant, that represents the tenant's state, and its descriptor names what it names in this
-- state; if not, there is no state.
use Rattle.std.proofs.Common.{◌∙◌}
use Rattle.tenant.specs.Described.{described_if_served}
use Rattle.host_core.proofs.Tenants.{of_kept, of_none}
use Rattle.host_core.proofs.host.Host.describe.Goals as goal

pub returns-in-Some : goal.returns-in-Some
returns-in-Some c =
    c.describe.ensures c.kept.ensures.0
    ∙ of_kept (λ o. described_if_served o c.args.fd) c.kept.ensures.0 c.kept.ensures.1 c.in-Some.is

pub returns-in-None : goal.returns-in-None
returns-in-None c =
    c.nothing.ensures ∙ of_none (λ o. described_if_served o c.args.fd) c.kept.ensures.0 c.kept.ensures.1 c.in-None.is
