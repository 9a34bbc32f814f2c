-- `describe` of `SavableTenant`: by the contract of `Tenant::describe`, since the state of a savable tenant is that of its `Tenant`.
use Rattle.std.proofs.Common.{ap, ◌∙◌}
use Rattle.saving.specs.Recorded.{RecordedTenant, tenant_state}
use Rattle.tenant.specs.Described.{described}
use Rattle.saving.proofs.savable.SavableTenant.describe.Goals as goal

pub returns : goal.returns
returns c = λ part.
    c.describe.ensures part ∙ ap (λ (t : RecordedTenant). described (tenant_state part t) c.args.fd) c.self.view_is
