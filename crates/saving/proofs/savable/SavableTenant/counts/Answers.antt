-- `counts` of `SavableTenant`: by the contract of `Tenant::counts`, since the state of a savable tenant is that of its `Tenant`.
use Rattle.std.proofs.Common.{ap, ◌∙◌}
use Rattle.saving.specs.Recorded.{RecordedTenant, tenant_state}
use Rattle.tenant.specs.Counts.{counts_of}
use Rattle.saving.proofs.savable.SavableTenant.counts.Goals as goal

pub returns : goal.returns
returns c = λ part. c.counts.ensures part ∙ ap (λ (t : RecordedTenant). counts_of (tenant_state part t)) c.self.view_is
