-- `memory_was_refused` of `SavableTenant`: the result is the flag of the tenant's state, by the contract of `Tenant::memory_was_refused`.
use Rattle.std.proofs.Common.{ap, ◌∙◌}
use Rattle.saving.specs.Recorded.{RecordedTenant, tenant_state}
use Rattle.saving.proofs.savable.SavableTenant.memory_was_refused.Goals as goal

pub returns : goal.returns
returns c = λ part.
    c.memory_was_refused.ensures part ∙ ap (λ (t : RecordedTenant). (tenant_state part t).refused) c.self.view_is
