-- `targets` of `SavableTenant`: the list is that of the tenant's state, by the contract of `Tenant::targets`.
use Rattle.std.proofs.Common.{◌≡◌, ℕ, List, IfOk, subst}
use Rattle.saving.specs.Recorded.{RecordedTenant, tenant_state}
use Rattle.tenant.specs.Machine.{targets}
use Rattle.saving.proofs.savable.SavableTenant.targets.Goals as goal

pub returns : goal.returns
returns c =
    subst (λ (t : RecordedTenant).
    IfOk c.targets.result (λ found. (part : List ℕ) → found.items ≡ targets (tenant_state part t)))
    c.self.view_is c.targets.ensures
