-- What a bound on executed instructions allows of a batch.
use Rattle.std.proofs.Common.{◌≡◌, ℕ, Option, Some, None, refl}
use Rattle.tenant.specs.State.{TenantState}
use Rattle.host_core.specs.Batch.{IsAllowedFor}

-- bound 0 allows all packets
pub no_bound_allows_all : (t : Option TenantState) (fd bound packets : ℕ) → bound ≡ 0
    → IsAllowedFor t fd bound packets packets
no_bound_allows_all None fd bound packets zero = refl
no_bound_allows_all (Some s) fd bound packets zero = (λ _. refl, λ other. absurd (other zero))
