-- The states of all tenants. This project's own.
use Rattle.std.specs.Prelude.{ℕ, ◌+◌, List, [], ◌∷◌, map, replicate}
use Rattle.arena.specs.Memory.{Memory, part_bytes}
use Rattle.saving.specs.Recorded.{RecordedTenant, tenant_state}
use Rattle.saving.specs.declared.birth.Birth.{Birth}
use Rattle.tenant.specs.State.{TenantState, new_tenant}

-- the states of these tenants, the first of which has number t; the values of the maps of tenant t
-- lie in part t of the memory
unfoldable pub states_from : Memory → ℕ → List RecordedTenant → List TenantState
states_from m t [] = []
states_from m t (k ∷ ks) = tenant_state (part_bytes m t) k ∷ states_from m (t + 1) ks

-- the states of all tenants, by tenant number
abbrev pub states_in : Memory → List RecordedTenant → List TenantState
states_in m tenants = states_from m 0 tenants

-- what a host keeps: the state of each tenant and the births of its objects, by tenant number
pub record HostState : Type 0 where
  pub states : List TenantState
  pub births : List (List Birth)

-- the births of the objects of each tenant, by tenant number
abbrev pub births_in : List RecordedTenant → List (List Birth)
births_in tenants = map (λ t. t.births) tenants

-- the states and births of these tenants, the values of whose maps lie in this memory
abbrev pub host_state : Memory → List RecordedTenant → HostState
host_state m tenants = record { states = states_in m tenants; births = births_in tenants }

-- a host of `count` new tenants, which have no objects and no births
abbrev pub new_host : ℕ → HostState
new_host count = record { states = replicate count new_tenant; births = replicate count [] }
