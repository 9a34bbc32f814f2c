-- What a program costs, for C. This project's own.
use Rattle.std.specs.Prelude.{◌≡◌, ℕ, Option, Some, None}
use Rattle.tenant.specs.Costs.{HasCostAt}
use Rattle.host_core.specs.State.{TenantState}
use Rattle.verifier.specs.declared.cost.Cost.{Cost}
use Rattle.bpfhost_c.specs.declared.costs.ProgramCost.{ProgramCost}

-- the cost of a program as C gets it: the most instructions, and the most calls of helpers, on a
-- path through it. Without a program (None) both numbers are 0, by which C recognizes this: the
-- cost of a program has at least one instruction
abbrev pub shown_cost : Option Cost → ProgramCost
shown_cost None = record { instructions = 0; calls = 0 }
shown_cost (Some cost) = record { instructions = cost.instructions; calls = cost.calls }

-- `shown` is the cost of the program that descriptor fd of a tenant names, as C has it; both
-- numbers are 0 if fd names no program, or the tenant is not served (None)
abbrev pub ShowsCost : Option TenantState → ℕ → ProgramCost → Type 0
ShowsCost s fd shown = (cost : Option Cost) × HasCostAt s fd cost × (shown ≡ shown_cost cost)
