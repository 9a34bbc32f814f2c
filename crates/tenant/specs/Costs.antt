-- What the program of a descriptor costs. This project's own.
use Rattle.std.specs.Prelude.{◌≡◌, ℕ, Option, Some, None}
use Rattle.fd_table.specs.Table.{named}
use Rattle.verifier.specs.declared.cost.Cost.{Cost}
use Rattle.verifier.specs.Cost.{IsCostOf}
use Rattle.tenant.specs.declared.object.OpenObject.{OpenObject}
use Rattle.tenant.specs.declared.object.OpenObject.TheVariants as object
use Rattle.tenant.specs.State.{TenantState}

-- `cost` is what `program_cost` returns for a descriptor, by what the descriptor names: the first
-- argument, None if it is free. For a free descriptor, and for a map, `cost` is None. For a program
-- it must not be None (so the third equation is false), and is the cost of the program's
-- instructions, `l.insns` (`IsCostOf`). A cost has two numbers: the most instructions on a path
-- from slot 0 to an exit, and the most calls of helpers on such a path, perhaps another one
abbrev pub HasCost : Option OpenObject → Option Cost → Type 0
HasCost None cost = cost ≡ None
HasCost (Some (object.Map handle)) cost = cost ≡ None
HasCost (Some (object.Program l)) None = ⊥
HasCost (Some (object.Program l)) (Some cost) = IsCostOf cost l.insns

-- `cost` is that of the program which descriptor `fd` of a tenant names: the most instructions, and
-- the most calls of helpers, on a path from slot 0 to an exit (`IsCostOf`). It is None if `fd`
-- names a map or nothing. A tenant that is not served (None) has nothing open
abbrev pub HasCostAt : Option TenantState → ℕ → Option Cost → Type 0
HasCostAt None fd cost = cost ≡ None
HasCostAt (Some s) fd cost = HasCost (named s.objects fd) cost
