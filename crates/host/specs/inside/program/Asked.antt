-- The task that the arguments name. This project's own.
use Rattle.std.specs.Prelude.{◌≤◌, List, [], Option, Some, None}
use Rattle.std.specs.Borrow.{Bor}
use Rattle.clap.specs.Words.{Text}
use Rattle.clap.specs.Walk.{texts}
use Rattle.host_core.specs.Limits.{most_tenants}
use Rattle.host.specs.declared.program.arguments.Task.{Task}
use Rattle.host.specs.declared.program.arguments.Task.TheVariants as task
use Rattle.host.specs.program.Arguments.{Asked, Serves, Rewrites, Verifies}

-- the texts of the map arguments of `verify`, which the code has as a borrowed list of borrowed
-- texts; an empty list if the code has None, since no map argument is given
abbrev pub texts_given : Option (Bor (List (Bor Text))) → List Text
texts_given None = []
texts_given (Some arguments) = texts arguments.now

-- the task of the code (`Task`) as a task of the definitions (`Asked`), so that a contract can
-- compare the task that the code returns with the one that the arguments name: to serve this number
-- of tenants (`tenants`); to assemble or to disassemble (`made`, a `TextTask`, says which); or to
-- verify a program, with the texts of the arguments for its maps (`maps`), an empty list if `maps`
-- is None
abbrev pub asked_by : Task → Asked
asked_by (task.Serve tenants) = Serves tenants
asked_by (task.Rewrite made) = Rewrites made
asked_by (task.Verify maps) = Verifies (texts_given maps)

-- if the task is to serve, its number of tenants is at least 1 and at most `most_tenants`, which
-- `Host::new` requires. A task to assemble or disassemble a text (`Rewrite`) or to verify a program
-- has no number of tenants, so every such task is allowed. The parser of the arguments returns only
-- tasks of which this is true
abbrev pub HasTenants : Task → Type 0
HasTenants (task.Serve tenants) = (1 ≤ tenants) × (tenants ≤ most_tenants)
HasTenants (task.Rewrite made) = Unit {0}
HasTenants (task.Verify maps) = Unit {0}
