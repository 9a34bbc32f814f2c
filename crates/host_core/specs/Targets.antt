-- The open descriptors with which a program of a tenant is verified. This project's own.
use Rattle.std.specs.Prelude.{List, [], Option, Some, None}
use Rattle.tagged_model.specs.declared.shape.Named.{Named}
use Rattle.tenant.specs.Machine.{targets}
use Rattle.tenant.specs.State.{TenantState}

-- the open descriptors of a tenant in state s, each with the object that it names, as the verifier
-- gets them for a load; a tenant that is not served, which has no state (None), has none
abbrev pub targets_if_served : Option TenantState → List Named
targets_if_served (Some s) = targets s
targets_if_served None = []
