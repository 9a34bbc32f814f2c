-- `map_named` of `Tenant`: a map that a descriptor names is live, since by the invariant it has a reference for that descriptor.
use Rattle.std.proofs.Common.{Some, sym, ap, subst, ◌∙◌}
use Rattle.tenant.specs.Kept.{KeptTenant}
use Rattle.tenant.specs.inside.Named.{IsMapOf}
use Rattle.tenant.proofs.Named.{named_is_live}
use Rattle.tenant.proofs.tenant.Tenant.map_named.Goals as goal

pub returns-in-Some-Map-clause-found : goal.returns-in-Some-Map-clause-found
returns-in-Some-Map-clause-found c =
    subst (λ (k : KeptTenant). IsMapOf k c.args.fd c.in-Some-Map.map) c.self.view_is
    (named_is_live c.self.invariant c.args.fd (sym c.in-Some-Map.ensures ∙ ap Some c.in-Some-Map.field-0-is))

pub returns-in-Some-Map-clause-live : goal.returns-in-Some-Map-clause-live
returns-in-Some-Map-clause-live c = (returns-in-Some-Map-clause-found c).live
