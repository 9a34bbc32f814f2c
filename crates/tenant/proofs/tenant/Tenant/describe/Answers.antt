-- `describe` of `Tenant`: a map that a descriptor names is live, as `described_map` requires, and the state has it under its handle, so its
-- description is the state's.
use Rattle.std.proofs.Common.{Option, Some, sym, ap, subst, ◌∙◌}
use Rattle.std.specs.Option.{option_map_or}
use Rattle.tenant.specs.Described.{described_map, described_object, nothing_there}
use Rattle.tenant.specs.Kept.{KeptTenant, state_in}
use Rattle.tenant.specs.State.{Map}
use Rattle.tenant.specs.inside.Named.{IsMapOf}
use Rattle.tenant.proofs.LookUps.{live_named}
use Rattle.tenant.proofs.Named.{named_is_live}
use Rattle.tenant.proofs.tenant.Tenant.describe.Goals as goal

pub described_map-requires : goal.described_map-requires
described_map-requires c =
    (subst (λ (k : KeptTenant). IsMapOf k c.args.fd c.in-Some-Map.map) c.self.view_is
    (named_is_live c.self.invariant c.args.fd (sym c.in-Some-Map.ensures ∙ ap Some c.in-Some-Map.field-0-is))).live

pub returns-in-Some-Map : goal.returns-in-Some-Map
returns-in-Some-Map c = λ part.
    let k = c.args.self.now in
    let found : IsMapOf k c.args.fd c.in-Some-Map.map =
    subst (λ (x : KeptTenant). IsMapOf x c.args.fd c.in-Some-Map.map) c.self.view_is
    (named_is_live c.self.invariant c.args.fd (sym c.in-Some-Map.ensures ∙ ap Some c.in-Some-Map.field-0-is)) in
    c.described_map.ensures part
    ∙ sym (ap (described_object (state_in part k)) found.opened
    ∙ ap (λ (o : Option Map). option_map_or described_map o nothing_there) (live_named part found))
