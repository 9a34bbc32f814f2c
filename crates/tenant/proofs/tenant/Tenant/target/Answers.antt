-- `target` of `Tenant`: a map that a descriptor names is live, as `shape` requires, and the state's map of this handle has its shape.
use Rattle.std.proofs.Common.{◌≡◌, Option, Some, sym, ap, subst, ◌∙◌}
use Rattle.std.specs.Prelude.{option_map}
use Rattle.bpf_maps.specs.Live.{shape_at}
use Rattle.tagged_model.specs.Cells.{and_then}
use Rattle.tagged_model.specs.declared.shape.MapShape.{MapShape}
use Rattle.tagged_model.specs.declared.shape.Target.TheVariants as target
use Rattle.tenant.specs.declared.object.OpenObject.{OpenObject}
use Rattle.tenant.specs.State.{Map}
use Rattle.tenant.specs.Kept.{KeptTenant, state_in}
use Rattle.tenant.specs.Machine.{object_target}
use Rattle.tenant.specs.inside.Named.{IsMapOf}
use Rattle.tenant.proofs.LookUps.{live_named}
use Rattle.tenant.proofs.Named.{named_is_live}
use Rattle.tenant.proofs.tenant.Tenant.target.Goals as goal

pub shape-requires : goal.shape-requires
shape-requires c = (named_is_live c.self.invariant c.args.fd (sym c.in_ok-map.ensures ∙ ap Some c.in-Map.is)).live

pub returns-in-Map : goal.returns-in-Map
returns-in-Map c = λ part.
    let k = c.args.self.now in
    let m = c.in-Map.map in
    let found : IsMapOf k c.args.fd m =
    subst (λ (x : KeptTenant). IsMapOf x c.args.fd m) c.self.view_is
    (named_is_live c.self.invariant c.args.fd (sym c.in_ok-map.ensures ∙ ap Some c.in-Map.is)) in
    let shape : c.shape.result ≡ shape_at k.live m =
    c.shape.ensures ∙ ap (λ (x : KeptTenant). shape_at x.live m) c.self.view_is in
    ap (λ (s : MapShape). Some (target.Map s)) shape
    ∙ sym (ap (λ (o : Option OpenObject). and_then o (object_target (state_in part k))) found.opened
    ∙ ap (option_map (λ (t : Map). target.Map t.shape)) (live_named part found))
