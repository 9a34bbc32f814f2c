-- `map_shape` of `Tenant`: by cases of the contract of `is_live`, the shape is that of a live map, which the tenant's state has too, or the
-- state has no map of this handle.
use Rattle.std.proofs.Common.{◌≡◌, Some, None, IsSome, sym, subst, ◌∙◌}
use Rattle.bpf_maps.specs.Live.{live_at, shape_at, map_in}
use Rattle.tenant.specs.Kept.{KeptTenant, state_in}
use Rattle.tenant.specs.State.{live}
use Rattle.tenant.proofs.MapEntries.{live_in_state, gone_in_state}
use Rattle.tenant.proofs.StillKept.{kept_in}
use Rattle.tenant.proofs.tenant.Tenant.map_shape.Goals as goal

pub returns-then-is_live : goal.returns-then-is_live
returns-then-is_live c =
    let k = kept_in c.self.inside in
    let map = c.args.map in
    let some : IsSome (live_at k.live map) = sym c.is_live.ensures ∙ c.if-is_live.true in
    record {
      shape =
          subst (λ (k : KeptTenant). IsSome (live_at k.live map) × (c.shape.result ≡ shape_at k.live map))
          c.self.view_is (some, c.shape.ensures);
      state = λ part.
          subst (λ (k : KeptTenant). live (state_in part k) map ≡ Some (map_in part k.live map))
          c.self.view_is
          (live_in_state part k c.self.invariant.maps map some);
    }

pub returns-else-is_live : goal.returns-else-is_live
returns-else-is_live c =
    let k = kept_in c.self.inside in
    record {
      shape = tt;
      state = λ part. subst (λ (k : KeptTenant). live (state_in part k) c.args.map ≡ None) c.self.view_is
          (gone_in_state part k c.maps_are_laid.ensures.maps c.args.map (sym c.is_live.ensures ∙ c.if-is_live.false));
    }
