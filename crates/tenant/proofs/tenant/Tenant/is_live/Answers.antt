-- `is_live` of `Tenant`: the map is live exactly if the tenant's state has it, by the contract of `Maps::is_live` and the number of handles
-- (`maps_are_laid`).
use Rattle.std.proofs.Common.{is_some, sym, ap, ◌∙◌}
use Rattle.tenant.specs.Kept.{KeptTenant, state_in}
use Rattle.tenant.specs.State.{live}
use Rattle.tenant.proofs.AtHandles.{live_is}
use Rattle.tenant.proofs.tenant.Tenant.is_live.Goals as goal

pub returns : goal.returns
returns c = λ part.
    c.is_live.ensures ∙ sym (live_is part c.self.inside.maps c.maps_are_laid.ensures.maps c.args.map)
    ∙ ap (λ (k : KeptTenant). is_some (live (state_in part k) c.args.map)) c.self.view_is
