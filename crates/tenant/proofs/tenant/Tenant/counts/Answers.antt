-- `counts` of `Tenant`: each count is that of the tenant's state. Those of maps, keys and bytes are sums over the live maps, which equal
-- the sums over the state's maps; the contracts of `program_count`, `open_count` and `memory_was_refused` give the others.
use Rattle.std.proofs.Common.{length, sym, ap, ◌∙◌}
use Rattle.bpf_maps.specs.Sum.{total}
use Rattle.tenant.specs.Counts.{counts_of}
use Rattle.tenant.specs.Kept.{KeptTenant, AreHeld, state_in}
use Rattle.tenant.proofs.Counted.{same_counts}
use Rattle.tenant.proofs.LiveSums.{areas_are, maps_are, keys_are}
use Rattle.tenant.proofs.StillKept.{kept_in}
use Rattle.tenant.proofs.tenant.Tenant.counts.Goals as goal

pub returns : goal.returns
returns c = λ part.
    let k = kept_in c.self.inside in
    let held : AreHeld k.live = c.self.invariant.maps in
    same_counts
    (c.live_count.ensures.count
    ∙ sym (maps_are part k held)
    ∙ ap (λ (t : KeptTenant). total (λ m. 1) (state_in part t).maps) c.self.view_is)
    (c.key_sum.ensures.sum
    ∙ sym (keys_are part k held)
    ∙ ap (λ (t : KeptTenant). total (λ m. length m.entries) (state_in part t).maps) c.self.view_is)
    (c.value_bytes.ensures.sum
    ∙ sym (areas_are part k held)
    ∙ ap (λ (t : KeptTenant). (counts_of (state_in part t)).value_bytes) c.self.view_is)
    c.program_count.ensures.count
    c.open_count.ensures.count
    (c.memory_was_refused.ensures part)
