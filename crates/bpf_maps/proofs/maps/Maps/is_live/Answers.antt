-- `is_live`: a handle has a live map exactly if `get` returns a key of the slab for it (`live_with_key`).
use Rattle.std.proofs.Common.{is_some, ap, ◌∙◌}
use Rattle.bpf_maps.proofs.ByHandle.{live_with_key}
use Rattle.bpf_maps.proofs.maps.Maps.is_live.Goals as goal

pub returns : goal.returns
returns c =
    c.is_some.ensures
    ∙ ap is_some c.get.ensures
    ∙ live_with_key c.self.inside c.self.view_is c.map.view_is c.self.invariant.keys
