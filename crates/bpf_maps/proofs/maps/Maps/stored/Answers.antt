-- `stored`: the handle of a live map has a key of the slab (`has_key`), and under it the slab has the live map (`live_under`).
use Rattle.bpf_maps.proofs.ByHandle.{has_key}
use Rattle.bpf_maps.proofs.Changes.{is_under, live_under}
use Rattle.bpf_maps.proofs.maps.Maps.stored.Goals as goal

pub key-key-requires : goal.key-key-requires
key-key-requires c = has_key c.self.inside c.self.view_is c.map.view_is c.requires

pub returns : goal.returns
returns c = live_under (is_under c.self.view_is c.self.invariant c.map.view_is c.key-key.ensures c.index.ensures)
