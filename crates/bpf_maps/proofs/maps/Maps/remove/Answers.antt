-- `remove` of `Maps`: the stored map has the live map's table of keys, before and after, so its own `remove` gives `removed`. A delete
-- keeps the shape (`removes_shape`). So, as in each change of one map's keys (`KeyChanges`), nothing else changes.
use Rattle.std.proofs.Common.{◌∙◌}
use Rattle.bpf_maps.proofs.ByHandle.{has_key}
use Rattle.bpf_maps.proofs.Changes.{seen_of, is_under, live_under}
use Rattle.bpf_maps.proofs.KeyChanges.{IsKeyChange, keys_before, keys_after, keys_whole, only_keys}
use Rattle.bpf_maps.proofs.Along.{removes_shape, removes_along}
use Rattle.bpf_maps.proofs.maps.Maps.remove.Goals as goal

pub key-at-requires : goal.key-at-requires
key-at-requires c = has_key c.self.inside c.self.view_is c.map.view_is c.requires.live

pub remove-requires : goal.remove-requires
remove-requires c =
    let here =
    live_under (is_under c.self.view_is c.self.invariant c.map.view_is c.key-at.ensures
    c.index_mut-stored.ensures.value) in
    record { size = c.requires.size ∙ seen_of (λ l. l.keys.shape.key_size) here }

change : (c : goal.After-self-1)
    → IsKeyChange c.self.inside c.args.self.now c.map.inside.handle c.args.map c.key-at.result
    c.index_mut-stored.result.now c.remove.new.self
change c = record {
  under = is_under c.self.view_is c.self.invariant c.map.view_is c.key-at.ensures c.index_mut-stored.ensures.value;
  shape = removes_shape _ c.args.key.now _ _ c.remove.result c.remove.ensures.removed;
  sound = c.remove.ensures.sound;
}

pub invariant_of-self : goal.invariant_of-self
invariant_of-self c = keys_whole (change c)

pub returns-clause-removed : goal.returns-clause-removed
returns-clause-removed c =
    removes_along c.args.key.now c.remove.result (keys_before (change c)) (keys_after (change c))
    c.remove.ensures.removed

pub returns-clause-rest : goal.returns-clause-rest
returns-clause-rest c = only_keys (change c)
