-- `end_run` of `Maps`: the stored map's own `end_run` frees the elements that were kept apart, and keeps the shape. So, as in each change
-- of one map's keys (`KeyChanges`), nothing else changes, and the invariant still holds.
use Rattle.std.proofs.Common.{ap, ◌∙◌, sym}
use Rattle.bpf_maps.specs.KeyTable.{KeyTable, after_run}
use Rattle.bpf_maps.proofs.ByHandle.{has_key}
use Rattle.bpf_maps.proofs.Changes.{is_under}
use Rattle.bpf_maps.proofs.KeyChanges.{IsKeyChange, keys_before, keys_after, keys_whole, only_keys}
use Rattle.bpf_maps.proofs.maps.Maps.end_run.Goals as goal

pub key-key-requires : goal.key-key-requires
key-key-requires c = has_key c.self.inside c.self.view_is c.map.view_is c.requires

change : (c : goal.After-self-1)
    → IsKeyChange c.self.inside c.args.self.now c.map.inside.handle c.args.map c.key-key.result
    c.index_mut-stored.result.now c.end_run.new.self
change c = record {
  under = is_under c.self.view_is c.self.invariant c.map.view_is c.key-key.ensures c.index_mut-stored.ensures.value;
  shape = ap (λ (t : KeyTable). t.shape) c.end_run.ensures.ended;
  sound = c.end_run.ensures.sound;
}

pub invariant_of-self : goal.invariant_of-self
invariant_of-self c = keys_whole (change c)

pub returns-clause-ended : goal.returns-clause-ended
returns-clause-ended c = sym (keys_after (change c)) ∙ c.end_run.ensures.ended ∙ ap after_run (keys_before (change c))

pub returns-clause-rest : goal.returns-clause-rest
returns-clause-rest c = only_keys (change c)
