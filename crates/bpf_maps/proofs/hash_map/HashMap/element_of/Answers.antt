-- `element_of` of `HashMap`: an element that `get` of the index finds is less than `max_entries`, since the type's invariant makes the
-- table sound.
use Rattle.std.proofs.Common.{◌∙◌, ap, subst}
use Rattle.tagged_model.specs.Table.{look_up}
use Rattle.bpf_maps.specs.KeyTable.{KeyTable, table_of, IsSound}
use Rattle.bpf_maps.proofs.Kept.{sound}
use Rattle.bpf_maps.proofs.Answered.{found_within}
use Rattle.bpf_maps.proofs.hash_map.HashMap.element_of.Goals as goal

pub returns-clause-within : goal.returns-clause-within
returns-clause-within c =
    found_within c.args.self.now c.args.key.now c.get.result (subst IsSound c.self.view_is (sound c.self.invariant))
    (c.get.ensures ∙ ap (λ (t : KeyTable). look_up (table_of t) c.args.key.now) c.self.view_is)
