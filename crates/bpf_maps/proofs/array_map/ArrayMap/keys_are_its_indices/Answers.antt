-- `keys_are_its_indices` of `ArrayMap`: contracts see the table of a new array of a shape whose kind is `Array`, by the type's view and
-- invariant; such a shape has keys of the size of an index, and such a table is sound (`sound_array`).
use Rattle.std.proofs.Common.{◌∙◌, sym, ap, subst}
use Rattle.bpf_maps.specs.KeyTable.{KeyTable, new_keys, IsSound}
use Rattle.bpf_maps.proofs.Shapes.{array_key}
use Rattle.bpf_maps.proofs.Arrays.{sound_array}
use Rattle.bpf_maps.proofs.array_map.ArrayMap.keys_are_its_indices.Goals as goal

pub returns-clause-kind : goal.returns-clause-kind
returns-clause-kind c = ap (λ (t : KeyTable). t.shape.kind) (sym c.self.view_is) ∙ c.self.invariant

pub returns-clause-whole : goal.returns-clause-whole
returns-clause-whole c = sym c.self.view_is ∙ ap (λ (t : KeyTable). new_keys t.shape) c.self.view_is

pub returns-clause-key_size : goal.returns-clause-key_size
returns-clause-key_size c =
    ap (λ (t : KeyTable). t.shape.key_size) (sym c.self.view_is) ∙ array_key c.self.inside.shape c.self.invariant

pub returns-clause-sound : goal.returns-clause-sound
returns-clause-sound c = subst IsSound c.self.view_is (sound_array c.self.inside.shape c.self.invariant)
