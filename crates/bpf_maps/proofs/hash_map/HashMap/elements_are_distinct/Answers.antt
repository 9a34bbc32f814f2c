-- `elements_are_distinct` of `HashMap`: the kind is that of the type's invariant, which also makes the table of keys sound.
use Rattle.std.proofs.Common.{◌∙◌, sym, ap, subst}
use Rattle.bpf_maps.specs.KeyTable.{KeyTable, IsSound}
use Rattle.bpf_maps.proofs.Kept.{sound}
use Rattle.bpf_maps.proofs.hash_map.HashMap.elements_are_distinct.Goals as goal

pub returns-clause-kind : goal.returns-clause-kind
returns-clause-kind c = ap (λ (t : KeyTable). t.shape.kind) (sym c.self.view_is) ∙ c.self.invariant.kind

pub returns-clause-sound : goal.returns-clause-sound
returns-clause-sound c = subst IsSound c.self.view_is (sound c.self.invariant)
