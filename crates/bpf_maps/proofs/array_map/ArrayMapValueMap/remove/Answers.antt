-- `remove` of `ArrayMap`: the error `Invalid` and an unchanged table are what the definition of a deletion requires of the kind `Array`.
use Rattle.std.proofs.Common.{Err, refl, sym, subst}
use Rattle.tagged_model.specs.declared.shape.MapKind.{MapKind}
use Rattle.tagged_model.specs.declared.fault.MapFault.TheVariants.{Invalid}
use Rattle.tagged_model.specs.Table.{removal_of, look_up}
use Rattle.bpf_maps.specs.KeyTable.{table_of, Removes}
use Rattle.bpf_maps.proofs.array_map.ArrayMapValueMap.remove.Goals as goal

pub returns-clause-removed : goal.returns-clause-removed
returns-clause-removed c =
    subst (λ (k : MapKind).
    Removes (removal_of k (look_up (table_of c.args.self.now) c.args._key.now)) c.args._key.now
    c.args.self.now (Err Invalid) c.args.self.now)
    (sym c.keys_are_its_indices.ensures.kind) (refl, refl)
