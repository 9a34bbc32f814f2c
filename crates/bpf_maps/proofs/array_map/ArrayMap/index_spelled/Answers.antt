-- `index_spelled` of `ArrayMap`: a look-up of the key finds the index that its bytes spell, if that is less than `max_entries`, since the
-- table is always that of a new array (`found_array`).
use Rattle.std.proofs.Common.{nat_lt, refl, sym, arith}
use Rattle.bpf_maps.proofs.Arrays.{found_array}
use Rattle.bpf_maps.proofs.array_map.ArrayMap.index_spelled.Goals as goal

pub returns-clause-found : goal.returns-clause-found
returns-clause-found c =
    sym (found_array c.keys_are_its_indices.ensures.kind c.keys_are_its_indices.ensures.whole
    c.args.key.now c.index_of.result
    (nat_lt c.index_of.result c.args.self.now.shape.max_entries)
    c.index_of.ensures (omega arith) refl)
