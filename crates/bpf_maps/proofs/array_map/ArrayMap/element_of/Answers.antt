-- `element_of` of `ArrayMap`: the result is that of a look-up, by the two cases of the test: in an array an index is found, as its own
-- element, exactly if it is less than `max_entries` (`found_array`).
use Rattle.std.proofs.Common.{◌≡◌, true, false, ap, arith}
use Rattle.std.proofs.lemmas.Bool.{lt-ltb, le-ltb}
use Rattle.bpf_maps.specs.KeyTable.{KeyTable}
use Rattle.bpf_maps.proofs.Arrays.{found_array}
use Rattle.bpf_maps.proofs.array_map.ArrayMap.element_of.Goals as goal

pub returns-then-index-self-clause-element : goal.returns-then-index-self-clause-element
returns-then-index-self-clause-element c =
    let same : c.self.inside.shape.max_entries ≡ c.args.self.now.shape.max_entries =
    ap (λ (t : KeyTable). t.shape.max_entries) c.self.view_is in
    found_array c.keys_are_its_indices.ensures.kind c.keys_are_its_indices.ensures.whole
    c.args.key.now c.index_of-index.result true c.index_of-index.ensures
    (omega arith) (lt-ltb _ _ (omega arith))

pub returns-else-index-self-clause-element : goal.returns-else-index-self-clause-element
returns-else-index-self-clause-element c =
    let same : c.self.inside.shape.max_entries ≡ c.args.self.now.shape.max_entries =
    ap (λ (t : KeyTable). t.shape.max_entries) c.self.view_is in
    found_array c.keys_are_its_indices.ensures.kind c.keys_are_its_indices.ensures.whole
    c.args.key.now c.index_of-index.result false c.index_of-index.ensures
    (omega arith) (le-ltb _ _ (omega arith))
