-- `entry_after` of `ArrayMap`: the entry after an element is that of the next index, since the entries of an array are its indices in
-- order (`array_entries`); none follows if this index is not less than `max_entries`.
use Rattle.std.proofs.Common.{◌≡◌, ℕ, ◌+◌, ◌<◌, ◌≤◌, ◌∙◌, Option, sym, ap, arith}
use Rattle.std.specs.Option.{option_map_or}
use Rattle.ordered_keys.specs.Orders.{next_entry}
use Rattle.tagged_model.specs.Table.{index_key, indexed}
use Rattle.bpf_maps.specs.KeyTable.{KeyTable}
use Rattle.bpf_maps.proofs.Arrays.{spells}
use Rattle.bpf_maps.proofs.NextEntries.{index_entry, next_index, no_index, some_index, array_entries}
use Rattle.bpf_maps.proofs.array_map.ArrayMap.entry_after.Goals as goal

-- the next entry is that of the index
next_is : (t : KeyTable) (n i : ℕ) (element : Option ℕ)
    → t.entries ≡ indexed (λ i. i) 0 n → i ≡ option_map_or (λ p. p + 1) element 0
    → next_entry element t.entries ≡ index_entry i n
next_is t n i element are is =
    ap (next_entry element) are ∙ next_index element n ∙ ap (λ (k : ℕ). index_entry k n) (sym is)

pub returns-then-index-from : goal.returns-then-index-from
returns-then-index-from c =
    let t = c.args.self.now in
    let n = t.shape.max_entries in
    let i = c.index_after_element-index.result in
    let are = array_entries t c.keys_are_its_indices.ensures.whole c.keys_are_its_indices.ensures.kind in
    let same : c.self.inside.shape.max_entries ≡ n = ap (λ (t : KeyTable). t.shape.max_entries) c.self.view_is in
    let past : n ≤ i = omega (arith, same, c.from.ensures, c.if-index-from.true) in
    sym (next_is t n i c.args.element are c.index_after_element-index.ensures ∙ no_index i n past)

pub returns : goal.returns
returns c =
    let t = c.args.self.now in
    let n = t.shape.max_entries in
    let i = c.index_after_element-index.result in
    let are = array_entries t c.keys_are_its_indices.ensures.whole c.keys_are_its_indices.ensures.kind in
    let same : c.self.inside.shape.max_entries ≡ n = ap (λ (t : KeyTable). t.shape.max_entries) c.self.view_is in
    let below : i < n = omega (arith, same, c.from.ensures, c.if-index-from.false) in
    let key : c.of_word-key.result ≡ index_key i = c.of_word-key.ensures ∙ spells i in
    sym (next_is t n i c.args.element are c.index_after_element-index.ensures ∙ some_index i n c.of_word-key.result below key)
