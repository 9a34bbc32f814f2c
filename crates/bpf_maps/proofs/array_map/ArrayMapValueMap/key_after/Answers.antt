-- `key_after` of `ArrayMap`: if the index from `index_after` is less than `max_entries`, the returned key has the bytes of this index, and
-- is the next key, by the contract of `index_after`.
use Rattle.std.proofs.Common.{◌≡◌, ℕ, Bool, true, List, Option, Some, None, nat_lt, if◌then◌else◌, ◌∙◌, sym, ap, arith}
use Rattle.std.proofs.lemmas.Bool.{lt-ltb}
use Rattle.words.specs.Bytes.{low_bytes}
use Rattle.tagged_model.specs.Table.{index_key}
use Rattle.bpf_maps.specs.KeyTable.{KeyTable}
use Rattle.bpf_maps.proofs.Arrays.{spells}
use Rattle.bpf_maps.proofs.array_map.ArrayMapValueMap.key_after.Goals as goal

pub returns-clause-given : goal.returns-clause-given
returns-clause-given c =
    let same : c.self.inside.shape.max_entries ≡ c.args.self.now.shape.max_entries =
    ap (λ (t : KeyTable). t.shape.max_entries) c.self.view_is in
    let below : nat_lt c.index_after-index.result c.args.self.now.shape.max_entries ≡ true = lt-ltb _ _ (omega arith) in
    let key : index_key c.index_after-index.result ≡ c.of_word.result =
    sym (c.of_word.ensures ∙ ap (low_bytes 4) c.from.ensures ∙ spells c.index_after-index.result) in
    sym
    (c.index_after-index.ensures.next
    ∙ ap (λ (b : Bool). if b then Some (index_key c.index_after-index.result) else None) below
    ∙ ap (λ (x : List ℕ). let o : Option (List ℕ) = Some x in o) key)
