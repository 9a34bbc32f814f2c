-- `get` of `WordIndex`: a number in the index is that of the key exactly if it represents the key's bytes (`word_tests`), so the element
-- that is found by the number is the key's (`found_shown`).
use Rattle.std.proofs.Common.{◌∙◌, ap, sym, nat_eq}
use Rattle.words.specs.Bytes.{low_bytes}
use Rattle.tagged_model.specs.Table.{found}
use Rattle.bpf_maps.specs.KeyLists.{SizedKeys}
use Rattle.bpf_maps.proofs.Shown.{found_shown}
use Rattle.bpf_maps.proofs.WordKeys.{word_tests}
use Rattle.bpf_maps.proofs.word_index.WordIndex.get.Goals as goal

pub returns : goal.returns
returns c =
    let w = c.self.inside in
    let key = c.args.key.now in
    let long = c.requires ∙ ap (λ (t : SizedKeys). t.size) (sym c.self.view_is) in
    let tests =
    word_tests w.size key (λ i _. (c.type_inv.key i).fits) long c.word_of.result w.map.entries
    c.word_of.ensures c.self.invariant.below in
    c.get.ensures
    ∙ found_shown (low_bytes w.size) key (nat_eq c.word_of.result) w.map.entries tests
    ∙ ap (λ (t : SizedKeys). found key t.entries) c.self.view_is
