-- `key_after` of `WordIndex`, by cases of the key's size: a key of another size is absent, so the first key is returned
-- (`after_other_size`). Otherwise the key after it is the one whose number follows the key's number (`following_shown`).
use Rattle.std.proofs.Common.{ℕ, List, Option, Some, option_map, ◌∙◌, ap, nat_eq}
use Rattle.words.specs.Bytes.{low_bytes}
use Rattle.tagged_model.specs.Table.{key_after}
use Rattle.bpf_maps.specs.KeyLists.{SizedKeys}
use Rattle.bpf_maps.proofs.Shown.{following_shown}
use Rattle.bpf_maps.proofs.WordKeys.{word_tests, after_other_size}
use Rattle.bpf_maps.proofs.word_index.WordIndex.key_after.Goals as goal

pub returns-then-key-self : goal.returns-then-key-self
returns-then-key-self c =
    let w = c.self.inside in
    ap (λ (key : List ℕ). let o : Option (List ℕ) = Some key in o) c.of_word.ensures
    ∙ ap (option_map (low_bytes w.size)) c.in_ok-word.ensures
    ∙ after_other_size c.args.key.now w.size w.map.entries c.if-key-self.true
    ∙ ap (λ (t : SizedKeys). key_after c.args.key.now t.entries) c.self.view_is

pub returns-in_err-word-2 : goal.returns-in_err-word-2
returns-in_err-word-2 c =
    let w = c.self.inside in
    let key = c.args.key.now in
    let tests =
    word_tests w.size key (λ i _. (c.type_inv.key i).fits) c.if-key-self.false c.word_of.result
    w.map.entries c.word_of.ensures c.self.invariant.below in
    c.from_residual-in_err-word-2.ensures
    ∙ ap (option_map (low_bytes w.size)) c.in_err-word-2.ensures
    ∙ following_shown (low_bytes w.size) key (nat_eq c.word_of.result) w.map.entries tests
    ∙ ap (λ (t : SizedKeys). key_after key t.entries) c.self.view_is

pub returns : goal.returns
returns c =
    let w = c.self.inside in
    let key = c.args.key.now in
    let tests =
    word_tests w.size key (λ i _. (c.type_inv.key i).fits) c.if-key-self.false c.word_of.result
    w.map.entries c.word_of.ensures c.self.invariant.below in
    ap (λ (key : List ℕ). let o : Option (List ℕ) = Some key in o) c.of_word-2.ensures
    ∙ ap (option_map (low_bytes w.size)) c.in_ok-word-2.ensures
    ∙ following_shown (low_bytes w.size) key (nat_eq c.word_of.result) w.map.entries tests
    ∙ ap (λ (t : SizedKeys). key_after key t.entries) c.self.view_is
