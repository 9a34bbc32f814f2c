-- `insert` of `WordIndex`: the key's number is absent, since the key is, and no number has the element, since no key has it. The new number
-- represents the key's bytes (`word_spelled`) and fits in the size of the keys (`key_below`), so the invariant still holds.
use Rattle.std.proofs.Common.{◌≡◌, ◌<◌, ◌^◌, ◌∙◌, ap, sym, subst, nat_eq, length}
use Rattle.std.specs.Map.{values_of}
use Rattle.words.specs.Bytes.{low_bytes}
use Rattle.tagged_model.specs.Table.{found, with_key}
use Rattle.bpf_maps.specs.KeyTable.{occurrences}
use Rattle.bpf_maps.specs.KeyLists.{SizedKeys}
use Rattle.bpf_maps.specs.Words.{AreBelow}
use Rattle.bpf_maps.proofs.Shown.{found_shown, added_shown, values_shown}
use Rattle.bpf_maps.proofs.WordKeys.{word_tests, word_spelled, key_below, below-append}
use Rattle.bpf_maps.proofs.word_index.WordIndex.insert.Goals as goal

pub insert-requires-clause-absent : goal.insert-requires-clause-absent
insert-requires-clause-absent c =
    let w = c.self.inside in
    let key = c.args.key.now in
    let long : length key ≡ w.size = c.requires.size ∙ ap (λ (t : SizedKeys). t.size) (sym c.self.view_is) in
    let tests =
    word_tests w.size key (λ i _. (c.type_inv.key i).fits) long c.word_of.result w.map.entries
    c.word_of.ensures c.self.invariant.below in
    found_shown (low_bytes w.size) key (nat_eq c.word_of.result) w.map.entries tests
    ∙ ap (λ (t : SizedKeys). found key t.entries) c.self.view_is
    ∙ c.requires.absent

pub insert-requires-clause-free : goal.insert-requires-clause-free
insert-requires-clause-free c =
    let w = c.self.inside in
    ap (occurrences c.args.element) (sym (values_shown (low_bytes w.size) w.map.entries))
    ∙ ap (λ (t : SizedKeys). occurrences c.args.element (values_of t.entries)) c.self.view_is
    ∙ c.requires.free

pub invariant_of-self : goal.invariant_of-self
invariant_of-self c =
    let w = c.self.inside in
    let key = c.args.key.now in
    let long : length key ≡ w.size = c.requires.size ∙ ap (λ (t : SizedKeys). t.size) (sym c.self.view_is) in
    let below : c.word_of.result < 256 ^ w.size =
    subst (λ n. n < 256 ^ w.size) (sym c.word_of.ensures)
    (key_below w.size key (λ i _. (c.type_inv.key i).fits) long) in
    record {
      short = c.self.invariant.short;
      below =
          subst (AreBelow (256 ^ w.size)) (sym c.insert.ensures.added)
          (below-append (256 ^ w.size) c.word_of.result c.args.element w.map.entries c.self.invariant.below below);
    }

pub returns-clause-added : goal.returns-clause-added
returns-clause-added c =
    let w = c.self.inside in
    let key = c.args.key.now in
    let long : length key ≡ w.size = c.requires.size ∙ ap (λ (t : SizedKeys). t.size) (sym c.self.view_is) in
    let spelled : low_bytes w.size c.word_of.result ≡ key =
    word_spelled w.size key (λ i _. (c.type_inv.key i).fits) long c.word_of.result c.word_of.ensures in
    added_shown (low_bytes w.size) w.map.entries c.insert.new.self.entries c.word_of.result key
    c.args.element spelled c.insert.ensures.added
    ∙ ap (λ (t : SizedKeys). with_key key c.args.element t.entries) c.self.view_is
