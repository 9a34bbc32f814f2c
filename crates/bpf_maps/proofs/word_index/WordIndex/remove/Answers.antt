-- `remove` of `WordIndex`: a number in the index is that of the key exactly if it represents the key's bytes (`word_tests`), so the map of
-- numbers returns the key's element, and without the number the index has the other keys. Each number still fits in their size.
use Rattle.std.proofs.Common.{◌≡◌, ◌^◌, ◌∙◌, ap, sym, subst, nat_eq, length}
use Rattle.words.specs.Bytes.{low_bytes}
use Rattle.tagged_model.specs.Table.{found, without}
use Rattle.bpf_maps.specs.KeyLists.{SizedKeys, shown_by}
use Rattle.bpf_maps.specs.Words.{AreBelow}
use Rattle.bpf_maps.proofs.Shown.{Tests, found_shown, without_shown}
use Rattle.bpf_maps.proofs.WordKeys.{word_tests, below-remove}
use Rattle.bpf_maps.proofs.word_index.WordIndex.remove.Goals as goal

module _ (c : goal.After-remove) where
  long : length c.args.key.now ≡ c.self.inside.size
  long = c.requires ∙ ap (λ (t : SizedKeys). t.size) (sym c.self.view_is)

  tests : Tests (low_bytes c.self.inside.size) c.args.key.now (nat_eq c.word_of.result) c.self.inside.map.entries
  tests =
      word_tests c.self.inside.size c.args.key.now (λ i _. (c.type_inv.key i).fits) long
      c.word_of.result c.self.inside.map.entries c.word_of.ensures
      c.self.invariant.below

pub invariant_of-self : goal.invariant_of-self
invariant_of-self c = record {
  short = c.self.invariant.short;
  below =
      subst (AreBelow (256 ^ c.self.inside.size)) (sym c.remove.ensures.left)
      (below-remove (256 ^ c.self.inside.size) (nat_eq c.word_of.result) c.self.inside.map.entries
      c.self.invariant.below);
}

pub returns-clause-element : goal.returns-clause-element
returns-clause-element c =
    c.remove.ensures.element
    ∙ found_shown (low_bytes c.self.inside.size) c.args.key.now (nat_eq c.word_of.result)
    c.self.inside.map.entries (tests c)
    ∙ ap (λ (t : SizedKeys). found c.args.key.now t.entries) c.self.view_is

pub returns-clause-left : goal.returns-clause-left
returns-clause-left c =
    ap (shown_by (low_bytes c.self.inside.size)) c.remove.ensures.left
    ∙ without_shown (low_bytes c.self.inside.size) c.args.key.now (nat_eq c.word_of.result)
    c.self.inside.map.entries (tests c)
    ∙ ap (λ (t : SizedKeys). without c.args.key.now t.entries) c.self.view_is
