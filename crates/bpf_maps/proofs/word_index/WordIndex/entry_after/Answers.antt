-- `entry_after` of `WordIndex`: the next entry among the numbers, with the number as its bytes (`of_word`), is the next entry among the
-- keys (`next_shown`), both if an entry follows and if none does.
use Rattle.std.proofs.Common.{ℕ, List, Option, Some, option_map, ◌∙◌, ap, sym}
use Rattle.ordered_keys.specs.Orders.{next_entry}
use Rattle.words.specs.Bytes.{low_bytes}
use Rattle.bpf_maps.specs.KeyLists.{SizedKeys}
use Rattle.bpf_maps.proofs.NextEntries.{next_shown}
use Rattle.bpf_maps.proofs.word_index.WordIndex.entry_after.Goals as goal

abbrev spelled : ℕ → ℕ × ℕ → List ℕ × ℕ
spelled size e = (low_bytes size e.0, e.1)

pub returns-in_err-word : goal.returns-in_err-word
returns-in_err-word c =
    let w = c.self.inside in
    c.from_residual.ensures
    ∙ ap (option_map (spelled w.size)) c.in_err-word.ensures
    ∙ sym (next_shown (low_bytes w.size) c.args.element w.map.entries)
    ∙ ap (λ (t : SizedKeys). next_entry c.args.element t.entries) c.self.view_is

pub returns : goal.returns
returns c =
    let w = c.self.inside in
    ap (λ (key : List ℕ). let o : Option (List ℕ × ℕ) = Some (key, c.in_ok-word.element) in o) c.of_word.ensures
    ∙ ap (option_map (spelled w.size)) c.in_ok-word.ensures
    ∙ sym (next_shown (low_bytes w.size) c.args.element w.map.entries)
    ∙ ap (λ (t : SizedKeys). next_entry c.args.element t.entries) c.self.view_is
