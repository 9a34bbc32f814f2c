-- `clear` of `WordIndex`: by `clear` of the map of numbers no entry is left, so the index has no key, and its invariant holds.
use Rattle.std.proofs.Common.{◌^◌, sym, subst, ap}
use Rattle.words.specs.Bytes.{low_bytes}
use Rattle.bpf_maps.specs.KeyLists.{shown_by}
use Rattle.bpf_maps.specs.Words.{AreBelow}
use Rattle.bpf_maps.proofs.word_index.WordIndex.clear.Goals as goal

pub invariant_of-self : goal.invariant_of-self
invariant_of-self c = record {
  short = c.self.invariant.short;
  below = subst (AreBelow (256 ^ c.self.inside.size)) (sym c.clear.ensures.entries) tt;
}

pub returns-clause-entries : goal.returns-clause-entries
returns-clause-entries c = ap (shown_by (low_bytes c.self.inside.size)) c.clear.ensures.entries
