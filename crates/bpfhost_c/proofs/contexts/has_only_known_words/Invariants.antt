-- `has_only_known_words`: the words after the known ones are all 0 exactly if those among them that are left are.
use Rattle.std.proofs.Common.{◌≡◌, drop, nat_eq}
use Rattle.std.specs.List.{list_all}
use Rattle.bpfhost_c.proofs.contexts.has_only_known_words.Given as goal

abbrev pub invariant-loop-word : goal.invariant-loop-word
invariant-loop-word l =
    list_all (λ word. nat_eq word 0) (drop l.word-index l.more) ≡ list_all (λ word. nat_eq word 0) l.more
