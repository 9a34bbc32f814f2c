-- `have_only_known_words`: the library knows all words of the contexts exactly if it knows those of the contexts that are left. The words
-- that are left suffice for these.
use Rattle.std.proofs.Common.{◌≡◌, ◌*◌, ◌≤◌, length, ◌-◌}
use Rattle.bpfhost_c.specs.Contexts.{have_known_words}
use Rattle.bpfhost_c.proofs.contexts.have_only_known_words.Given as goal

abbrev pub invariant-loop : goal.invariant-loop
invariant-loop l =
    (have_known_words l.size (l.count - l.counter) l.rest ≡ have_known_words l.size l.count l.words)
    × ((l.count - l.counter) * l.size ≤ length l.rest)
