-- `fit_all`: the contexts so far, followed by those in the words that are left, are all contexts as a run is given them. The words that are
-- left suffice for the contexts that are left.
use Rattle.std.proofs.Common.{◌≡◌, ◌*◌, ◌≤◌, ◌++◌, length, ◌-◌}
use Rattle.bpfhost_c.specs.Contexts.{fitted_all}
use Rattle.bpfhost_c.proofs.contexts.fit_all.Given as goal

abbrev pub invariant-loop : goal.invariant-loop
invariant-loop l =
    (l.contexts.items ++ fitted_all l.size (l.count - l.counter) l.rest ≡ fitted_all l.size l.count l.words)
    × ((l.count - l.counter) * l.size ≤ length l.rest)
