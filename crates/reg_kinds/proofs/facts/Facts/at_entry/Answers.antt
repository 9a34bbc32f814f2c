-- `at_entry`: the facts that the code makes are `entry` by computation, once `tabulate`, which lists the values of a function, is unfolded.
use Rattle.std.proofs.Common.{refl}
use Rattle.reg_kinds.specs.Kinds.{tabulate}
use Rattle.reg_kinds.proofs.facts.Facts.at_entry.Goals as goal

pub returns : goal.returns
unfolding tabulate
returns c = refl
