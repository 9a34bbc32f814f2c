-- `nothing_known`: the facts that the code makes are those of the definition by computation, once `tabulate`, which lists the values of a
-- function, is unfolded.
use Rattle.std.proofs.Common.{refl}
use Rattle.reg_kinds.specs.Kinds.{tabulate}
use Rattle.reg_kinds.proofs.facts.Facts.nothing_known.Goals as goal

pub returns : goal.returns
unfolding tabulate
returns c = refl
