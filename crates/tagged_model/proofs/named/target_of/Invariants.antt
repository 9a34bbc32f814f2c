-- Before each turn of the loop of `target_of` the descriptor has in the rest of the list the target that it has in the whole list.
use Rattle.std.proofs.Common.{◌≡◌, drop}
use Rattle.tagged_model.specs.Named.{target_of}
use Rattle.tagged_model.proofs.named.target_of.Given as goal

abbrev pub invariant-loop-entry : goal.invariant-loop-entry
invariant-loop-entry l = target_of (drop l.entry-index l.named) l.fd ≡ target_of l.named l.fd
