-- `target_of`: the result is what the descriptor names. By the loop's invariant that is its target in the rest of the list, whose first
-- entry has the descriptor or can be left out; at the end of the list it names nothing.
use Rattle.std.proofs.Common.{sym, ◌∙◌}
use Rattle.tagged_model.proofs.NamedTargets.{found_here, found_later, found_nowhere}
use Rattle.tagged_model.proofs.named.target_of.Goals as goal

pub loop-entry-preserved : goal.loop-entry-preserved
loop-entry-preserved c =
    sym (found_later c.args.named.now c.loop-entry.entry-index c.entry-item.result c.args.fd
    c.loop-entry-test.true c.entry-item.is c.if-entry-fd.false)
    ∙ c.loop-entry.invariant

pub returns-then-entry-fd : goal.returns-then-entry-fd
returns-then-entry-fd c =
    sym (found_here c.args.named.now c.loop-entry.entry-index c.entry-item.result c.args.fd
    c.loop-entry-test.true c.entry-item.is c.if-entry-fd.true)
    ∙ c.loop-entry.invariant

pub returns : goal.returns
returns c =
    sym (found_nowhere c.args.named.now c.loop-entry.entry-index c.args.fd c.loop-entry-test.false)
    ∙ c.loop-entry.invariant
