-- `log_of`: the clauses are those of `into_log`, since by the contract of `judge` it has the facts and the verdict of this program, and by
-- that of `listing_of` the lines end in the verdict.
use Rattle.log_core.proofs.log.log_of.Goals as goal

pub returns-clause-verdict : goal.returns-clause-verdict
returns-clause-verdict c = c.into_log.ensures.verdict _ _ c.in_ok-judged.ensures

pub returns-clause-facts : goal.returns-clause-facts
returns-clause-facts c = c.into_log.ensures.facts _ _ c.in_ok-judged.ensures

pub returns-clause-said : goal.returns-clause-said
returns-clause-said c = λ style. c.into_log.ensures.said _ _ c.in_ok-judged.ensures (c.in_ok-text.ensures style)
