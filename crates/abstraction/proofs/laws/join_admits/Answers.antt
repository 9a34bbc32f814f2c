-- `join_admits`: the join of facts admits what the first facts admit, since a hull has the members of both ranges (`first_joined`);
-- for the second facts the join is commutative.
use Rattle.std.proofs.Common.{subst, inl, inr}
use Rattle.abstraction.specs.Admits.{AdmitsBy}
use Rattle.abstraction.specs.Laws.{JoinAdmits}
use Rattle.reg_kinds.specs.Laws.{FactsCommute}
use Rattle.interval.specs.Laws.{HullHoldsBoth}
use Rattle.abstraction.proofs.Joins.{first_joined}
use Rattle.abstraction.proofs.laws.join_admits.Goals as goal

both_sides : HullHoldsBoth → FactsCommute → JoinAdmits
both_sides holds commute witness a b s (inl h) = first_joined witness holds a b s h
both_sides holds commute witness a b s (inr h) =
    subst (λ f. AdmitsBy witness f s) (commute b a) (first_joined witness holds b a s h)

pub returns : goal.returns
returns c = both_sides c.hull_is_a_join.ensures.holds_both c.joins_commute.ensures.facts
