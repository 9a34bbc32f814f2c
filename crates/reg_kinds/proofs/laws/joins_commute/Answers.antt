-- `joins_commute`: the join of kinds is commutative, since the hull of ranges is (`hull_is_a_join`); the joins of slots and of facts follow
-- from it.
use Rattle.reg_kinds.specs.Laws.{KindsCommute, SlotsCommute}
use Rattle.reg_kinds.proofs.KindOrder.{kinds_commute}
use Rattle.reg_kinds.proofs.FactLaws.{slots_commute, facts_commute}
use Rattle.reg_kinds.proofs.laws.joins_commute.Goals as goal

pub returns : goal.returns
returns c =
    let kinds : KindsCommute = kinds_commute c.hull_is_a_join.ensures.commutes in
    let slots : SlotsCommute = slots_commute kinds in
    record { kinds = kinds; slots = slots; facts = facts_commute kinds slots }
