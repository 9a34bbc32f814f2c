-- `joins_associate`: the join of kinds is associative, since the hull of ranges is commutative and associative (`hull_is_a_join`); the
-- joins of slots and of facts follow from it.
use Rattle.reg_kinds.specs.Laws.{KindsAssociate, SlotsAssociate}
use Rattle.reg_kinds.proofs.KindGroups.{kinds_associate}
use Rattle.reg_kinds.proofs.FactLaws.{slots_associate, facts_associate}
use Rattle.reg_kinds.proofs.laws.joins_associate.Goals as goal

pub returns : goal.returns
returns c =
    let kinds : KindsAssociate =
    kinds_associate c.hull_is_a_join.ensures.commutes c.hull_is_a_join.ensures.associates in
    let slots : SlotsAssociate = slots_associate kinds in
    record { kinds = kinds; slots = slots; facts = facts_associate kinds slots }
