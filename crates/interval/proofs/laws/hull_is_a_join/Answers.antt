-- `hull_is_a_join`: each clause follows by arithmetic from the ends of the hull, the lesser low end and the greater high end.
use Rattle.interval.proofs.HullLemmas.{hull_holds, hull_is_least, hull_commutes, hull_associates}
use Rattle.interval.proofs.laws.hull_is_a_join.Goals as goal

pub returns : goal.returns
returns c = record {
  holds_both = hull_holds;
  least = hull_is_least;
  commutes = hull_commutes;
  associates = hull_associates;
}
