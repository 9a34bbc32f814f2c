-- `new` of `SavableTenant`: the invariant holds for a new state without births, by the clauses `new` of the laws `maps_are_held` and
-- `births_are_kept`.
use Rattle.saving.proofs.Recorded.{recorded_new}
use Rattle.saving.proofs.savable.SavableTenant.new.Goals as goal

pub invariant_of-result : goal.invariant_of-result
invariant_of-result c =
    recorded_new c.maps_are_held.ensures c.births_are_kept.ensures c.in_ok-new.field-0
    c.in_ok-new-2.field-0 c.in_ok-new.ensures c.in_ok-new-2.ensures
