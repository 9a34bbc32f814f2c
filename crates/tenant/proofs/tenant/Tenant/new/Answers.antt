-- `new` of `Tenant`: by the contracts of `FdTable::new` and `Maps::new` nothing is open and no map live, so the tenant is well formed and
-- has the state of a new one.
use Rattle.tenant.proofs.New.{empty_is_kept, empty_is_new}
use Rattle.tenant.proofs.tenant.Tenant.new.Goals as goal

pub invariant_of-result : goal.invariant_of-result
invariant_of-result c =
    empty_is_kept c.in_ok-new.field-0 c.in_ok-new-2.field-0 c.in_ok-new.ensures c.in_ok-new-2.ensures.maps

pub returns : goal.returns
returns c = λ part.
    empty_is_new part c.in_ok-new.field-0 c.in_ok-new-2.field-0 c.in_ok-new.ensures
    c.in_ok-new-2.ensures.maps c.in_ok-new-2.ensures.refused
