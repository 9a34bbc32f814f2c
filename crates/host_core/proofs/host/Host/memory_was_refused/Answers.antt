-- `memory_was_refused` of `Host`: the flag of a stored tenant is that of the state that it represents; a number that is not served has no
-- state, and so no flag.
use Rattle.std.proofs.Common.{◌≡◌, List, length, Some, sym, ap, subst, arith}
use Rattle.std.specs.Prelude.{slice_get}
use Rattle.std.proofs.lemmas.Bool.{ltb-true, ltb-false}
use Rattle.saving.specs.Recorded.{RecordedTenant}
use Rattle.host_core.proofs.Tenants.{slice_get_in, states_length, states_are, seen_refused, seen_unrefused, none_unrefused}
use Rattle.host_core.proofs.host.Host.memory_was_refused.Goals as goal

-- the tenant that was found has this number
found_is : (c : goal.After-memory_was_refused)
    → slice_get c.self.inside.tenants.items c.args.tenant ≡ Some c.in-Some.tenant.now
found_is c =
    let found = c.in-Some.ensures.lookup in
    subst (λ (ks : List RecordedTenant). slice_get ks c.args.tenant ≡ Some c.in-Some.tenant.now) c.deref.ensures.value
    (slice_get_in c.deref.result.now c.args.tenant c.in-Some.tenant.now
    (ltb-true c.args.tenant (length c.deref.result.now) (sym found.0))
    found.1)

pub returns-in-Some-clause-refused : goal.returns-in-Some-clause-refused
returns-in-Some-clause-refused c =
    seen_refused c.self.inside.arena c.self.inside.tenants.items c.args.self.now.states
    c.args.tenant c.in-Some.tenant.now
    (states_are c.self.inside.arena c.self.inside.tenants.items c.args.self.now c.self.view_is)
    (found_is c) c.memory_was_refused.result c.memory_was_refused.ensures

pub returns-in-Some-clause-unrefused : goal.returns-in-Some-clause-unrefused
returns-in-Some-clause-unrefused c =
    seen_unrefused c.self.inside.arena c.self.inside.tenants.items c.args.self.now.states
    c.args.tenant c.in-Some.tenant.now
    (states_are c.self.inside.arena c.self.inside.tenants.items c.args.self.now c.self.view_is)
    (found_is c) c.memory_was_refused.result c.memory_was_refused.ensures

pub returns-in-None-clause-unrefused : goal.returns-in-None-clause-unrefused
returns-in-None-clause-unrefused c = λ _.
    let few = ltb-false c.args.tenant (length c.deref.result.now) (sym c.in-None.ensures.lookup.0) in
    let many = states_length c.self.inside.arena 0 c.self.inside.tenants.items in
    none_unrefused c.args.self.now.states c.args.tenant
    (omega (
      arith,
      few,
      many,
      ap length (states_are c.self.inside.arena c.self.inside.tenants.items c.args.self.now c.self.view_is),
      ap length c.deref.ensures.value,
    ))
