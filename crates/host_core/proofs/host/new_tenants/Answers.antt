-- `new_tenants`: each turn adds one record that has the state of a new tenant and no births, by the contract of `SavableTenant::new`.
use Rattle.std.proofs.Common.{[], ◌∷◌, length, ap, ◌∙◌, arith, length-append}
use Rattle.host_core.specs.States.{births_in, states_from}
use Rattle.host_core.proofs.Tenants.{new_more, no_births_more}
use Rattle.host_core.proofs.host.new_tenants.Goals as goal

pub loop-init : goal.loop-init
unfolding states_from
loop-init c = record {
  new = λ m first. ap (states_from m first) c.in_ok-tenants.ensures.items;
  births = ap births_in c.in_ok-tenants.ensures.items;
  count = ap length c.in_ok-tenants.ensures.items;
}

pub loop-preserved : goal.loop-preserved
loop-preserved c = record {
  new = λ m first.
      ap (states_from m first) c.in_ok-push.ensures.items
      ∙ new_more m first c.loop.tenants.items c.in_ok-new.field-0 c.loop.counter
      (c.loop.invariant.new m first) c.in_ok-new.ensures.new;
  births =
      ap births_in c.in_ok-push.ensures.items
      ∙ no_births_more c.loop.tenants.items c.in_ok-new.field-0 c.loop.counter
      c.loop.invariant.births c.in_ok-new.ensures.births;
  count =
      ap length c.in_ok-push.ensures.items
      ∙ omega (arith, c.loop.invariant.count, length-append c.loop.tenants.items (c.in_ok-new.field-0 ∷ []));
}
