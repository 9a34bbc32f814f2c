-- `new` of `Host`: by the contract of `new_tenants` all states are new and all births empty, so the host is a new one. The arena has a part
-- for each tenant, and each tenant has a history without commands, as the invariant requires.
use Rattle.std.proofs.Common.{◌≡◌, ℕ, List, [], replicate, sym, ap₂, subst, ◌∙◌, arith}
use Rattle.std.specs.Vec.{vec_len}
use Rattle.arena.specs.Memory.{Memory}
use Rattle.saving.specs.declared.birth.Birth.{Birth}
use Rattle.saving.specs.Recorded.{RecordedTenant}
use Rattle.tenant.specs.State.{TenantState, new_tenant}
use Rattle.host_core.specs.States.{HostState, births_in, host_state, new_host, states_in}
use Rattle.host_core.specs.inside.Reached.{AreReached}
use Rattle.host_core.proofs.Histories.{new_reached}
use Rattle.host_core.proofs.host.Host.new.Goals as goal

-- a host whose tenants are new, without births
are_new : (m : Memory) (tenants : List RecordedTenant) (count : ℕ) → states_in m tenants ≡ replicate count new_tenant
    → births_in tenants ≡ replicate count [] → host_state m tenants ≡ new_host count
are_new m tenants count states births =
    ap₂ (λ (states : List TenantState) (births : List (List Birth)).
    let host : HostState = record { states = states; births = births } in host)
    states births

pub invariant_of-result : goal.invariant_of-result
invariant_of-result c =
    let tenants = c.in_ok-new_tenants in
    let memory = c.in_ok-new in
    let count : vec_len tenants.field-0 ≡ c.args.tenants = omega (arith, tenants.field-0.ok.0, tenants.ensures.count) in
    let made =
    are_new memory.field-0 tenants.field-0.items c.args.tenants
    (tenants.ensures.new memory.field-0 0) tenants.ensures.births in (
      omega (arith, count, c.requires.few),
      memory.ensures.parts ∙ sym count,
      memory.ensures.part,
      subst AreReached (sym made) (new_reached c.args.tenants),
    )

pub returns : goal.returns
returns c =
    let tenants = c.in_ok-new_tenants in
    let memory = c.in_ok-new.field-0 in
    are_new memory tenants.field-0.items c.args.tenants (tenants.ensures.new memory 0) tenants.ensures.births
