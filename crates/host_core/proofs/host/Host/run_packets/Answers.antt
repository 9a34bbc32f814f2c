-- `run_packets` of `Host`: a tenant that is not served has no state, and the refusal for this. For any other the contract of `run_packets`
-- of `SavableTenant` gives runs, refusal and births; no other state changes. So each tenant still has a history, as the invariant requires.
use Rattle.std.proofs.Common.{◌≡◌, ◌<◌, List, Option, None, length, set, refl, sym, ap, subst, ◌∙◌, arith}
use Rattle.std.specs.Prelude.{slice_get}
use Rattle.tenant.specs.Batch.{packets_in, inputs_of}
use Rattle.tenant.specs.State.{TenantState}
use Rattle.host_core.specs.Batch.{refusal_for, ChangesTenant}
use Rattle.host_core.specs.States.{HostState, host_state, states_in}
use Rattle.host_core.specs.inside.Reached.{AreReached}
use Rattle.host_core.proofs.Histories.{by_packets}
use Rattle.host_core.proofs.Heads.{no_state}
use Rattle.host_core.proofs.Tenants.{slice_get_in, states_length, state_there, others_stay, count_stays}
use Rattle.host_core.proofs.Tenants.{states_are, births_stay, runs_own, put_back, with_ok, with_err, by_result}
use Rattle.host_core.proofs.host.Host.run_packets.Goals as goal

-- ---- a tenant that is not served

pub returns-then-tenant-len-clause-refusal : goal.returns-then-tenant-len-clause-refusal
returns-then-tenant-len-clause-refusal c =
    let many = states_length c.self.inside.arena 0 c.self.inside.tenants.items in
    let unserved : slice_get c.args.self.now.states c.args.tenant ≡ None =
    no_state c.args.self.now.states c.args.tenant
    (omega (
      arith,
      many,
      ap length (states_are c.self.inside.arena c.self.inside.tenants.items c.args.self.now c.self.view_is),
      c.len.ensures,
      c.if-tenant-len.true,
    )) in
    sym (ap (λ (s : Option TenantState).
    refusal_for s c.args.fd (length c.args.contexts.now) (length c.args.bytes.now) c.args.ends.now
    (length c.args.results.now))
    unserved)

-- ---- a tenant that is served

pub returns-clause-runs : goal.returns-clause-runs
returns-clause-runs c =
    let ks = c.self.inside.tenants.items in
    let t = c.args.tenant in
    let room : t < length ks = omega (arith, c.if-tenant-len.false, c.len.ensures) in
    let found = slice_get_in ks t c.index_mut.result.now room c.index_mut.ensures.value in
    let own =
    runs_own c.self.inside.arena c.run_packets.new.arena ks c.args.self.now.states t c.args.fd
    c.index_mut.result.now c.run_packets.new.self c.args.results.now
    c.run_packets.new.results
    (inputs_of c.args.contexts.now (packets_in c.args.bytes.now c.args.ends.now)) (states_are c.self.inside.arena
    c.self.inside.tenants.items c.args.self.now c.self.view_is)
    room found in
    with_ok c.run_packets.result own c.run_packets.ensures.runs

pub returns-clause-refusal : goal.returns-clause-refusal
returns-clause-refusal c =
    let ks = c.self.inside.tenants.items in
    let t = c.args.tenant in
    let room : t < length ks = omega (arith, c.if-tenant-len.false, c.len.ensures) in
    let found = slice_get_in ks t c.index_mut.result.now room c.index_mut.ensures.value in
    let there =
    state_there c.self.inside.arena ks c.args.self.now.states t c.index_mut.result.now
    (states_are c.self.inside.arena c.self.inside.tenants.items c.args.self.now c.self.view_is)
    found in
    c.run_packets.ensures.refusal
    ∙ sym (ap (λ (s : Option TenantState).
    refusal_for s c.args.fd (length c.args.contexts.now) (length c.args.bytes.now) c.args.ends.now
    (length c.args.results.now))
    there)

pub returns-clause-unchanged : goal.returns-clause-unchanged
returns-clause-unchanged c =
    let ks = c.self.inside.tenants.items in
    let t = c.args.tenant in
    let room : t < length ks = omega (arith, c.if-tenant-len.false, c.len.ensures) in
    let found = slice_get_in ks t c.index_mut.result.now room c.index_mut.ensures.value in
    with_err c.run_packets.result
    (λ still. (
      put_back c.self.inside.arena c.run_packets.new.arena ks t c.index_mut.result.now
          c.run_packets.new.self found still.0 still.1
          ∙ c.self.view_is,
      still.2,
    ))
    c.run_packets.ensures.unchanged

pub returns-clause-tenant : goal.returns-clause-tenant
returns-clause-tenant c =
    let ks = c.self.inside.tenants.items in
    let t = c.args.tenant in record {
      others = λ other ne.
          others_stay c.self.inside.arena c.run_packets.new.arena ks t other c.run_packets.new.self
          ne (c.run_packets.ensures.others other ne)
          ∙ ap (λ (s : List TenantState). slice_get s other)
          (states_are c.self.inside.arena c.self.inside.tenants.items c.args.self.now c.self.view_is);
      count =
          count_stays c.self.inside.arena c.run_packets.new.arena ks t c.run_packets.new.self
          ∙ ap length (states_are c.self.inside.arena c.self.inside.tenants.items c.args.self.now c.self.view_is);
    }

pub returns-clause-births : goal.returns-clause-births
returns-clause-births c =
    let ks = c.self.inside.tenants.items in
    let t = c.args.tenant in
    let room : t < length ks = omega (arith, c.if-tenant-len.false, c.len.ensures) in
    let found = slice_get_in ks t c.index_mut.result.now room c.index_mut.ensures.value in
    births_stay ks t c.index_mut.result.now c.run_packets.new.self found c.run_packets.ensures.births
    ∙ ap (λ (h : HostState). h.births) c.self.view_is

-- each tenant still has a history
pub invariant_of-self : goal.invariant_of-self
invariant_of-self c =
    let ks = c.self.inside.tenants.items in
    let m = c.self.inside.arena in
    let n = c.run_packets.new.arena in
    let t = c.args.tenant in
    let k = c.index_mut.result.now in
    let l = c.run_packets.new.self in
    let room : t < length ks = omega (arith, c.if-tenant-len.false, c.len.ensures) in
    let found = slice_get_in ks t k room c.index_mut.ensures.value in
    let inputs = inputs_of c.args.contexts.now (packets_in c.args.bytes.now c.args.ends.now) in
    let changes : ChangesTenant t (states_in m ks) (states_in n (set ks t l)) = record {
      others = λ other ne. others_stay m n ks t other l ne (c.run_packets.ensures.others other ne);
      count = count_stays m n ks t l;
    } in (
      c.self.invariant.0,
      c.run_packets.ensures.parts ∙ c.self.invariant.1,
      c.run_packets.ensures.part ∙ c.self.invariant.2,
      by_result (AreReached (host_state n (set ks t l))) c.run_packets.result
          (λ runs.
          by_packets (host_state m ks) (host_state n (set ks t l)) t c.args.fd inputs
          c.args.results.now c.run_packets.new.results c.self.invariant.3
          (runs_own m n ks (states_in m ks) t c.args.fd k l c.args.results.now
          c.run_packets.new.results inputs refl room found runs)
          changes
          (births_stay ks t k l found c.run_packets.ensures.births))
          (λ still. subst AreReached (sym (put_back m n ks t k l found still.0 still.1)) c.self.invariant.3)
          c.run_packets.ensures.runs c.run_packets.ensures.unchanged,
    )
