-- `handle` of `Host`: the owner of a frame without a head, or of a tenant that is not served, has no state; the reply is that of the
-- definition, and nothing changes. Any other frame changes only the state and the births of its tenant, by the contract of `handle` of
-- `SavableTenant`. So each tenant still has a history, as the invariant requires.
use Rattle.std.proofs.Common.{◌≡◌, ◌<◌, List, [], length, Some, None, refl, set, sym, ap, ◌∙◌, arith, to_z, of_z, w32}
use Rattle.std.specs.Prelude.{ℤ, slice_get}
use Rattle.arena.specs.Memory.{part_bytes}
use Rattle.command_frames.specs.Frame.{head_of, owner, reply_bytes, reply_to}
use Rattle.tenant.specs.Alone.{unserved_errno}
use Rattle.tenant.specs.Errno.{status_of}
use Rattle.saving.specs.Recorded.{tenant_state}
use Rattle.tenant.specs.State.{TenantState}
use Rattle.host_core.specs.Handled.{Handles}
use Rattle.host_core.specs.States.{host_state, states_in}
use Rattle.host_core.proofs.Histories.{by_handle}
use Rattle.host_core.proofs.Faults.{served_is_no_fault, refusal_is_no_fault}
use Rattle.host_core.proofs.Heads.{owner_is, no_head, no_state, refused_headless, refused_headed}
use Rattle.host_core.proofs.Tenants.{slice_get_in, states_length, others_stay, count_stays, states_are, tells_own, tells_none, records_none, records_own}
use Rattle.host_core.proofs.host.Host.handle.Goals as goal

-- ---- a frame without a head

module _ (c : goal.After-write_reply) where
  headless : head_of c.args.frame.now ≡ None
  headless = sym c.head.ensures ∙ c.in_default.is

  seen_headless : c.write_reply.new.reply ≡ reply_to c.args.frame.now (status_of (unserved_errno c.args.frame.now)) []
  seen_headless =
      c.write_reply.ensures
      ∙ ap (λ (status : ℤ). reply_bytes 65535 65535 (to_z w32 (of_z w32 status)) []) c.status.ensures
      ∙ refused_headless c.args.frame.now headless

pub returns-in_default-clause-own : goal.returns-in_default-clause-own
returns-in_default-clause-own c =
    let frame = c.args.frame.now in
    let many = states_length c.self.inside.arena 0 c.self.inside.tenants.items in
    let unserved =
    no_state c.args.self.now.states (owner frame)
    (omega (
      arith,
      no_head frame (headless c),
      many,
      ap length (states_are c.self.inside.arena c.self.inside.tenants.items c.args.self.now c.self.view_is),
      c.self.invariant,
    )) in
    tells_none c.args.self.now.states (owner frame) frame c.write_reply.new.reply unserved (seen_headless c)

pub returns-in_default-clause-recorded : goal.returns-in_default-clause-recorded
returns-in_default-clause-recorded c =
    let frame = c.args.frame.now in
    let many = states_length c.self.inside.arena 0 c.self.inside.tenants.items in
    records_none c.args.self.now frame c.write_reply.new.reply
    (no_state c.args.self.now.states (owner frame)
    (omega (
      arith,
      no_head frame (headless c),
      many,
      ap length (states_are c.self.inside.arena c.self.inside.tenants.items c.args.self.now c.self.view_is),
      c.self.invariant,
    )))

pub returns-in_default-clause-no_fault : goal.returns-in_default-clause-no_fault
returns-in_default-clause-no_fault c = refusal_is_no_fault c.args.frame.now c.write_reply.new.reply (seen_headless c)

-- ---- a tenant that is not served

module _ (c : goal.After-write_reply-then-tenant-served) where
  found : head_of c.args.frame.now ≡ Some c.in-Some.head
  found = sym c.head.ensures ∙ c.in-Some.is

  seen_unserved : c.write_reply-then-tenant-served.new.reply
      ≡ reply_to c.args.frame.now (status_of (unserved_errno c.args.frame.now)) []
  seen_unserved =
      let head = c.in-Some.head in
      c.write_reply-then-tenant-served.ensures
      ∙ ap (λ (status : ℤ). reply_bytes head.tenant head.command (to_z w32 (of_z w32 status)) [])
      c.status-then-tenant-served.ensures
      ∙ refused_headed c.args.frame.now head found

pub returns-then-tenant-served-clause-own : goal.returns-then-tenant-served-clause-own
returns-then-tenant-served-clause-own c =
    let frame = c.args.frame.now in
    let many = states_length c.self.inside.arena 0 c.self.inside.tenants.items in
    let unserved =
    no_state c.args.self.now.states (owner frame)
    (omega (
      arith,
      owner_is frame c.in-Some.head (found c),
      c.from-tenant.ensures,
      many,
      ap length (states_are c.self.inside.arena c.self.inside.tenants.items c.args.self.now c.self.view_is),
      c.len-served.ensures,
      c.if-tenant-served.true,
    )) in
    tells_none c.args.self.now.states (owner frame) frame c.write_reply-then-tenant-served.new.reply
    unserved (seen_unserved c)

pub returns-then-tenant-served-clause-recorded : goal.returns-then-tenant-served-clause-recorded
returns-then-tenant-served-clause-recorded c =
    let frame = c.args.frame.now in
    let many = states_length c.self.inside.arena 0 c.self.inside.tenants.items in
    records_none c.args.self.now frame c.write_reply-then-tenant-served.new.reply
    (no_state c.args.self.now.states (owner frame)
    (omega (
      arith,
      owner_is frame c.in-Some.head (found c),
      c.from-tenant.ensures,
      many,
      ap length (states_are c.self.inside.arena c.self.inside.tenants.items c.args.self.now c.self.view_is),
      c.len-served.ensures,
      c.if-tenant-served.true,
    )))

pub returns-then-tenant-served-clause-no_fault : goal.returns-then-tenant-served-clause-no_fault
returns-then-tenant-served-clause-no_fault c =
    refusal_is_no_fault c.args.frame.now c.write_reply-then-tenant-served.new.reply (seen_unserved c)

-- ---- a tenant that is served

pub index_mut-requires : goal.index_mut-requires
index_mut-requires c = omega (arith, c.if-tenant-served.false, c.len-served.ensures)

pub handle-requires-clause-head : goal.handle-requires-clause-head
handle-requires-clause-head c = sym c.head.ensures ∙ c.in-Some.is

pub handle-requires-clause-part : goal.handle-requires-clause-part
handle-requires-clause-part c = (
  omega (arith, c.if-tenant-served.false, c.len-served.ensures, c.self.invariant),
  c.self.invariant.2,
)

pub returns-clause-own : goal.returns-clause-own
returns-clause-own c =
    let ks = c.self.inside.tenants.items in
    let t = c.from-tenant.result in
    let own = c.from-tenant.ensures ∙ owner_is c.args.frame.now c.in-Some.head (sym c.head.ensures ∙ c.in-Some.is) in
    let room : t < length ks = omega (arith, c.if-tenant-served.false, c.len-served.ensures) in
    let found = slice_get_in ks t c.index_mut.result.now room c.index_mut.ensures.value in
    tells_own c.self.inside.arena c.handle.new.arena ks c.args.self.now.states t
    (owner c.args.frame.now) c.index_mut.result.now c.handle.new.self
    c.args.frame.now c.handle.new.reply
    (states_are c.self.inside.arena c.self.inside.tenants.items c.args.self.now c.self.view_is)
    own room found c.handle.ensures.replied

pub returns-clause-others : goal.returns-clause-others
returns-clause-others c = λ other ne.
    let t = c.from-tenant.result in
    let own = c.from-tenant.ensures ∙ owner_is c.args.frame.now c.in-Some.head (sym c.head.ensures ∙ c.in-Some.is) in
    let apart = λ (e : other ≡ t). ne (e ∙ own) in
    others_stay c.self.inside.arena c.handle.new.arena c.self.inside.tenants.items t other
    c.handle.new.self apart (c.handle.ensures.others other apart)
    ∙ ap (λ (s : List TenantState). slice_get s other)
    (states_are c.self.inside.arena c.self.inside.tenants.items c.args.self.now c.self.view_is)

pub returns-clause-count : goal.returns-clause-count
returns-clause-count c =
    count_stays c.self.inside.arena c.handle.new.arena c.self.inside.tenants.items
    c.from-tenant.result c.handle.new.self
    ∙ ap length (states_are c.self.inside.arena c.self.inside.tenants.items c.args.self.now c.self.view_is)

pub returns-clause-recorded : goal.returns-clause-recorded
returns-clause-recorded c =
    let ks = c.self.inside.tenants.items in
    let t = c.from-tenant.result in
    let own = c.from-tenant.ensures ∙ owner_is c.args.frame.now c.in-Some.head (sym c.head.ensures ∙ c.in-Some.is) in
    let room : t < length ks = omega (arith, c.if-tenant-served.false, c.len-served.ensures) in
    let found = slice_get_in ks t c.index_mut.result.now room c.index_mut.ensures.value in
    records_own c.self.inside.arena c.handle.new.arena ks c.args.self.now t c.index_mut.result.now
    c.handle.new.self c.args.frame.now c.handle.new.reply
    c.self.view_is own room found c.handle.ensures.recorded

pub returns-clause-no_fault : goal.returns-clause-no_fault
returns-clause-no_fault c =
    let t = c.from-tenant.result in
    served_is_no_fault c.faults_have_no_payload.ensures c.args.frame.now c.handle.new.reply
    (Some (tenant_state (part_bytes c.self.inside.arena t) c.index_mut.result.now))
    (Some (tenant_state (part_bytes c.handle.new.arena t) c.handle.new.self))
    c.handle.ensures.replied c.handle.ensures.no_fault

-- each tenant still has a history
pub invariant_of-self : goal.invariant_of-self
invariant_of-self c =
    let ks = c.self.inside.tenants.items in
    let m = c.self.inside.arena in
    let n = c.handle.new.arena in
    let t = c.from-tenant.result in
    let frame = c.args.frame.now in
    let reply = c.handle.new.reply in
    let own = c.from-tenant.ensures ∙ owner_is frame c.in-Some.head (sym c.head.ensures ∙ c.in-Some.is) in
    let room : t < length ks = omega (arith, c.if-tenant-served.false, c.len-served.ensures) in
    let found = slice_get_in ks t c.index_mut.result.now room c.index_mut.ensures.value in
    let handles : Handles (states_in m ks) frame reply (states_in n (set ks t c.handle.new.self)) = record {
      own =
          tells_own m n ks (states_in m ks) t (owner frame) c.index_mut.result.now c.handle.new.self
          frame reply refl own room found c.handle.ensures.replied;
      others = λ other ne.
          let apart = λ (e : other ≡ t). ne (e ∙ own) in
          others_stay m n ks t other c.handle.new.self apart (c.handle.ensures.others other apart);
      count = count_stays m n ks t c.handle.new.self;
      no_fault =
          served_is_no_fault c.faults_have_no_payload.ensures frame reply
          (Some (tenant_state (part_bytes m t) c.index_mut.result.now))
          (Some (tenant_state (part_bytes n t) c.handle.new.self))
          c.handle.ensures.replied c.handle.ensures.no_fault;
    } in
    let records =
    records_own m n ks (host_state m ks) t c.index_mut.result.now c.handle.new.self frame reply refl
    own room found c.handle.ensures.recorded in (
      c.self.invariant.0,
      c.handle.ensures.parts ∙ c.self.invariant.1,
      c.handle.ensures.part ∙ c.self.invariant.2,
      by_handle (host_state m ks) (host_state n (set ks t c.handle.new.self)) frame reply
          c.self.invariant.3 handles records,
    )
