-- `install` of `Host`: for a tenant that is not served the status is that of the reply to a load. For any other the contract of `install`
-- of `SavableTenant` shows that the host changes as by the frame that loads the program, or not at all if the program is stale. In both
-- cases each tenant still has a history, as the invariant requires.
use Rattle.std.proofs.Common.{◌≡◌, ◌<◌, ◌^◌, ℕ, None, length, refl, set, sym, ap, subst, ◌∙◌, arith, w32, to_z, of_z, rules}
use Rattle.std.specs.Prelude.{ℤ, slice_get}
use Rattle.arena.specs.Memory.{part_bytes}
use Rattle.host_core.specs.Installs.{Installs, FitsTenant}
use Rattle.host_core.specs.States.{host_state}
use Rattle.host_core.specs.inside.Reached.{AreReached}
use Rattle.host_core.proofs.Heads.{no_state}
use Rattle.host_core.proofs.Installs.{cases_of, all_ok, with_error, installs_nowhere, fits_there, stale_there, installs_there, reached_there}
use Rattle.host_core.proofs.Tenants.{slice_get_in, states_length, states_are, put_back, with_ok}
use Rattle.host_core.proofs.host.Host.install.Goals as goal

-- ---- a tenant that is not served

pub returns-then-number-len-clause-loaded : goal.returns-then-number-len-clause-loaded
returns-then-number-len-clause-loaded c =
    let m = c.self.inside.arena in
    let ks = c.self.inside.tenants.items in
    let h = c.args.self.now in
    let many = states_length m 0 ks in
    let small : c.args.tenant < 2 ^ 16 = search rules in
    let unserved : slice_get h.states c.args.tenant ≡ None =
    no_state h.states c.args.tenant
    (omega (
      arith,
      many,
      ap length (states_are m ks h c.self.view_is),
      c.len.ensures,
      c.from-number.ensures,
      c.if-number-len.true,
    )) in
    installs_nowhere c.frames_have_owners.ensures h c.args.tenant small unserved
    c.args.program.value.code (to_z w32 (of_z w32 c.status.result))
    (ap (λ (z : ℤ). to_z w32 (of_z w32 z)) c.status.ensures)

-- ---- a tenant that is served

pub index_mut-requires : goal.index_mut-requires
index_mut-requires c = omega (arith, c.if-number-len.false, c.len.ensures)

pub returns-clause-loaded : goal.returns-clause-loaded
returns-clause-loaded c =
    let m = c.self.inside.arena in
    let ks = c.self.inside.tenants.items in
    let t = c.from-number.result in
    let k = c.index_mut.result.now in
    let l = c.install.new.self in
    let small : c.args.tenant < 2 ^ 16 = search rules in
    let low : t < 2 ^ 16 = omega (arith, small, c.from-number.ensures) in
    let room : t < length ks = omega (arith, c.if-number-len.false, c.len.ensures) in
    let found = slice_get_in ks t k room c.index_mut.ensures.value in
    all_ok c.install.result _ _ _ _
    (λ status replied recorded no_fault.
    subst (λ (n : ℕ). Installs n c.args.program.value.code status c.args.self.now (host_state m (set ks t l)))
    c.from-number.ensures
    (installs_there c.frames_have_owners.ensures c.faults_have_no_payload.ensures m ks
    c.args.self.now c.self.view_is t low room k l found
    c.args.program.value.code status
    (replied t (part_bytes m t)) (recorded t (part_bytes m t)) (no_fault t)))
    c.install.ensures.replied c.install.ensures.recorded c.install.ensures.no_fault

pub returns-clause-fits : goal.returns-clause-fits
returns-clause-fits c =
    let m = c.self.inside.arena in
    let ks = c.self.inside.tenants.items in
    let t = c.from-number.result in
    let k = c.index_mut.result.now in
    let room : t < length ks = omega (arith, c.if-number-len.false, c.len.ensures) in
    let found = slice_get_in ks t k room c.index_mut.ensures.value in
    with_ok c.install.result
    (λ fits.
    subst (λ (n : ℕ). FitsTenant c.args.program.value (slice_get c.args.self.now.states n))
    c.from-number.ensures
    (fits_there m ks c.args.self.now c.self.view_is t k found c.args.program.value fits))
    c.install.ensures.fits

pub returns-clause-stale : goal.returns-clause-stale
returns-clause-stale c =
    let m = c.self.inside.arena in
    let ks = c.self.inside.tenants.items in
    let t = c.from-number.result in
    let k = c.index_mut.result.now in
    let l = c.install.new.self in
    let room : t < length ks = omega (arith, c.if-number-len.false, c.len.ensures) in
    let found = slice_get_in ks t k room c.index_mut.ensures.value in
    with_error c.install.result _ _
    (λ kept stale. (
      stale.0,
      put_back m m ks t k l found stale.1 refl ∙ c.self.view_is,
      subst (λ (n : ℕ). ¬ FitsTenant c.args.program.value (slice_get c.args.self.now.states n))
          c.from-number.ensures
          (stale_there m ks c.args.self.now c.self.view_is t k found c.args.program.value stale.2),
    ))
    c.install.ensures.stale

-- each tenant still has a history
pub invariant_of-self : goal.invariant_of-self
invariant_of-self c =
    let m = c.self.inside.arena in
    let ks = c.self.inside.tenants.items in
    let t = c.from-number.result in
    let k = c.index_mut.result.now in
    let l = c.install.new.self in
    let small : c.args.tenant < 2 ^ 16 = search rules in
    let low : t < 2 ^ 16 = omega (arith, small, c.from-number.ensures) in
    let room : t < length ks = omega (arith, c.if-number-len.false, c.len.ensures) in
    let found = slice_get_in ks t k room c.index_mut.ensures.value in (
      c.self.invariant.0,
      c.self.invariant.1,
      c.self.invariant.2,
      cases_of (AreReached (host_state m (set ks t l))) c.install.result _ _ _ _
          (λ status replied recorded no_fault.
          reached_there c.frames_have_owners.ensures c.faults_have_no_payload.ensures m ks
          (host_state m ks) refl t low room k l found c.args.program.value.code
          status
          (replied t (part_bytes m t)) (recorded t (part_bytes m t)) (no_fault t) c.self.invariant.3)
          (λ kept stale. subst AreReached (sym (put_back m m ks t k l found stale.1 refl)) c.self.invariant.3)
          c.install.ensures.replied c.install.ensures.recorded c.install.ensures.no_fault c.install.ensures.stale,
    )
