-- `open_program` of `Tenant`: by `open` and `hold_all` only the lowest free descriptor changes in the state, and the tenant is still well
-- formed. The references fit, since no object names a map twice.
use Rattle.std.proofs.Common.{◌≡◌, ℕ, ◌+◌, ◌<◌, List, Option, sym, ap, subst, ◌∙◌}
use Rattle.tenant.specs.declared.object.OpenObject.{OpenObject}
use Rattle.tenant.specs.Kept.{KeptTenant, IsWellFormedTenant, IsBound, times_listed, state_in}
use Rattle.tenant.specs.Loaded.{map_handles}
use Rattle.bpf_maps.specs.Live.{references_at}
use Rattle.tenant.specs.inside.Loading.{AreLive, with_program}
use Rattle.tenant.proofs.LoadingKept.{few_hold, opened_kept, state_opened}
use Rattle.tenant.proofs.StillKept.{kept_in, with_both}
use Rattle.tenant.proofs.tenant.Tenant.open_program.Goals as goal

pub hold_all-requires-clause-few : goal.hold_all-requires-clause-few
hold_all-requires-clause-few c = λ handle.
    let k = kept_in c.self.inside in
    let bound : IsBound k.live c.args.program =
    subst (λ (k : KeptTenant). IsBound k.live c.args.program) (sym c.self.view_is) c.requires.bound in
    subst (λ (ps : List ℕ). references_at k.live handle + times_listed handle ps < 4294967296)
    (sym c.maps.ensures) (few_hold c.self.invariant bound handle)

pub invariant_of-self : goal.invariant_of-self
invariant_of-self c =
    let k = kept_in c.self.inside in
    let l = c.args.program in
    let t = c.hold_all.new.maps in
    let bound : IsBound k.live l = subst (λ (k : KeptTenant). IsBound k.live l) (sym c.self.view_is) c.requires.bound in
    let holds : (q : ℕ) → references_at t q ≡ references_at k.live q + times_listed q (map_handles l) =
    λ q. c.hold_all.ensures.holds q ∙ ap (λ (ps : List ℕ). references_at k.live q + times_listed q ps) c.maps.ensures in
    subst (λ (os : List (Option OpenObject)). IsWellFormedTenant (with_both k os t)) (sym c.open.ensures.opened)
    (opened_kept c.self.invariant c.open.ensures.lowest bound c.hold_all.ensures.held holds)

pub returns-clause-opened : goal.returns-clause-opened
returns-clause-opened c = λ part.
    let k = kept_in c.self.inside in
    let l = c.args.program in
    let t = c.hold_all.new.maps in
    ap (λ (os : List (Option OpenObject)). state_in part (with_both k os t)) c.open.ensures.opened
    ∙ state_opened part k c.open.result l c.hold_all.ensures.held
    ∙ ap (λ (k : KeptTenant). with_program (state_in part k) c.open.result l) c.self.view_is

pub hold_all-requires-clause-live : goal.hold_all-requires-clause-live
hold_all-requires-clause-live c = c.self.invariant.maps

pub hold_all-requires-clause-there : goal.hold_all-requires-clause-there
hold_all-requires-clause-there c =
    let k = kept_in c.self.inside in
    subst (λ (ps : List ℕ). AreLive k.live ps) (sym c.maps.ensures)
    (subst (λ (k : KeptTenant). AreLive k.live (map_handles c.args.program)) (sym c.self.view_is) c.requires.there)
