-- `create` of `Tenant`: reply and state are the machine's, and the tenant is still well formed, by cases of the contract of `Maps::create`.
-- A new map has the lowest free handle and, by `open`, the lowest free descriptor; an error means that there is no room, or that memory is
-- refused, and changes at most the flag.
use Rattle.std.proofs.Common.{ℕ, false, List, Option, Ok, sym, ap, ap₂, subst, ◌∙◌}
use Rattle.bpf_maps.specs.Live.{create_fault}
use Rattle.tenant.specs.declared.object.OpenObject.{OpenObject}
use Rattle.tenant.specs.declared.errno.Errno.{Errno}
use Rattle.tenant.specs.Kept.{KeptTenant, IsWellFormedTenant, state_in}
use Rattle.tenant.specs.Machine.{opens, refuses, created}
use Rattle.tenant.proofs.StillKept.{kept_in, with_live, with_both}
use Rattle.tenant.proofs.Creates.{created_ok, created_kept, state_created, created_is, create_refused, refused_kept}
use Rattle.tenant.proofs.Opened.{some_lowest}
use Rattle.tenant.proofs.tenant.Tenant.create.Goals as goal

pub invariant_of-self-in-Err : goal.invariant_of-self-in-Err
invariant_of-self-in-Err c =
    let k = kept_in c.self.inside in
    refused_kept k c.create.new.self c.in_ok-shape.shape c.in-Err.fault c.self.invariant c.in-Err.ensures.created

pub returns-in-Err-clause-answer : goal.returns-in-Err-clause-answer
returns-in-Err-clause-answer c =
    let k = kept_in c.self.inside in
    let (fd, low) = some_lowest k.objects (sym c.is_full.ensures ∙ c.if-is_full.false) in
    let (refused, is) =
    create_refused c.args.part.now k c.create.new.self c.in_ok-shape.shape c.in-Err.fault
    c.self.invariant.maps c.maps_are_laid.ensures.maps low
    c.in-Err.ensures.created in (
      refused,
      ap₂ (λ (errno : Errno) (part : List ℕ). refuses errno (state_in part (with_live k c.create.new.self)))
          c.of_map.ensures.errno c.in-Err.ensures.unchanged
          ∙ is
          ∙ ap (λ (old : KeptTenant). created refused (state_in c.args.part.now old) (Ok c.in_ok-shape.shape))
          c.self.view_is
          ∙ ap (created refused (state_in c.args.part.now c.args.self.now)) c.in_ok-shape.ensures.shape,
    )

pub invariant_of-self : goal.invariant_of-self
invariant_of-self c =
    let k = kept_in c.self.inside in
    let t = c.create.new.self in
    let m = c.in-Ok.map in
    let shape = c.in_ok-shape.shape in
    let (room, made) = created_ok (create_fault k.live shape) k.live shape m t c.in-Ok.ensures.created in
    subst (λ (os : List (Option OpenObject)). IsWellFormedTenant (with_both k os t)) (sym c.open.ensures.opened)
    (created_kept c.self.invariant c.maps_are_laid.ensures.maps c.open.ensures.lowest made)

pub returns-in-Ok-clause-answer : goal.returns-in-Ok-clause-answer
returns-in-Ok-clause-answer c =
    let k = kept_in c.self.inside in
    let t = c.create.new.self in
    let e = c.in-Ok.ensures in
    let fd = c.open.result in
    let m = c.in-Ok.map in
    let part = c.args.part.now in
    let later = c.create.new.part in
    let shape = c.in_ok-shape.shape in
    let all = c.maps_are_laid.ensures.maps in
    let (room, made) = created_ok (create_fault k.live shape) k.live shape m t e.created in (
      false,
      ap (λ (os : List (Option OpenObject)). opens fd (state_in later (with_both k os t))) c.open.ensures.opened
          ∙ ap (opens fd) (state_created part later k fd all made e.fresh e.maps)
          ∙ sym (created_is false part k shape c.self.invariant.maps all c.open.ensures.lowest room made.lowest)
          ∙ ap (λ (old : KeptTenant). created false (state_in part old) (Ok shape)) c.self.view_is
          ∙ ap (created false (state_in part c.args.self.now)) c.in_ok-shape.ensures.shape,
    )
