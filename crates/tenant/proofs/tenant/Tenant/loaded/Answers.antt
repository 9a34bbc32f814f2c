-- `loaded` of `Tenant`: the loaded program is the machine's. By the law `loaded_maps_have_shapes` `maps_named` finds for each of its
-- descriptors the handle of a live map of the shape that was accepted; by `maps_are_listed` none is twice.
use Rattle.std.proofs.Common.{◌≡◌, ℕ, List, [], length, sym, ap, ap₂, subst, ◌∙◌}
use Rattle.verifier.specs.Maps.{maps_of, objects_at}
use Rattle.tenant.specs.Kept.{KeptTenant, IsWellFormedTenant, IsBound, state_in}
use Rattle.tenant.specs.inside.Loading.{AreLive}
use Rattle.tenant.specs.Machine.{loaded_program, handles_from, targets}
use Rattle.tenant.proofs.LoadingBound.{loaded_is, loaded_bound, loaded_live, loaded_count, loaded_pairs}
use Rattle.tenant.proofs.LoadingHandles.{seconds}
use Rattle.tenant.specs.Loaded.{LoadedProgram, map_handles}
use Rattle.std.specs.List.{zip}
use Rattle.tenant.proofs.tenant.Tenant.loaded.Goals as goal

pub new-requires : goal.new-requires
new-requires c =
    let k = c.args.self.now in
    let insns = c.args.program.code in
    let maps : c.in_ok-maps.maps.items ≡ seconds (handles_from k.objects (maps_of insns)) =
    c.in_ok-maps.ensures
    ∙ ap₂ (λ os fds. seconds (handles_from os fds))
    (ap (λ (k : KeptTenant). k.objects) c.self.view_is)
    c.maps.ensures in
    ap length maps ∙ loaded_count c.loaded_maps_have_shapes.ensures k [] insns (c.requires.accepted [])

module _ (c : goal.After-new) where
  kept : IsWellFormedTenant c.args.self.now
  kept = subst (λ (k : KeptTenant). IsWellFormedTenant k) c.self.view_is c.self.invariant

  -- the program is the one in the machine's state
  same_program : (part : List ℕ) → c.new.result ≡ loaded_program (state_in part c.args.self.now) c.args.program.code
  same_program part =
      let k = c.args.self.now in
      let insns = c.args.program.code in
      let maps : c.in_ok-maps.maps.items ≡ seconds (handles_from k.objects (maps_of insns)) =
      c.in_ok-maps.ensures
      ∙ ap₂ (λ os fds. seconds (handles_from os fds))
      (ap (λ (k : KeptTenant). k.objects) c.self.view_is)
      c.maps.ensures in
      loaded_is c.new.result insns
      (objects_at (maps_of insns) (targets (state_in part k)))
      (handles_from k.objects (maps_of insns)) c.new.ensures.insns
      (c.new.ensures.named ∙ c.requires.objects part)
      (c.new.ensures.maps
      ∙ ap (zip (maps_of insns)) maps
      ∙ loaded_pairs c.loaded_maps_have_shapes.ensures k part insns (c.requires.accepted part))

pub returns-clause-found : goal.returns-clause-found
returns-clause-found c = λ part.
    same_program c part ∙ ap (loaded_program (state_in part c.args.self.now)) (sym c.new.ensures.insns)

pub returns-clause-bound : goal.returns-clause-bound
returns-clause-bound c =
    subst (IsBound c.args.self.now.live) (sym (same_program c []))
    (loaded_bound c.loaded_maps_have_shapes.ensures c.args.self.now [] c.args.program.code
    (c.requires.accepted []) c.maps_are_listed.ensures (kept c))

pub returns-clause-there : goal.returns-clause-there
returns-clause-there c =
    subst (λ (l : LoadedProgram). AreLive c.args.self.now.live (map_handles l))
    (sym (same_program c []))
    (loaded_live (kept c) (maps_of c.args.program.code))
