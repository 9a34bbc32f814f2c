-- `fits` of `Tenant`: a true result means that the program fits. A turn after which the loop continues found two shapes equal (`shape_at`,
-- `has_shape`); at the end the loop's invariant covers all descriptors of the program's maps.
use Rattle.std.proofs.Common.{◌≡◌, refl, sym, subst, ◌∙◌}
use Rattle.std.specs.List.{All}
use Rattle.std.proofs.lemmas.List.{take_all}
use Rattle.std.proofs.lemmas.List.Elements.{All-more}
use Rattle.tagged_model.specs.Named.{shapes_named}
use Rattle.verifier.specs.Verified.{shapes_in}
use Rattle.tenant.specs.Kept.{state_in}
use Rattle.tenant.specs.Machine.{targets}
use Rattle.tenant.proofs.tenant.Tenant.fits.Goals as goal

pub loop-fd-preserved : goal.loop-fd-preserved
loop-fd-preserved c = λ part.
    All-more (λ fd. shapes_named (targets (state_in part c.args.self.now)) fd ≡ shapes_in c.args.program.now fd)
    c.maps-fd-items.result.now c.loop-fd.fd-index 0 c.loop-fd-test.true
    (c.loop-fd.invariant part)
    (sym (c.shape_at.ensures part) ∙ c.has_shape.ensures.0 c.if-not-has_shape.false)

pub returns : goal.returns
returns c = λ part. (
  λ yes.
      subst (All (λ fd. shapes_named (targets (state_in part c.args.self.now)) fd ≡ shapes_in c.args.program.now fd))
      (take_all c.loop-fd.fd-index c.maps-fd-items.result.now c.loop-fd-test.false ∙ c.maps-fd-items.ensures)
      (c.loop-fd.invariant part),
  λ fits. refl,
)
