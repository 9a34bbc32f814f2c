-- `fits` of `Verified`: by the contracts of `shape_of` and `has_shape` one more map has its old shape in each turn; at the end all have.
use Rattle.std.proofs.Common.{◌≡◌, refl, sym, subst, ◌∙◌}
use Rattle.std.specs.List.{All}
use Rattle.std.proofs.lemmas.List.{take_all}
use Rattle.std.proofs.lemmas.List.Elements.{All-more}
use Rattle.tagged_model.specs.Named.{shapes_named}
use Rattle.verifier.specs.Verified.{shapes_in}
use Rattle.verifier.proofs.verified.Verified.fits.Goals as goal

pub loop-fd-preserved : goal.loop-fd-preserved
loop-fd-preserved c =
    All-more (λ fd. shapes_named c.args.named.now fd ≡ shapes_in c.args.self.now fd)
    c.maps-fd-items.result.now c.loop-fd.fd-index 0 c.loop-fd-test.true
    c.loop-fd.invariant
    (sym c.shape_of.ensures ∙ c.has_shape.ensures.0 c.if-not-has_shape.false)

pub returns : goal.returns
returns c = (
  λ yes.
      subst (All (λ fd. shapes_named c.args.named.now fd ≡ shapes_in c.args.self.now fd))
      (take_all c.loop-fd.fd-index c.maps-fd-items.result.now c.loop-fd-test.false ∙ c.maps-fd-items.ensures)
      c.loop-fd.invariant,
  λ fits. refl,
)
