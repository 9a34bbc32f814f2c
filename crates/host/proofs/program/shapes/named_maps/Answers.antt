-- `named_maps`: if the next argument names a map with a new descriptor, the list with this map is named by the arguments so far. If
-- `further_map` returns `None`, the argument is the first wrong one, since those before it name the maps of the list.
use Rattle.std.proofs.Common.{◌≡◌, ◌∙◌, ap, sym, subst, refl, inr, false}
use Rattle.tagged_model.specs.declared.shape.Named.{Named}
use Rattle.host.specs.program.Shapes.{has_descriptor, AreMapArguments, IsMapArgument}
use Rattle.host.proofs.MapLists.{next_right, next_wrong}
use Rattle.host.proofs.program.shapes.named_maps.Goals as goal

pub returns-in_default-clause-wrong : goal.returns-in_default-clause-wrong
returns-in_default-clause-wrong c =
    inr (
      _,
      next_wrong c.args.arguments.now c.loop-index.index _ c.loop-index.maps.items
          c.loop-index-test.true c.loop-index.invariant
          (λ (m : Named) (is : IsMapArgument _ m).
          ap (has_descriptor m.fd) (sym c.deref.ensures.value) ∙ c.in_default.ensures.only m is),
      refl,
    )

pub loop-index-preserved : goal.loop-index-preserved
loop-index-preserved c =
    let absent : has_descriptor c.in-Some.map.fd c.loop-index.maps.items ≡ false =
    ap (has_descriptor c.in-Some.map.fd) (sym c.deref.ensures.value) ∙ c.in-Some.ensures.named.1 in
    subst (AreMapArguments _) (sym c.in_ok-push.ensures.items)
    (next_right c.args.arguments.now c.loop-index.index _ c.loop-index.maps.items c.in-Some.map
    c.loop-index-test.true c.loop-index.invariant c.in-Some.ensures.named.0
    absent)
