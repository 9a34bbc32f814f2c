-- `further_map`: by the contract of `read_shape` the argument names no map if it fails, and otherwise only the map that it returns. So if
-- one of `maps` has the descriptor of that map, this holds for every map that the argument names.
use Rattle.std.proofs.Common.{◌≡◌, ◌∙◌, ap, sym, subst, true, IfNone}
use Rattle.tagged_model.specs.declared.shape.Named.{Named}
use Rattle.host.specs.program.Shapes.{has_descriptor, IsMapArgument}
use Rattle.host.proofs.MapArguments.{none_read, one_read}
use Rattle.host.proofs.program.shapes.further_map.Goals as goal

pub returns-in_err-map-clause-only : goal.returns-in_err-map-clause-only
returns-in_err-map-clause-only c =
    subst (λ o.
    IfNone o ((map : Named) → IsMapArgument c.args.argument.now map → has_descriptor map.fd c.args.maps.now ≡ true))
    (sym c.from_residual.ensures)
    (λ map is. absurd (none_read c.read_shape.result map c.in_err-map.ensures.value ((c.read_shape.ensures map).1 is)))

pub returns-then-has_descriptor-clause-only : goal.returns-then-has_descriptor-clause-only
returns-then-has_descriptor-clause-only c = λ map is.
    let same =
    one_read c.read_shape.result c.in_ok-map.map map c.in_ok-map.ensures.value ((c.read_shape.ensures map).1 is) in
    ap (λ (m : Named). has_descriptor m.fd c.args.maps.now) (sym same) ∙ (sym c.has_descriptor.ensures ∙ c.if-has_descriptor.true)
