-- `asked_shape`: the shape that `MapShape::new` makes is that of the machine, since its fields determine it; the contract of `map_kind`
-- gives the kind.
use Rattle.std.proofs.Common.{Option, sym, ap, ◌∙◌}
use Rattle.tagged_model.specs.declared.shape.MapKind.{MapKind}
use Rattle.tenant.specs.Machine.{asked_shape}
use Rattle.tenant.proofs.Shapes.{shape_ok}
use Rattle.tenant.proofs.shape.asked_shape.Goals as goal

pub returns-in-Ok-clause-shape : goal.returns-in-Ok-clause-shape
returns-in-Ok-clause-shape c =
    shape_ok c.in-Some.kind c.args.key_size c.args.value_size c.args.max_entries c.args.flags
    c.in-Ok.shape c.in-Ok.ensures.listed c.in-Ok.ensures.made
    ∙ ap (λ (kind : Option MapKind). asked_shape kind c.args.key_size c.args.value_size c.args.max_entries c.args.flags)
    (sym c.in-Some.is ∙ c.map_kind.ensures)
