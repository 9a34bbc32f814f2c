-- `accepted`: each map that the program loads has a shape, by the law `loaded_maps_have_shapes`, and the only open descriptor names a map
-- of the given shape (`loaded_shape`).
use Rattle.std.proofs.Common.{[]}
use Rattle.cases_maps.proofs.Shapes.{loaded_shape}
use Rattle.cases_maps.proofs.test_run.accepted.Goals as goal

pub returns : goal.returns
returns c =
    loaded_shape 3 c.args.shape c.loaded_maps_have_shapes.ensures
    (record { code = c.in_ok-program.program; objects = [] })
    c.in_ok-verified.verified
    c.in_ok-verified.ensures.accepted
