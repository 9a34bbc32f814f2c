-- `map_of`: an argument that has fewer than five fields, or whose fields spell no shape or no descriptor, names no map; any other names
-- exactly the map of its shape and descriptor. By cases of the call that returns `None`.
use Rattle.std.proofs.Common.{sym}
use Rattle.host.proofs.MapArguments.{few_fields, no_descriptor, no_shape, none_named, one_named}
use Rattle.host.proofs.program.shapes.map_of.Goals as goal

pub returns-in_err-fd : goal.returns-in_err-fd
returns-in_err-fd c =
    none_named c.args.argument.now _ c.from_residual.ensures (few_fields c.args.argument.now c.in_err-fd.ensures.few)

pub returns-in_err-shape : goal.returns-in_err-shape
returns-in_err-shape c =
    let field = c.in_ok-fd in
    none_named c.args.argument.now _ c.from_residual-in_err-shape.ensures
    (no_shape c.args.argument.now field.fd.now field.kind.now field.key_size.now
    field.value_size.now field.max_entries.now field.ensures.parts
    c.in_err-shape.ensures.only)

pub returns-in_err-fd-2 : goal.returns-in_err-fd-2
returns-in_err-fd-2 c =
    let field = c.in_ok-fd in
    none_named c.args.argument.now _ c.from_residual-in_err-fd-2.ensures
    (no_descriptor c.args.argument.now field.fd.now field.kind.now field.key_size.now
    field.value_size.now field.max_entries.now field.ensures.parts
    (sym c.in_err-fd-2.ensures))

pub returns : goal.returns
returns c =
    let field = c.in_ok-fd in
    one_named c.args.argument.now field.fd.now field.kind.now field.key_size.now
    field.value_size.now field.max_entries.now c.in_ok-fd-2.fd
    c.in_ok-shape.shape
    field.ensures.parts c.in_ok-fd-2.ensures c.in_ok-shape.ensures.written
