-- The objects that descriptors name. This project's own.
use Rattle.std.specs.Prelude.{ℕ, ◌==◌, if◌then◌else◌, List, [], ◌∷◌, Option, Some, None}
use Rattle.tagged_model.specs.declared.shape.MapShape.{MapShape}
use Rattle.tagged_model.specs.declared.shape.Target.{Target}
use Rattle.tagged_model.specs.declared.shape.Target.TheVariants as target
use Rattle.tagged_model.specs.declared.shape.Named.{Named}

-- what descriptor `fd` names: a map, with its shape, or a program. Each item of the list is an open
-- descriptor with what it names (`target`); the first item with descriptor `fd` counts. None if no
-- item has it
unfoldable pub target_of : List Named → ℕ → Option Target
target_of [] fd = None
target_of (n ∷ ns) fd = if n.fd == fd then Some n.target else target_of ns fd

-- the shape of the map that a descriptor names, from what it names: None if that is a program,
-- which has no such shape, or if the descriptor names no object (None)
abbrev pub shape_in : Option Target → Option MapShape
shape_in (Some (target.Map shape)) = Some shape
shape_in (Some target.Program) = None
shape_in None = None

-- the shapes of maps, by their descriptors; None for a descriptor that names no map
abbrev pub Shapes : Type 0
Shapes = ℕ → Option MapShape

-- the shapes of the maps that the descriptors of the list `named` name
abbrev pub shapes_named : List Named → Shapes
shapes_named named fd = shape_in (target_of named fd)
