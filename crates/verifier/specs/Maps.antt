-- The descriptors of the maps that a program loads, or of which it loads values, and the shapes of
-- these maps. This project's own.
use Rattle.std.specs.Prelude.{ℕ, Bool, ◌==◌, not, List, [], ◌∷◌}
use Rattle.std.specs.List.{list_any, filter, filter_map}
use Rattle.insn_set.specs.declared.insn.Insn.{Insn}
use Rattle.tagged_model.specs.declared.shape.Named.{Named}
use Rattle.tagged_model.specs.Named.{Shapes, shapes_named}
use Rattle.insn_set.specs.Flow.{descriptor}

-- the descriptors of a list other than fd
abbrev pub without : ℕ → List ℕ → List ℕ
without fd fds = filter (λ other. not (other == fd)) fds

-- the descriptors of a list, each once, in the order of first occurrence: 3, 5, 3 gives 3, 5. So
-- `maps_of` has a descriptor once, even if several instructions name it
unfoldable pub distinct : List ℕ → List ℕ
distinct [] = []
distinct (fd ∷ fds) = fd ∷ without fd (distinct fds)

-- the descriptors of all loads of maps and of values of maps, each once, in the order of their
-- first loads
abbrev pub maps_of : List Insn → List ℕ
maps_of code = distinct (filter_map descriptor code)

-- the descriptor is in the list
abbrev pub is_among : List ℕ → ℕ → Bool
is_among fds fd = list_any (λ other. other == fd) fds

-- those of the open descriptors, with their objects, that are in the list `fds`
abbrev pub objects_at : List ℕ → List Named → List Named
objects_at fds named = filter (λ n. is_among fds n.fd) named

-- the shapes of the maps that a program loads, or of which it loads values, by descriptor; None for
-- any other descriptor, and for one that names no map
abbrev pub shapes_of : List Insn → List Named → Shapes
shapes_of code named = shapes_named (objects_at (maps_of code) named)
