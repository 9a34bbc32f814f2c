-- The list of the descriptors that a program loads, after one more. This project's own.
use Rattle.std.specs.Prelude.{ℕ, ◌==◌, if◌then◌else◌, List, [], ◌∷◌, ◌++◌, Option, None, Some}
use Rattle.std.specs.List.{list_any}

-- the list `known` with one more descriptor at the end; unchanged if it has this already, or if
-- there is none to add (None)
abbrev pub with_descriptor : List ℕ → Option ℕ → List ℕ
with_descriptor known None = known
with_descriptor known (Some fd) =
    if list_any (λ other. other == fd) known then known else known ++ fd ∷ []
