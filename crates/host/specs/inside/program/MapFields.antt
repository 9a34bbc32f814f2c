-- The fields of a map argument, and the failure for a wrong one. This project's own.
use Rattle.std.specs.Prelude.{◌≡◌, ℕ, ◌==◌, List}
use Rattle.std.specs.List.{slice_split}
use Rattle.clap.specs.Words.{Text}
use Rattle.host.specs.declared.program.failure.Failure.{Failure}
use Rattle.host.specs.declared.program.failure.Failure.TheVariants.{MapArgument}
use Rattle.host.specs.program.Shapes.{colon, IsFirstWrongArgument}

-- the fields of a text, separated by colons
abbrev pub map_fields : Text → List Text
map_fields text = slice_split (λ b. b == colon) text

-- the failure names the first wrong map argument by its number, from 1
abbrev pub IsWrongMapArgument : List Text → Failure → Type 0
IsWrongMapArgument arguments failure =
    (number : ℕ) × IsFirstWrongArgument arguments number × (failure ≡ MapArgument number)
