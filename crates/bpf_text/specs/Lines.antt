-- The lines of a text. This project's own.
use Rattle.std.specs.Prelude.{ℕ, ◌==◌, List}
use Rattle.std.specs.List.{slice_split}

-- A line feed ends a line. What follows the last one is a line too, an empty one if nothing does.
abbrev pub text_lines : List ℕ → List (List ℕ)
text_lines text = slice_split (λ b. b == 10) text
