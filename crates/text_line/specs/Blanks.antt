-- Blanks. This project's own.
use Rattle.std.specs.Prelude.{ℕ, Bool, ◌||◌, ◌==◌, List, [], ◌∷◌, reverse, if◌then◌else◌}

-- a space, a tab or a carriage return
abbrev pub is_blank : ℕ → Bool
is_blank b = b == 32 || b == 9 || b == 13

-- the bytes without the blanks at their front: spaces, tabs and carriage returns (`is_blank`); none
-- if all are blanks
abbrev pub skip_blanks : List ℕ → List ℕ
skip_blanks [] = []
skip_blanks (b ∷ bs) = if is_blank b then skip_blanks bs else b ∷ bs

-- the bytes without the blanks at both ends; none if they are only blanks
abbrev pub stripped : List ℕ → List ℕ
stripped line = reverse (skip_blanks (reverse (skip_blanks line)))
