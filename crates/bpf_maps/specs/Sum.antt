-- The sum of a number over the elements that are present. This project's own.
use Rattle.std.specs.Prelude.{ℕ, ◌+◌, List, [], ◌∷◌, Option}
use Rattle.std.specs.Option.{option_map_or}

-- the number that f gives for x if the option is Some x; 0 if it is None
abbrev pub weight : {A : Type 0} → (A → ℕ) → Option A → ℕ
weight f x = option_map_or f x 0

-- the sum of f x over all Some x in a list of options; None adds 0
unfoldable pub total : {A : Type 0} → (A → ℕ) → List (Option A) → ℕ
total f [] = 0
total f (x ∷ xs) = weight f x + total f xs
