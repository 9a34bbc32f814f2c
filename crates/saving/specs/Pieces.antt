-- A list in pieces. This project's own.
use Rattle.std.specs.Prelude.{ℕ, zero, suc, List, [], ◌∷◌, length, take, drop}

-- the first pieces of a list, at most `most` of them, each of `size` items; the last piece of the
-- list may have fewer. `most` counts down, so that the recursion ends
unfoldable pub first_pieces : {A : Type 0} → ℕ → ℕ → List A → List (List A)
first_pieces size zero xs = []
first_pieces size (suc most) [] = []
first_pieces size (suc most) (x ∷ xs) =
    take size (x ∷ xs) ∷ first_pieces size most (drop size (x ∷ xs))

-- a list in pieces of `size` items, if `size` is not 0; the last piece may have fewer, and the
-- empty list has no piece. There are no more pieces than items, so `length xs` bounds their number
abbrev pub pieces : {A : Type 0} → ℕ → List A → List (List A)
pieces size xs = first_pieces size (length xs) xs
