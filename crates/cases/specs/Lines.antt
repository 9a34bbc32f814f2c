-- Lines of worked cases. This project's own.
use Rattle.std.specs.Prelude.{ℕ, ◌==◌, Bool, true, List, [], ◌∷◌}

-- whether a line, without its line end, is a remark, which is not played as a case: it is empty, or
-- its first byte is a number sign (35). A line with a blank before this sign is no remark
abbrev pub is_remark : List ℕ → Bool
is_remark [] = true
is_remark (first ∷ rest) = first == 35

-- a blank, which separates the words of a line
abbrev pub is_space : ℕ → Bool
is_space byte = byte == 32
