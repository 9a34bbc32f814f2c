-- Keys that an index of longer keys returns, borrowed from it. This project's own.
use Rattle.std.specs.Prelude.{ℕ, List}
use Rattle.std.specs.Borrow.{Bor}

-- the bytes of a borrowed key: those that the borrow refers to now
abbrev pub lent_key : Bor (List ℕ) → List ℕ
lent_key key = key.now
