-- A part lent for writing. This project's own.
use Rattle.std.specs.Prelude.{ℕ, List}
use Rattle.std.specs.Borrow.{Lends, MutBor, Fml, Array, u8}
use Rattle.arena.specs.Memory.{Memory, with_part}
use Rattle.arena.specs.contracts.memory.Arena.{the_row}

-- r borrows part t of m: at the end of the borrow the part has the bytes that r has then, and all
-- other bytes are unchanged
abbrev pub LendsPart : MutBor Memory → ℕ → MutBor (List ℕ) → Fml
LendsPart m t r = Lends the_row (Array u8 0) m r (with_part m.now t)
