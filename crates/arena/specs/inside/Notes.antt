-- The trace of a run after one more step or address range. This project's own.
use Rattle.std.specs.Prelude.{ℕ, ◌+◌, List, [], ◌∷◌, ◌++◌}
use Rattle.arena.specs.declared.trace.Note.{Note}
use Rattle.arena.specs.declared.trace.Note.TheVariants.{Step, Range}

-- the steps and ranges `done` after one more note: a step is counted, or a range appended
abbrev pub noted : ℕ × List (ℕ × ℕ) → Note → ℕ × List (ℕ × ℕ)
noted done Step = (done.0 + 1, done.1)
noted done (Range address length) = (done.0, done.1 ++ (address, length) ∷ [])
