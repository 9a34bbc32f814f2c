-- What a read or a write does: which bytes it moves, and whether it fails. This project's own.
use Rattle.std.specs.Prelude.{ℕ, List, length, Option, ◌==◌, ◌&&◌, not, if◌then◌else◌}
use Rattle.std.specs.Io.KnownBytes.{Consumes}
use Rattle.std.specs.declared.result.Result.{Result}
use Rattle.std.specs.declared.result.Result.TheVariants.{Ok, Err}

-- exactly these bytes were read between the states `old` and `new` of a reader; `remaining` gives
-- the bytes that it has left, and if they are not known, nothing is claimed
abbrev pub Takes : {R : Type 0} → (R → Option (List ℕ)) → R → R → List ℕ → Type 0
Takes remaining old new bytes = Consumes (remaining old) (remaining new) bytes

-- ---- how many calls failed

-- by how much a read with this result increases the number of failed calls of its reader: 1 if the
-- result is an error, 0 if n bytes were read. A read of 0 bytes is no failure: the input has ended,
-- or the buffer is empty
abbrev pub read_failures : {E : Type 0} → Result ℕ E → ℕ
read_failures (Ok n) = 0
read_failures (Err e) = 1

-- what a write adds to the number of failed writes, 1 if it counts as failed, else 0: `bytes` is
-- what it is given to write, and its result the number n of bytes written (Ok), or an error (Err).
-- It counts as failed if it writes no byte although `bytes` is not empty, and if it returns an
-- error, since both end a stream; if `bytes` is empty, n = 0 is no failure
abbrev pub write_failures : {E : Type 0} → Result ℕ E → List ℕ → ℕ
write_failures (Ok n) bytes = if n == 0 && not (length bytes == 0) then 1 else 0
write_failures (Err e) bytes = 1

-- the number that a flush adds to the count of its writer's failed calls, by the flush's result: 0
-- if it succeeded (Ok, with any value), 1 if it failed (Err, with any error)
abbrev pub flush_failures : {E T : Type 0} → Result T E → ℕ
flush_failures (Ok x) = 0
flush_failures (Err e) = 1
