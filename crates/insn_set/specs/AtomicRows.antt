-- The atomic operation with a number, and the one with a symbol, by the table of the code; they
-- undo `atomic_number` and `atomic_symbol`. RFC 9669, section 5.3; the symbols are this project's
-- own.
use Rattle.std.specs.Prelude.{ℕ, List, Option, map}
use Rattle.insn_set.specs.declared.atomic.AtomicOp.{AtomicOp}
use Rattle.insn_set.specs.declared.atomic.TheConstants.{OPERATIONS}
use Rattle.insn_set.specs.Table.{Row, by_number, by_symbol}

-- the rows of `OPERATIONS`, as definitions read them: each operation, its immediate and its symbol
abbrev pub atomic_rows : List (Row AtomicOp)
atomic_rows = map (λ row. (row.0, row.1, row.2.now)) OPERATIONS

-- the atomic operation with this immediate, if there is one
abbrev pub atomic_by_number : ℕ → Option AtomicOp
atomic_by_number n = by_number atomic_rows n

-- the atomic operation with this symbol, if there is one
abbrev pub atomic_by_symbol : List ℕ → Option AtomicOp
atomic_by_symbol s = by_symbol atomic_rows s
