-- The load with an opcode, and the size with a name, by the table of the code; they undo
-- `load_opcode` and `size_name`. RFC 9669, sections 5.1 and 5.2; the names are this project's own.
use Rattle.std.specs.Prelude.{ℕ, Bool, List, Option, map}
use Rattle.words.specs.declared.stack.AccessSize.{AccessSize}
use Rattle.insn_set.specs.declared.load.TheConstants.{LOADS}
use Rattle.insn_set.specs.Table.{Row, by_number, by_symbol}

-- the rows of `LOADS`, as definitions read them: of each load, whether it extends the sign, with
-- its size; its opcode; the name of its size
abbrev pub load_rows : List (Row (Bool × AccessSize))
load_rows = map (λ row. (row.0, row.1, row.2.now)) LOADS

-- whether the load with this opcode extends the sign, and its size; None if no load has it
abbrev pub load_by_opcode : ℕ → Option (Bool × AccessSize)
load_by_opcode n = by_number load_rows n

-- by a size's name in a line of text: whether the access extends the sign, and the size; None if no
-- load has the name
abbrev pub load_by_name : List ℕ → Option (Bool × AccessSize)
load_by_name s = by_symbol load_rows s
