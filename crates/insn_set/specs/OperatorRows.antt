-- The operator with a code and the offset field 0, and the one with a symbol, by the table of the
-- code; the second undoes `alu_symbol`. RFC 9669, section 4.1; the symbols are this project's own.
use Rattle.std.specs.Prelude.{ℕ, List, Option, map}
use Rattle.words.specs.declared.operator.AluOp.{AluOp}
use Rattle.insn_set.specs.declared.operator.TheConstants.{OPERATORS}
use Rattle.insn_set.specs.Table.{Row, by_number, by_symbol}

-- the rows of `OPERATORS`, as definitions read them: each operator, its code and its symbol
abbrev pub alu_rows : List (Row AluOp)
alu_rows = map (λ row. (row.0, row.1, row.2.now)) OPERATORS

-- the first operator with this code, the unsigned one of two; None if no operator has it
abbrev pub alu_by_number : ℕ → Option AluOp
alu_by_number n = by_number alu_rows n

-- the operator with this symbol, if there is one
abbrev pub alu_by_symbol : List ℕ → Option AluOp
alu_by_symbol s = by_symbol alu_rows s
