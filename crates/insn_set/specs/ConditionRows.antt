-- The condition with a number, and the one with a symbol, by the table of the code; they undo
-- `condition_number` and `condition_symbol`. RFC 9669, section 4.3; the symbols are this project's
-- own.
use Rattle.std.specs.Prelude.{ℕ, List, Option, map}
use Rattle.words.specs.declared.operator.Condition.{Condition}
use Rattle.insn_set.specs.declared.condition.TheConstants.{CONDITIONS}
use Rattle.insn_set.specs.Table.{Row, by_number, by_symbol}

-- the rows of `CONDITIONS`, as definitions read them: each condition, its code and its symbol
abbrev pub condition_rows : List (Row Condition)
condition_rows = map (λ row. (row.0, row.1, row.2.now)) CONDITIONS

-- the condition with this code, if there is one
abbrev pub condition_by_number : ℕ → Option Condition
condition_by_number n = by_number condition_rows n

-- the condition with this symbol, if there is one
abbrev pub condition_by_symbol : List ℕ → Option Condition
condition_by_symbol s = by_symbol condition_rows s
