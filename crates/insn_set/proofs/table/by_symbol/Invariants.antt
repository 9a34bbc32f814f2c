-- No row so far has the symbol: a search of all rows has the result of a search of the rows that are left.
use Rattle.std.proofs.Common.{◌≡◌, drop}
use Rattle.insn_set.specs.Table.{shown, by_symbol}
use Rattle.insn_set.proofs.table.by_symbol.Given as goal

abbrev pub invariant-loop-row : goal.invariant-loop-row
invariant-loop-row g l = by_symbol (shown l.rows) l.symbol ≡ by_symbol (shown (drop l.row-index l.rows)) l.symbol
