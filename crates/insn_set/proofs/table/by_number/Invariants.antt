-- No row so far has the number: a search of all rows has the result of a search of the rows that are left.
use Rattle.std.proofs.Common.{◌≡◌, drop}
use Rattle.insn_set.specs.Table.{shown, by_number}
use Rattle.insn_set.proofs.table.by_number.Given as goal

abbrev pub invariant-loop-row : goal.invariant-loop-row
invariant-loop-row g l = by_number (shown l.rows) l.number ≡ by_number (shown (drop l.row-index l.rows)) l.number
