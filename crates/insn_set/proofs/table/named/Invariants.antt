-- No row so far has the name: a search of all rows has the result of a search of the rows that are left.
use Rattle.std.proofs.Common.{◌≡◌, drop}
use Rattle.insn_set.specs.Table.{names, named}
use Rattle.insn_set.proofs.table.named.Given as goal

abbrev pub invariant-loop-row : goal.invariant-loop-row
invariant-loop-row g l = named (names l.rows) l.name ≡ named (names (drop l.row-index l.rows)) l.name
