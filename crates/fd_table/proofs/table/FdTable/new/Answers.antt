-- `new`: the type's invariant holds of a table with nothing open: it has all its entries, and each bit is 0, as each entry is free.
use Rattle.std.proofs.Common.{rules}
use Rattle.fd_table.proofs.TakenBits.{none_taken}
use Rattle.fd_table.proofs.table.FdTable.new.Goals as goal

pub invariant_of-result : goal.invariant_of-result
invariant_of-result g c = (
  search rules,
  none_taken g.row.T.Denot c.in_ok-free_entries.field-0.items c.in_ok-free_entries.ensures,
)
