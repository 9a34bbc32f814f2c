-- `free_index`: the index is that of the first free entry, by cases of whether a bit is 0: a bit is 0 exactly if its entry is free, so
-- the lowest 0 is at the first free entry; if there is no 0, no entry is free.
use Rattle.std.proofs.Common.{arith}
use Rattle.fd_table.proofs.TakenBits.{some_free, none_free}
use Rattle.fd_table.proofs.table.FdTable.free_index.Goals as goal

pub returns-then-index-lt-MOST-clause-value : goal.returns-then-index-lt-MOST-clause-value
returns-then-index-lt-MOST-clause-value g c =
    let table = c.self.inside in
    some_free table.taken c.trailing_ones-index.result table.entries.items c.args.self.now
    c.self.view_is (omega arith) (omega arith) c.self.invariant.1
    c.trailing_ones-index.ensures c.if-index-lt-MOST.true

pub returns-else-index-lt-MOST-clause-value : goal.returns-else-index-lt-MOST-clause-value
returns-else-index-lt-MOST-clause-value g c =
    let table = c.self.inside in
    none_free table.taken c.trailing_ones-index.result table.entries.items c.args.self.now
    c.self.view_is (omega arith) (omega arith) c.self.invariant.1
    c.trailing_ones-index.ensures c.if-index-lt-MOST.false
