-- `close`: after the bit of the closed descriptor is cleared and its entry is `None`, each bit still says whether its descriptor is open.
use Rattle.std.proofs.Common.{arith}
use Rattle.fd_table.proofs.TakenBits.{left_free}
use Rattle.fd_table.proofs.table.FdTable.close.Goals as goal

pub invariant_of-self : goal.invariant_of-self
invariant_of-self g c =
    let table = c.self.inside in (
      c.self.invariant.0,
      left_free table.taken table.entries.items c.in-Some.index c.take.new.self (omega arith)
          (omega arith) c.self.invariant.1 c.take.ensures.after,
    )
