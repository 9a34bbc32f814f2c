-- An object is opened: after its entry is taken and the entry's bit is set, each bit still says whether its descriptor is open, and the
-- number of entries is unchanged.
use Rattle.std.proofs.Common.{arith}
use Rattle.fd_table.proofs.TakenBits.{taken_more}
use Rattle.fd_table.proofs.table.FdTable.place.Goals as goal

pub invariant_of-self : goal.invariant_of-self
invariant_of-self g c =
    let table = c.self.inside in (
      c.self.invariant.0,
      taken_more table.taken table.entries.items c.in-Some.index c.args.object (omega arith)
          (omega (arith, c.in-Some.ensures.bound)) c.self.invariant.1,
    )
