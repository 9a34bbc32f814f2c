-- `clear` of `OrderedMap`: after both calls of `clear` the table has no entry and the order no element, so they agree; by the first call's
-- contract the table loses no capacity, so it still has room for all entries.
use Rattle.std.proofs.Common.{ap, arith}
use Rattle.ordered_keys.specs.inside.Ordered.{in_order}
use Rattle.ordered_keys.proofs.Tables.{indexed_cleared}
use Rattle.ordered_keys.proofs.ordered_map.OrderedMap.clear.Goals as goal

pub invariant_of-self : goal.invariant_of-self
invariant_of-self g c =
    let m = c.self.inside in
    let bound = c.clear-2.ensures.bound in
    record {
      indexed =
          indexed_cleared c.clear.new.self.entries m.indices.items c.clear-2.new.self
          c.clear.ensures.empty c.clear-2.ensures.elements
          (let long = c.self.invariant.indexed.long in omega arith)
          (let small = c.self.invariant.indexed.small in omega arith);
      room =
          let cap = c.clear.ensures.capacity in
          let none = c.clear.ensures.len in
          let room = c.self.invariant.room in
          omega arith;
      empty = c.self.invariant.empty;
      buffer = let room = c.self.invariant.buffer in omega arith;
    }

pub returns-clause-entries : goal.returns-clause-entries
returns-clause-entries g c =
    ap (in_order c.clear.new.self.entries c.self.inside.indices.items) c.clear-2.ensures.elements
