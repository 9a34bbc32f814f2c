-- The table has its old entries and then the first `index` rows, and has lost room for at most as many. At the call it had room for all
-- rows, and no two keys of its entries and the rows are equal.
use Rattle.std.proofs.Common.{◌≡◌, ◌+◌, ◌≤◌, ◌++◌, length, take}
use Rattle.indexmap.specs.IndexMap.{spare}
use Rattle.ordered_keys.specs.inside.Ordered.{AreApart}
use Rattle.ordered_keys.proofs.ordered_map.put_all.Given as goal

abbrev pub invariant-loop-index : goal.invariant-loop-index
invariant-loop-index g l = record {
  entries : l.table.entries ≡ l.fn.table.entries ++ take l.index l.rows;
  room : spare l.fn.table ≤ l.index + spare l.table;
  enough : length l.rows ≤ spare l.fn.table;
  apart : AreApart g.K.PartialEq.eq (l.fn.table.entries ++ l.rows);
}
