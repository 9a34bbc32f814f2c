-- The rows are the first `at` of the table's entries from `start` on. Their capacity is unchanged, and suffices for all entries from
-- `start` on.
use Rattle.std.proofs.Common.{◌≡◌, ◌+◌, ◌≤◌, take, drop, vec_len, vec_capacity}
use Rattle.indexmap.specs.IndexMap.{index_map_len}
use Rattle.ordered_keys.proofs.ordered_map.copy_entries.Given as goal

abbrev pub invariant-loop-at : goal.invariant-loop-at
invariant-loop-at g l = record {
  items : l.rows.items ≡ take l.at (drop l.start l.table.entries);
  length : vec_len l.rows ≡ l.at;
  capacity : vec_capacity l.rows ≡ vec_capacity l.fn.rows;
  buffer : index_map_len l.table ≤ l.start + vec_capacity l.rows;
}
