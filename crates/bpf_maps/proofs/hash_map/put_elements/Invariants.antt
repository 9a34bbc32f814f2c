-- `put_elements`: before each turn the list has each element that is less than the next one, once, and no other; its capacity is
-- that at the call, and is enough for all.
use Rattle.std.proofs.Common.{◌≡◌, ◌≤◌, ℕ, vec_len, vec_capacity, nat_lt, if◌then◌else◌}
use Rattle.bpf_maps.specs.KeyTable.{occurrences}
use Rattle.bpf_maps.proofs.hash_map.put_elements.Given as goal

abbrev pub invariant-loop-element : goal.invariant-loop-element
invariant-loop-element l = record {
  once : (p : ℕ) → occurrences p l.all.items ≡ (if nat_lt p l.element then 1 else 0);
  length : vec_len l.all ≡ l.element;
  capacity : vec_capacity l.all ≡ vec_capacity l.fn.all;
  room : l.count ≤ vec_capacity l.all;
}
