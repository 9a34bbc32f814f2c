-- Before each turn of the loop of `write` the blocks before `at` are mixed into the state, `at` begins a block, and some bytes are left;
-- each turn leaves fewer.
use Rattle.std.proofs.Common.{◌≡◌, ◌-◌, ◌/◌, ◌%◌, ◌<◌}
use Rattle.seeded_hash.specs.Hashing.{blocks_mixed}
use Rattle.seeded_hash.proofs.SeededHasherHasher.write.Given as goal

abbrev pub invariant-loop-at : goal.invariant-loop-at
invariant-loop-at l = record {
  whole : l.at % 16 ≡ 0;
  within : l.at < l.len;
  mixed : l.state ≡ blocks_mixed l.self.factor l.bytes l.initial.state (l.at / 16);
}

abbrev pub decreases-loop-at : goal.decreases-loop-at
decreases-loop-at l = l.len - l.at
