-- `run_len`: the longest front of the class is the bytes so far and then that of the later bytes; each turn passes one byte.
use Rattle.std.proofs.Common.{◌≡◌, ◌+◌, ◌-◌, ◌≤◌, length, drop}
use Rattle.std.specs.List.{prefix_len}
use Rattle.text_line.specs.inside.Class.{in_class}
use Rattle.text_line.proofs.token.ByteClass.run_len.Given as goal

abbrev pub invariant-loop-len : goal.invariant-loop-len
invariant-loop-len l = record {
  inside : l.len ≤ length l.text;
  run : prefix_len (in_class l.self) l.text ≡ l.len + prefix_len (in_class l.self) (drop l.len l.text);
}

abbrev pub decreases-loop-len : goal.decreases-loop-len
decreases-loop-len l = length l.initial.text - l.len
