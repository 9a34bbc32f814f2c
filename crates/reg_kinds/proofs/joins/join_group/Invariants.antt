-- The slots before `i` are as after the join of the group; those from `i` on, and all registers, are as at the call. While `changes` is
-- false, no slot has changed.
use Rattle.std.proofs.Common.{◌≡◌, ℕ, ◌<◌, ◌≤◌, false, length, get_or}
use Rattle.reg_kinds.specs.declared.kind.Slot.TheVariants.{Bytes}
use Rattle.reg_kinds.specs.Kinds.{slot_at}
use Rattle.reg_kinds.specs.Join.{group_joined}
use Rattle.reg_kinds.proofs.joins.join_group.Given as goal

abbrev pub invariant-loop-i : goal.invariant-loop-i
invariant-loop-i l =
    record {
      long : length l.facts.slots ≡ 64;
      kept : l.facts.registers ≡ l.fn.facts.registers;
      done : (k : ℕ) → k < l.i → get_or l.facts.slots k (Bytes 0) ≡ group_joined l.fn.group.number l.fn.facts l.edge k;
      rest : (k : ℕ) → l.i ≤ k → get_or l.facts.slots k (Bytes 0) ≡ slot_at l.fn.facts k;
      same : l.changes ≡ false → l.facts.slots ≡ l.fn.facts.slots;
    }
