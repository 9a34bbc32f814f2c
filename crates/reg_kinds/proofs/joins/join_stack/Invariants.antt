-- The stack slots before `i` are the joins of those of `facts` at the call and of `edge`; those from `i` on, and all registers, are as at
-- the call.
use Rattle.std.proofs.Common.{◌≡◌, ℕ, ◌<◌, ◌≤◌, length, get_or}
use Rattle.reg_kinds.specs.declared.kind.Slot.TheVariants.{Bytes}
use Rattle.reg_kinds.specs.Kinds.{slot_at}
use Rattle.reg_kinds.specs.Join.{slot_join}
use Rattle.reg_kinds.proofs.joins.join_stack.Given as goal

abbrev pub invariant-loop-i : goal.invariant-loop-i
invariant-loop-i l =
    record {
      long : length l.facts.slots ≡ 64;
      kept : l.facts.registers ≡ l.fn.facts.registers;
      done : (k : ℕ) → k < l.i → get_or l.facts.slots k (Bytes 0) ≡ slot_join (slot_at l.fn.facts k) (slot_at l.edge k);
      rest : (k : ℕ) → l.i ≤ k → get_or l.facts.slots k (Bytes 0) ≡ slot_at l.fn.facts k;
    }
