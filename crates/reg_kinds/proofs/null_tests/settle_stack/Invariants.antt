-- The stack slots before `i` are settled; those from `i` on, and all registers, are unchanged.
use Rattle.std.proofs.Common.{◌≡◌, ℕ, ◌<◌, ◌≤◌, length, get_or}
use Rattle.reg_kinds.specs.declared.kind.Slot.TheVariants.{Bytes}
use Rattle.reg_kinds.specs.Kinds.{slot_at}
use Rattle.reg_kinds.specs.Settle.{slot_settled}
use Rattle.reg_kinds.proofs.null_tests.settle_stack.Given as goal

abbrev pub invariant-loop-i : goal.invariant-loop-i
invariant-loop-i l =
    record {
      long : length l.facts.slots ≡ 64;
      kept : l.facts.registers ≡ l.fn.facts.registers;
      done : (k : ℕ) → k < l.i → get_or l.facts.slots k (Bytes 0) ≡ slot_settled l.site l.null (slot_at l.fn.facts k);
      rest : (k : ℕ) → l.i ≤ k → get_or l.facts.slots k (Bytes 0) ≡ slot_at l.fn.facts k;
    }
