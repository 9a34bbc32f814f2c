-- The stack slots before `i` are as after the helper's write; those from `i` on, and all registers, are unchanged.
use Rattle.std.proofs.Common.{◌≡◌, ℕ, ◌<◌, ◌≤◌, length, get_or, if◌then◌else◌}
use Rattle.reg_kinds.specs.declared.kind.Slot.TheVariants.{Bytes}
use Rattle.reg_kinds.specs.Kinds.{slot_at}
use Rattle.reg_kinds.specs.Stack.{bytes_over}
use Rattle.words.specs.Stack.{touches}
use Rattle.reg_kinds.specs.Many.{bits_in}
use Rattle.reg_kinds.proofs.many.fill_slots.Given as goal

abbrev pub invariant-loop-i : goal.invariant-loop-i
invariant-loop-i l =
    record {
      long : length l.facts.slots ≡ 64;
      kept : l.facts.registers ≡ l.fn.facts.registers;
      done : (k : ℕ)
          → k < l.i
          → get_or l.facts.slots k (Bytes 0)
          ≡ (if touches l.start l.most k
          then bytes_over (slot_at l.fn.facts k) (bits_in l.start l.least k)
          else slot_at l.fn.facts k);
      rest : (k : ℕ) → l.i ≤ k → get_or l.facts.slots k (Bytes 0) ≡ slot_at l.fn.facts k;
    }
