-- The registers before `r` are settled; those from `r` on, and the stack, are unchanged.
use Rattle.std.proofs.Common.{◌≡◌, ℕ, ◌<◌, ◌≤◌, length, get_or}
use Rattle.reg_kinds.specs.declared.kind.Kind.TheVariants.{Unreadable}
use Rattle.reg_kinds.specs.Kinds.{kind_at}
use Rattle.reg_kinds.specs.Settle.{kind_settled}
use Rattle.reg_kinds.proofs.null_tests.settle_registers.Given as goal

abbrev pub invariant-loop-r : goal.invariant-loop-r
invariant-loop-r l =
    record {
      long : length l.facts.registers ≡ 11;
      kept : l.facts.slots ≡ l.fn.facts.slots;
      done : (k : ℕ)
          → k < l.r
          → get_or l.facts.registers k Unreadable ≡ kind_settled l.site l.null (kind_at l.fn.facts k);
      rest : (k : ℕ) → l.r ≤ k → get_or l.facts.registers k Unreadable ≡ kind_at l.fn.facts k;
    }
