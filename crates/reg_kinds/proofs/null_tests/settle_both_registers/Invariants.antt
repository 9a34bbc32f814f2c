-- The registers before `r` are settled: in `facts` for the falling edge, in `taken` for the jumping edge. Those from `r` on have in both
-- the kinds that they had in `facts` at the call. No stack slot has changed.
use Rattle.std.specs.Prelude.{not}
use Rattle.std.proofs.Common.{◌≡◌, ℕ, ◌<◌, ◌≤◌, length, get_or}
use Rattle.reg_kinds.specs.declared.kind.Kind.TheVariants.{Unreadable}
use Rattle.reg_kinds.specs.Kinds.{kind_at}
use Rattle.reg_kinds.specs.Settle.{kind_settled}
use Rattle.reg_kinds.proofs.null_tests.settle_both_registers.Given as goal

abbrev pub invariant-loop-r : goal.invariant-loop-r
invariant-loop-r l =
    record {
      long : length l.facts.registers ≡ 11;
      kept : l.facts.slots ≡ l.fn.facts.slots;
      done : (k : ℕ)
          → k < l.r
          → get_or l.facts.registers k Unreadable ≡ kind_settled l.site (not l.null) (kind_at l.fn.facts k);
      rest : (k : ℕ) → l.r ≤ k → get_or l.facts.registers k Unreadable ≡ kind_at l.fn.facts k;
      taken_long : length l.taken.registers ≡ 11;
      taken_kept : l.taken.slots ≡ l.fn.taken.slots;
      taken_done : (k : ℕ)
          → k < l.r
          → get_or l.taken.registers k Unreadable ≡ kind_settled l.site l.null (kind_at l.fn.facts k);
      taken_rest : (k : ℕ) → l.r ≤ k → get_or l.taken.registers k Unreadable ≡ kind_at l.fn.facts k;
    }
