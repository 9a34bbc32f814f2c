-- The registers before `r` have their kinds after the helper's call; those from `r` on, and the stack, are unchanged.
use Rattle.std.proofs.Common.{◌≡◌, ℕ, ◌<◌, ◌≤◌, length, get_or}
use Rattle.reg_kinds.specs.declared.kind.Kind.TheVariants.{Unreadable}
use Rattle.reg_kinds.specs.Kinds.{kind_at}
use Rattle.reg_kinds.specs.Many.{call_kind}
use Rattle.reg_kinds.proofs.many.facts_after_call.Given as goal

abbrev pub invariant-loop-r : goal.invariant-loop-r
invariant-loop-r l =
    record {
      long : length l.facts.registers ≡ 11;
      kept : l.facts.slots ≡ l.fn.facts.slots;
      done : (k : ℕ) → k < l.r → get_or l.facts.registers k Unreadable ≡ call_kind l.fn.facts l.given k;
      rest : (k : ℕ) → l.r ≤ k → get_or l.facts.registers k Unreadable ≡ kind_at l.fn.facts k;
    }
