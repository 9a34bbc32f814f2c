-- The facts on each single edge. This project's own.
use Rattle.std.specs.Prelude.{◌≡◌, ℕ, Option, Some, None}
use Rattle.insn_set.specs.declared.insn.Insn.{Insn}
use Rattle.reg_kinds.specs.declared.facts.Facts.{Facts}
use Rattle.reg_kinds.specs.declared.reason.Reason.{Reason}
use Rattle.tagged_model.specs.Cells.{and_then}
use Rattle.tagged_model.specs.Named.{Shapes}
use Rattle.transfer.specs.Branches.{falling_of, jumping_of}
use Rattle.transfer.specs.Effects.{effect}
use Rattle.verifier.specs.declared.fault.VerifyFault.{VerifyFault}
use Rattle.verifier.specs.Verdict.{reason_of}

-- the facts on the falling edge out of the instruction at slot n, from those before it (`known`);
-- None if there are none before it, the instruction may not be run, or this edge is never taken
abbrev pub falling_from : Shapes → ℕ → Insn → Option Facts → Option Facts
falling_from shapes n insn known = and_then known (λ f. falling_of (effect shapes n insn f))

-- the facts on the jumping edge out of the instruction at slot n, from those before it (`known`);
-- None also if there are none before it
abbrev pub jumping_from : Shapes → ℕ → Insn → Option Facts → Option Facts
jumping_from shapes n insn known = and_then known (λ f. jumping_of (effect shapes n insn f))

-- the first condition that fails for the instruction at slot n with the facts before it (`known`);
-- None if no condition fails, or if there are no facts, since no run reaches it then
abbrev pub reason_from : Shapes → ℕ → Insn → Option Facts → Option Reason
reason_from shapes n insn known = and_then known (λ f. reason_of (effect shapes n insn f))

-- the instruction at slot n may be run with the facts before it (`known`): no condition of the
-- transfer function fails. It holds too if there are no facts, since no run reaches it then
abbrev pub MayRun : Shapes → ℕ → Insn → Option Facts → Type 0
MayRun shapes n insn known = reason_from shapes n insn known ≡ None

-- the instruction at slot n may not be run: the fault has its slot and the first condition that
-- fails
abbrev pub IsFaultFrom : Shapes → ℕ → Insn → Option Facts → VerifyFault → Type 0
IsFaultFrom shapes n insn known fault =
    (fault.slot ≡ n) × (reason_from shapes n insn known ≡ Some fault.reason)
