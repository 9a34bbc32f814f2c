-- `check_safety`: an instruction begins at the slot, or it is the end. The pass has the facts that the slots before this one send to it
-- and to later ones, none of those slots has a fault, and the watcher has received the facts before each of them that a run may reach.
use Rattle.std.proofs.Common.{◌≡◌, ℕ, ◌<◌, ◌-◌, None}
use Rattle.insn_set.specs.Program.{slot_count, Adjoins}
use Rattle.tagged_model.specs.Named.{shapes_named}
use Rattle.verifier.specs.Seen.{SeesBelow}
use Rattle.verifier.specs.Verdict.{safety_fault}
use Rattle.verifier.proofs.Inflow.{IsBefore}
use Rattle.verifier.proofs.pass.check_safety.Given as goal

abbrev pub invariant-loop-slot : goal.invariant-loop-slot
invariant-loop-slot g l =
    record {
      begins : Adjoins l.program l.slot;
      known : IsBefore (shapes_named l.named) l.program l.slot l.pass;
      none_below : (n : ℕ) → n < l.slot → safety_fault (shapes_named l.named) l.program n ≡ None;
      seen : SeesBelow l.slot (shapes_named l.named) l.program (g.W.Watcher.seen l.fn.watcher)
          (g.W.Watcher.seen l.watcher);
    }

abbrev pub decreases-loop-slot : goal.decreases-loop-slot
decreases-loop-slot g l = slot_count l.program - l.slot
