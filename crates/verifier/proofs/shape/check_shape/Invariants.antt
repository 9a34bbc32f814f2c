-- `check_shape`: an instruction begins at the slot, or it is the end. The counts of instructions and of calls are the most on the paths to
-- this and later slots whose last edge is from an earlier slot, and on paths that ended; no earlier slot has a fault of its shape.
use Rattle.std.proofs.Common.{◌≡◌, ℕ, ◌<◌, ◌≤◌, ◌-◌, length, None}
use Rattle.insn_set.specs.Program.{slot_count, Adjoins}
use Rattle.verifier.specs.Shape.{structure_fault}
use Rattle.verifier.specs.inside.Longest.{arriving, most_from, most_ended, one, one_if_call}
use Rattle.verifier.proofs.shape.check_shape.Given as goal

abbrev pub invariant-loop-slot : goal.invariant-loop-slot
invariant-loop-slot l =
    record {
      begins : Adjoins l.program l.slot;
      long : length l.jumping ≡ slot_count l.program;
      instructions : (i : ℕ)
          → l.slot ≤ i → i < slot_count l.program
          → arriving (λ c. c.instructions) l.slot l.paths.here l.jumping i ≡ most_from one l.program i l.slot;
      calls : (i : ℕ)
          → l.slot ≤ i → i < slot_count l.program
          → arriving (λ c. c.calls) l.slot l.paths.here l.jumping i ≡ most_from one_if_call l.program i l.slot;
      ended_instructions : l.paths.ended.instructions ≡ most_ended one l.program l.slot;
      ended_calls : l.paths.ended.calls ≡ most_ended one_if_call l.program l.slot;
      none_below : (n : ℕ) → n < l.slot → structure_fault l.program l.named n ≡ None;
    }

abbrev pub decreases-loop-slot : goal.decreases-loop-slot
decreases-loop-slot l = slot_count l.program - l.slot
