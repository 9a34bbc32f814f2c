-- The instructions that a run executes, and what it costs. This project's own.
use Rattle.std.specs.Prelude.{◌≡◌, ℕ, zero, suc, ◌≤◌, List, [], ◌∷◌, length, Option, Some, None}
use Rattle.insn_set.specs.declared.insn.Insn.{Insn}
use Rattle.insn_set.specs.Program.{IsProgram, begins_at, slot_count}
use Rattle.tagged_model.specs.declared.shape.Named.{Named}
use Rattle.tagged_model.specs.Named.{Shapes}
use Rattle.tagged_model.specs.State.{RunState}
use Rattle.tagged_model.specs.Step.{Step, goes, ends, faults, act, MapsByDescriptor, start_of_run, steps_of}
use Rattle.verifier.specs.declared.cost.Cost.{Cost}
use Rattle.verifier.specs.Cost.{IsPath, calls_in}
use Rattle.verifier.specs.Maps.{shapes_of}
use Rattle.verifier.specs.Sound.{AreRunInputs}
use Rattle.verifier.specs.Verdict.{IsAccepted}

-- ---- what a run executes

-- what is executed from instruction i on, by its step: i, and then what is executed from the next
-- state on (`rest`); only i if the run ends; nothing if the step is a fault
abbrev pub executed_by : Insn → Step → (RunState → List Insn) → List Insn
executed_by i (goes t) rest = i ∷ rest t
executed_by i (ends n) rest = i ∷ []
executed_by i faults rest = []

-- the instructions that a run executes from state s on. The first argument is the instruction i
-- that begins at the slot of s, or None if none begins there, which is a fault: then none is
-- executed. If the step of i leads to a state, the instructions are i and what `rest` has for that
-- state, which is what is executed from it on. If the step ends the run, only i is executed; if it
-- is a fault, none (`executed_by`)
abbrev pub executed_at : Option Insn → RunState → (RunState → List Insn) → List Insn
executed_at None s rest = []
executed_at (Some i) s rest = executed_by i (act i s) rest

-- the instructions that a run of at most n steps executes, in order
unfoldable pub executed : List Insn → ℕ → RunState → List Insn
executed code zero s = []
executed code (suc n) s = executed_at (begins_at code s.at) s (executed code n)

-- the instructions that the run of a program executes, with these maps, on the words of a context
-- and a packet, in at most as many steps as the program has slots: a run of an accepted program
-- ends within these, since its jumps lead forward
abbrev pub executed_of : List Insn → MapsByDescriptor → List ℕ → List ℕ → List Insn
executed_of code maps words packet =
    executed code (slot_count code) (start_of_run maps words packet)

-- ---- what it costs

-- each run, on maps of these shapes and any context and packet, executes a path from slot 0 to an
-- exit, one instruction in each step
abbrev pub RunsArePaths : Shapes → List Insn → Type 0
RunsArePaths shapes code =
    (maps : MapsByDescriptor) (words packet : List ℕ)
    → AreRunInputs shapes maps words packet
    → IsPath code 0 (executed_of code maps words packet)
    × (length (executed_of code maps words packet) ≡ steps_of code maps words packet)

-- no run on maps of these shapes takes more steps than the cost has instructions, or executes more
-- calls than the cost has calls
abbrev pub RunsCostAtMost : Cost → Shapes → List Insn → Type 0
RunsCostAtMost cost shapes code =
    (maps : MapsByDescriptor) (words packet : List ℕ)
    → AreRunInputs shapes maps words packet
    → (steps_of code maps words packet ≤ cost.instructions)
    × (calls_in (executed_of code maps words packet) ≤ cost.calls)

-- each run of an accepted program, on maps of the shapes with which it is accepted, executes a path
-- from slot 0 to an exit
abbrev pub AcceptedRunsArePaths : Type 0
AcceptedRunsArePaths =
    (code : List Insn) (named : List Named)
    → IsProgram code
    → IsAccepted code named
    → RunsArePaths (shapes_of code named) code
