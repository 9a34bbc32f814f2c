-- Soundness of the verifier: no run of an accepted program faults. This project's own.
use Rattle.std.specs.Prelude.{◌≡◌, ◌≢◌, ℕ, ◌<◌, ◌^◌, List, length, Some, Ok}
use Rattle.std.specs.List.{All}
use Rattle.std.specs.Map.{keys_of, values_of}
use Rattle.insn_set.specs.declared.insn.Insn.{Insn}
use Rattle.insn_set.specs.Program.{IsProgram, begins_at}
use Rattle.reg_kinds.specs.declared.facts.Facts.{Facts}
use Rattle.tagged_model.specs.declared.shape.Named.{Named}
use Rattle.tagged_model.specs.declared.shape.MapKind.TheVariants.{Array}
use Rattle.tagged_model.specs.declared.shape.MapShape.{MapShape}
use Rattle.tagged_model.specs.declared.value.Outcome.TheVariants.{Fault}
use Rattle.tagged_model.specs.Named.{Shapes}
use Rattle.tagged_model.specs.Table.{Table, indexed}
use Rattle.tagged_model.specs.State.{RunState, context_words}
use Rattle.tagged_model.specs.Step.{Step, goes, ends, faults, act, step, MapsByDescriptor, result_of}
use Rattle.words.specs.Bytes.{AreBytes}
use Rattle.abstraction.specs.Admits.{Witness}
use Rattle.abstraction.specs.Laws.{Describes}
use Rattle.transfer.specs.Branches.{Edges}
use Rattle.transfer.specs.Effects.{effect}
use Rattle.transfer.specs.Sound.{CoversStep}
use Rattle.verifier.specs.Shape.{structure_fault}
use Rattle.verifier.specs.Maps.{shapes_of}
use Rattle.verifier.specs.Before.{facts_before}
use Rattle.verifier.specs.Verdict.{HasNoFault, IsAccepted}

-- ---- one step

-- in a program without a fault of its shape: if an instruction begins at a slot, the facts before
-- it describe a state there that has a map of each shape that the program's descriptors name, and
-- they let the instruction be run, the machine has a step. Either the run ends, with a number of 32
-- bits, or the next state has a map of each shape again, and the facts on the edge that the step
-- takes admit it
abbrev pub StepIsSound : Type 0
StepIsSound =
    (code : List Insn) (named : List Named) (witness : Witness) (s : RunState) (i : Insn)
    (f : Facts) (edges : Edges)
    → IsProgram code
    → HasNoFault (structure_fault code named)
    → begins_at code s.at ≡ Some i
    → facts_before (shapes_of code named) code s.at ≡ Some f
    → Describes witness f (shapes_of code named) s
    → effect (shapes_of code named) s.at i f ≡ Ok edges
    → CoversStep (shapes_of code named) i s edges (act i s)

-- the facts before the state's slot describe it, by some witness
pub record IsAdmitted (shapes : Shapes) (code : List Insn) (s : RunState) : Type 0 where
  pub witness : Witness
  pub facts : Facts
  pub known : facts_before shapes code s.at ≡ Some facts
  pub still : Describes witness facts shapes s

-- the step is no fault; if it goes on, the next state is at a later slot, and the facts before that
-- slot describe it; if the run ends, its result has 32 bits
abbrev pub NextIsAdmitted : Shapes → List Insn → ℕ → Step → Type 0
NextIsAdmitted shapes code at (goes t) = (at < t.at) × IsAdmitted shapes code t
NextIsAdmitted shapes code at (ends n) = n < 2 ^ 32
NextIsAdmitted shapes code at faults = ⊥

-- no step of an accepted program from an admitted state faults, and the state after it is admitted
abbrev pub StepsGoOn : Type 0
StepsGoOn =
    (code : List Insn) (named : List Named) (s : RunState)
    → IsProgram code
    → IsAccepted code named
    → IsAdmitted (shapes_of code named) code s
    → NextIsAdmitted (shapes_of code named) code s.at (step code s)

-- ---- runs

-- a map of this shape: an array has all its indices, a hash map may have any keys, and each value
-- has the size that the shape gives
pub record IsTableOf (shape : MapShape) (t : Table (List ℕ)) : Type 0 where
  pub shaped : t.shape ≡ shape
  pub indices : shape.kind ≡ Array
      → keys_of t.entries ≡ keys_of (indexed (λ i. i) 0 shape.max_entries)
  pub sized : All (λ value. length value ≡ shape.value_size) (values_of t.entries)

-- the inputs of a run: for each descriptor with a shape a map of that shape; in all maps values of
-- bytes; the eleven words of a context, each below 2 ^ 32; and a packet of bytes
pub record AreRunInputs (shapes : Shapes) (maps : MapsByDescriptor)
    (words packet : List ℕ) : Type 0 where
  pub has : (m : ℕ) (shape : MapShape)
      → shapes m ≡ Some shape
      → (t : Table (List ℕ)) × (maps m ≡ Some t) × IsTableOf shape t
  pub values : (m : ℕ) (t : Table (List ℕ)) → maps m ≡ Some t → All AreBytes (values_of t.entries)
  pub small : All (λ w. w < 2 ^ 32) words
  pub count : length words ≡ context_words
  pub bytes : AreBytes packet

-- no run of an accepted program faults, on maps of the shapes with which it is accepted
abbrev pub NeverFaults : Type 0
NeverFaults =
    (code : List Insn) (named : List Named) (maps : MapsByDescriptor) (words packet : List ℕ)
    → IsProgram code
    → IsAccepted code named
    → AreRunInputs (shapes_of code named) maps words packet
    → result_of code maps words packet ≢ Fault
