-- What a watcher receives: each slot at which an instruction begins and facts are known, with the
-- facts before it, in order. This project's own.
use Rattle.std.specs.Prelude.{◌≡◌, ◌⊎◌, ℕ, zero, suc, ◌+◌, List, [], ◌++◌, Option, option_map, option_to_list}
use Rattle.insn_set.specs.declared.insn.Insn.{Insn}
use Rattle.insn_set.specs.Program.{begins_at, slot_count}
use Rattle.reg_kinds.specs.declared.facts.Facts.{Facts}
use Rattle.tagged_model.specs.declared.shape.Named.{Named}
use Rattle.tagged_model.specs.Cells.{and_then}
use Rattle.tagged_model.specs.Named.{Shapes}
use Rattle.verifier.specs.declared.fault.VerifyFault.{VerifyFault}
use Rattle.verifier.specs.Shape.{structure_fault}
use Rattle.verifier.specs.Before.{facts_before}
use Rattle.verifier.specs.Maps.{shapes_of}
use Rattle.verifier.specs.Verdict.{HasNoFault, IsFirstFault, safety_fault, memory_fault}

-- the slot with the facts before its instruction, as a list; empty if there are no facts (None)
abbrev pub known_at : ℕ → Option Facts → List (ℕ × Facts)
known_at slot known = option_to_list (option_map (λ f. (slot, f)) known)

-- the slots below n that a run may reach: those at which an instruction begins and before which
-- there are facts; in order, each with these facts
unfoldable pub reached : Shapes → List Insn → ℕ → List (ℕ × Facts)
reached shapes code zero = []
reached shapes code (suc n) =
    reached shapes code n
    ++ known_at n (and_then (begins_at code n) (λ insn. facts_before shapes code n))

-- what the watcher had received (`seen`), and `more` after it; None if it does not say what it
-- receives
abbrev pub with_more : Option (List (ℕ × Facts)) → List (ℕ × Facts) → Option (List (ℕ × Facts))
with_more seen more = option_map (λ notes. notes ++ more) seen

-- the watcher had received `old` and now has received `new`: in addition the facts before the slots
-- below n that a run may reach, and nothing else. None: it does not say what it receives
abbrev pub SeesBelow : ℕ → Shapes → List Insn → Option (List (ℕ × Facts))
    → Option (List (ℕ × Facts)) → Type 0
SeesBelow n shapes code old new = new ≡ with_more old (reached shapes code n)

-- for an accepted program: the watcher has received the facts before all slots that a run may
-- reach, in addition to `old`
abbrev pub SeesAll : List Insn → List Named → Option (List (ℕ × Facts))
    → Option (List (ℕ × Facts)) → Type 0
SeesAll code named old new = SeesBelow (slot_count code) (shapes_of code named) code old new

-- out of memory: the watcher has received the facts before the slots below some slot, in addition
-- to `old`
abbrev pub SeesPart : List Insn → List Named → Option (List (ℕ × Facts))
    → Option (List (ℕ × Facts)) → VerifyFault → Type 0
SeesPart code named old new fault =
    (fault ≡ memory_fault) × (n : ℕ) × SeesBelow n (shapes_of code named) code old new

-- a fault of the shape: the watcher has received nothing
abbrev pub SeesShapeFault : List Insn → List Named → Option (List (ℕ × Facts))
    → Option (List (ℕ × Facts)) → VerifyFault → Type 0
SeesShapeFault code named old new fault =
    IsFirstFault (structure_fault code named) fault.slot fault.reason × (new ≡ old)

-- the program is rejected for its safety, with this fault; the watcher had received `old` and now
-- has received `new`: in addition the facts before the slots up to that of the fault, with this one
abbrev pub SeesSafetyFault : List Insn → List Named → Option (List (ℕ × Facts))
    → Option (List (ℕ × Facts)) → VerifyFault → Type 0
SeesSafetyFault code named old new fault =
    HasNoFault (structure_fault code named)
    × IsFirstFault (safety_fault (shapes_of code named) code) fault.slot fault.reason
    × SeesBelow (fault.slot + 1) (shapes_of code named) code old new

-- the watcher had received `old` before the verification that ends with `fault`, and `new` after
-- it; the fault is out of memory, one of the shape, or one of safety
abbrev pub SeesRefused : List Insn → List Named → Option (List (ℕ × Facts))
    → Option (List (ℕ × Facts)) → VerifyFault → Type 0
SeesRefused code named old new fault =
    SeesPart code named old new fault
    ⊎ (SeesShapeFault code named old new fault ⊎ SeesSafetyFault code named old new fault)
