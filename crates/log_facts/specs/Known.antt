-- The contents of a log: the verdict on a program, and the facts before each instruction that the
-- verifier's pass reached. This project's own.
use Rattle.std.specs.Prelude.{◌≡◌, ◌⊎◌, ℕ, ◌+◌, Bool, true, false, List, [], map, Result, Ok, Err}
use Rattle.insn_set.specs.declared.insn.Insn.{Insn}
use Rattle.insn_set.specs.Program.{slot_count}
use Rattle.log_facts.specs.declared.recorder.KnownFacts.{KnownFacts}
use Rattle.reg_kinds.specs.declared.facts.Facts.{Facts}
use Rattle.tagged_model.specs.declared.shape.Named.{Named}
use Rattle.verifier.specs.declared.cost.Cost.{Cost}
use Rattle.verifier.specs.declared.fault.VerifyFault.{VerifyFault}
use Rattle.verifier.specs.Cost.{IsCostOf}
use Rattle.verifier.specs.Maps.{shapes_of}
use Rattle.verifier.specs.Shape.{structure_fault}
use Rattle.verifier.specs.Seen.{reached}
use Rattle.verifier.specs.Verdict.{HasNoFault, IsAccepted, IsFirstFault, safety_fault}

-- the facts that were kept, as pairs: a slot, and the facts before the instruction at this slot
abbrev pub facts_by_slot : List KnownFacts → List (ℕ × Facts)
facts_by_slot known = map (λ here. (here.slot, here.facts)) known

-- `known` has the facts before the slots below n that a run may reach (`reached`), in order, and
-- nothing else
abbrev pub IsKnownBelow : ℕ → List Insn → List Named → List KnownFacts → Type 0
IsKnownBelow n code named known = facts_by_slot known ≡ reached (shapes_of code named) code n

-- the program is accepted, and `known` has the facts before all slots that a run may reach
abbrev pub IsAcceptedWith : List Insn → List Named → List KnownFacts → Type 0
IsAcceptedWith code named known =
    IsAccepted code named × IsKnownBelow (slot_count code) code named known

-- the program is rejected for its shape, with this fault: no facts were computed, and `known` is
-- empty
abbrev pub IsMisshapen : List Insn → List Named → List KnownFacts → VerifyFault → Type 0
IsMisshapen code named known fault =
    IsFirstFault (structure_fault code named) fault.slot fault.reason × (known ≡ [])

-- the program is rejected for its safety, with this fault, and `known` has the facts before the
-- slots up to that of the fault, this one included
abbrev pub IsUnsafe : List Insn → List Named → List KnownFacts → VerifyFault → Type 0
IsUnsafe code named known fault =
    HasNoFault (structure_fault code named)
    × IsFirstFault (safety_fault (shapes_of code named) code) fault.slot fault.reason
    × IsKnownBelow (fault.slot + 1) code named known

-- the program is rejected with this fault, for its shape or for its safety, and `known` has the
-- facts that go with it: none, or those up to the fault
abbrev pub IsRefusedWith : List Insn → List Named → List KnownFacts → VerifyFault → Type 0
IsRefusedWith code named known fault =
    IsMisshapen code named known fault ⊎ IsUnsafe code named known fault

-- this is the verdict on the program: its cost, or the fault for which it is rejected. `known` has
-- the facts before all slots that a run may reach; for a fault of safety those up to its slot, and
-- none for a fault of the shape
abbrev pub IsJudged : List Insn → List Named → List KnownFacts → Result Cost VerifyFault → Type 0
IsJudged code named known (Ok cost) = IsAcceptedWith code named known × IsCostOf cost code
IsJudged code named known (Err fault) = IsRefusedWith code named known fault

-- the Boolean is whether the program is accepted, and `known` has the facts that go with this
-- verdict. For a rejected program these are the facts for its fault (`IsRefusedWith`), which is not
-- named, since a log does not have it
abbrev pub IsLogged : List Insn → List Named → Bool → List KnownFacts → Type 0
IsLogged code named true known = IsAcceptedWith code named known
IsLogged code named false known = (fault : VerifyFault) × IsRefusedWith code named known fault
