-- The facts that a watcher has received if the pass ends early. This project's own.
use Rattle.std.specs.Prelude.{◌≡◌, ◌⊎◌, ℕ, ◌+◌, List, Option}
use Rattle.insn_set.specs.declared.insn.Insn.{Insn}
use Rattle.reg_kinds.specs.declared.facts.Facts.{Facts}
use Rattle.tagged_model.specs.Named.{Shapes}
use Rattle.verifier.specs.declared.fault.VerifyFault.{VerifyFault}
use Rattle.verifier.specs.inside.Edges.{IsFaultFrom}
use Rattle.verifier.specs.Seen.{known_at, with_more, SeesBelow}
use Rattle.verifier.specs.Verdict.{IsFirstFault, safety_fault, memory_fault}

-- out of memory at a slot: what the watcher has received is as before (`old`), or it has the facts
-- at this slot too
abbrev pub StopsWatching : Option (List (ℕ × Facts)) → Option (List (ℕ × Facts)) → ℕ → Option Facts
    → VerifyFault → Type 0
StopsWatching old new slot known fault =
    (fault ≡ memory_fault) × ((new ≡ old) ⊎ (new ≡ with_more old (known_at slot known)))

-- `fault` is why the instruction at a slot may not be run; the watcher had received `old`, and has
-- then received the facts before the instruction too (`new`)
abbrev pub SeesFault : Shapes → ℕ → Insn → Option Facts → Option (List (ℕ × Facts))
    → Option (List (ℕ × Facts)) → VerifyFault → Type 0
SeesFault shapes slot insn known old new fault =
    IsFaultFrom shapes slot insn known fault × (new ≡ with_more old (known_at slot known))

-- `fault` is the first fault of safety, and the watcher has received the facts before the slots up
-- to that of the fault, in addition to `old`; or `fault` is `memory_fault`, and the watcher has
-- received the facts before the slots below some slot
abbrev pub SeesFirstFault : Shapes → List Insn → Option (List (ℕ × Facts))
    → Option (List (ℕ × Facts)) → VerifyFault → Type 0
SeesFirstFault shapes code old new fault =
    ((fault ≡ memory_fault) × (n : ℕ) × SeesBelow n shapes code old new)
    ⊎ (IsFirstFault (safety_fault shapes code) fault.slot fault.reason
    × SeesBelow (fault.slot + 1) shapes code old new)
