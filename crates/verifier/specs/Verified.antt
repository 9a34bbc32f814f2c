-- Accepted programs. This project's own.
use Rattle.std.specs.Prelude.{◌≡◌, ℕ, ◌+◌, ◌<◌, List, length, Some, IsSome, true}
use Rattle.insn_set.specs.declared.insn.Insn.{Insn}
use Rattle.insn_set.specs.Spelling.{slots}
use Rattle.insn_set.specs.Program.{begins_at}
use Rattle.tagged_model.specs.declared.shape.Named.{Named}
use Rattle.tagged_model.specs.Named.{Shapes, shapes_named}
use Rattle.insn_set.specs.Flow.{falls, jumps, jump_target}
use Rattle.verifier.specs.Maps.{maps_of, objects_at}
use Rattle.verifier.specs.Verdict.{IsAccepted}

-- an accepted program: its instructions, and the objects that its descriptors named when it was
-- accepted
pub record Accepted : Type 0 where
  pub code : List Insn
  pub objects : List Named

-- the shapes with which a program was accepted, by their descriptors
abbrev pub shapes_in : Accepted → Shapes
shapes_in a = shapes_named a.objects

-- `a` is this program, accepted with the objects that `named` has for its descriptors; it keeps
-- only the objects of its maps
abbrev pub IsAcceptedAs : List Insn → List Named → Accepted → Type 0
IsAcceptedAs code named a =
    (a.code ≡ code) × (a.objects ≡ objects_at (maps_of code) named) × IsAccepted code named

-- the program was accepted with these `objects`, whatever its descriptors name at present
pub record IsVerified (a : Accepted) : Type 0 where
  pub named : List Named
  pub accepted : IsAccepted a.code named
  pub shaped : a.objects ≡ objects_at (maps_of a.code) named

-- each edge out of an instruction leads to another instruction at a later slot: to the next one
-- (`next`), unless it is an exit or always jumps, and to the target of its jump
pub record GoesAhead (code : List Insn) : Type 0 where
  pub next : (at : ℕ) (i : Insn)
      → begins_at code at ≡ Some i
      → falls i ≡ true
      → IsSome (begins_at code (at + length (slots i)))
  pub target : (at : ℕ) (i : Insn) → begins_at code at ≡ Some i → jumps i ≡ true
      → (to : ℕ) × (jump_target i at ≡ Some to) × (at < to) × IsSome (begins_at code to)
