-- Laws of the verdict. This project's own.
use Rattle.std.specs.Prelude.{◌≡◌, ◌≢◌, ℕ, List, Result, slice_get, Some, IsSome}
use Rattle.std.specs.List.{All}
use Rattle.insn_set.specs.declared.insn.Insn.{Insn}
use Rattle.insn_set.specs.Program.{begins_at}
use Rattle.reg_kinds.specs.declared.reason.Reason.TheVariants.{UnknownHelper, DescriptorNotMap, NoDirectValue}
use Rattle.tagged_model.specs.declared.shape.MapShape.{MapShape}
use Rattle.tagged_model.specs.declared.shape.Named.{Named}
use Rattle.tagged_model.specs.Named.{shapes_named}
use Rattle.insn_set.specs.Flow.{descriptor}
use Rattle.verifier.specs.Shape.{structure_fault}
use Rattle.verifier.specs.declared.refusal.Refusal.{Refusal}
use Rattle.verifier.specs.Judgement.{Judges}
use Rattle.verifier.specs.Maps.{maps_of, shapes_of}
use Rattle.verifier.specs.Verdict.{HasNoFault, IsAccepted, safety_fault}

-- slots have at most one judgement
abbrev pub OneJudgement : Type 0
OneJudgement =
    (named : List Named) (slots : List ℕ) (j k : Result (List Insn) Refusal)
    → Judges named slots j
    → Judges named slots k
    → j ≡ k

-- in a program without a fault of its shape, all that an instruction names exists: none is rejected
-- for safety because it calls an unknown helper, loads something other than a map, or loads a
-- direct value that the map does not have
pub record SafetyFollowsShape : Type 0 where
  pub helpers : (code : List Insn) (named : List Named) (slot : ℕ)
      → HasNoFault (structure_fault code named)
      → safety_fault (shapes_of code named) code slot ≢ Some UnknownHelper
  pub maps : (code : List Insn) (named : List Named) (slot : ℕ)
      → HasNoFault (structure_fault code named)
      → safety_fault (shapes_of code named) code slot ≢ Some DescriptorNotMap
  pub values : (code : List Insn) (named : List Named) (slot : ℕ)
      → HasNoFault (structure_fault code named)
      → safety_fault (shapes_of code named) code slot ≢ Some NoDirectValue

-- each descriptor by which an accepted program loads a map, or a value of one, names a map, and so
-- has a shape: among all open descriptors (`named`) and among those that are kept with the program
-- (`kept`)
pub record LoadedMapsHaveShapes : Type 0 where
  pub named : (code : List Insn) (named : List Named)
      → IsAccepted code named
      → All (λ fd. IsSome (shapes_named named fd)) (maps_of code)
  pub kept : (code : List Insn) (named : List Named)
      → IsAccepted code named
      → All (λ fd. IsSome (shapes_of code named fd)) (maps_of code)

-- the list of a program's maps has each descriptor by which an instruction loads a map, or a value
-- of one (`each`), once (`once`); only descriptors in the list have a shape (`shaped`)
pub record MapsAreListed : Type 0 where
  pub each : (code : List Insn) (n : ℕ) (i : Insn) (fd : ℕ)
      → begins_at code n ≡ Some i
      → descriptor i ≡ Some fd
      → (index : ℕ) × (slice_get (maps_of code) index ≡ Some fd)
  pub once : (code : List Insn) (i j fd : ℕ)
      → slice_get (maps_of code) i ≡ Some fd
      → slice_get (maps_of code) j ≡ Some fd
      → i ≡ j
  pub shaped : (code : List Insn) (named : List Named) (fd : ℕ) (shape : MapShape)
      → shapes_of code named fd ≡ Some shape
      → (index : ℕ) × (slice_get (maps_of code) index ≡ Some fd)
