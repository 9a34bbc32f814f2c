-- A program with other objects than those with which it was accepted. This project's own.
use Rattle.std.specs.Prelude.{◌≡◌, List}
use Rattle.std.specs.List.{All}
use Rattle.insn_set.specs.declared.insn.Insn.{Insn}
use Rattle.tagged_model.specs.declared.shape.Named.{Named}
use Rattle.tagged_model.specs.Named.{shapes_named}
use Rattle.verifier.specs.Maps.{maps_of}
use Rattle.verifier.specs.Verdict.{IsAccepted}
use Rattle.verifier.specs.Verified.{Accepted, shapes_in}

-- each descriptor of the accepted program's maps names, in the list `named`, a map of the shape
-- with which the program was accepted; other descriptors may name anything
abbrev pub Fits : Accepted → List Named → Type 0
Fits a named = All (λ fd. shapes_named named fd ≡ shapes_in a fd) (maps_of a.code)

-- a program that is accepted with the objects `named` is also accepted with the objects `other`, if
-- each descriptor of its maps names a map of the same shape in both
abbrev pub SameShapesAreAccepted : Type 0
SameShapesAreAccepted =
    (code : List Insn) (named other : List Named)
    → All (λ fd. shapes_named other fd ≡ shapes_named named fd) (maps_of code)
    → IsAccepted code named
    → IsAccepted code other
