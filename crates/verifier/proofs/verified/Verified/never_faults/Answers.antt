-- `never_faults`: from the law `accepted_programs_never_fault`, with the objects with which the program was accepted, by its invariant.
use Rattle.std.proofs.Common.{◌≢◌, List, subst}
use Rattle.tagged_model.specs.declared.shape.Named.{Named}
use Rattle.tagged_model.specs.declared.value.Outcome.TheVariants.{Fault}
use Rattle.tagged_model.specs.Named.{shapes_named}
use Rattle.tagged_model.specs.Step.{result_of}
use Rattle.verifier.specs.Sound.{AreRunInputs}
use Rattle.verifier.specs.Verified.{Accepted, shapes_in}
use Rattle.verifier.proofs.verified.Verified.never_faults.Goals as goal

pub returns : goal.returns
returns c = λ maps words packet.
    subst (λ (a : Accepted). AreRunInputs (shapes_in a) maps words packet → result_of a.code maps words packet ≢ Fault)
    c.self.view_is
    (λ given.
    c.accepted_programs_never_fault.ensures c.self.inside.program c.self.invariant.0.named maps
    words packet c.code.ensures.program c.self.invariant.0.accepted
    (subst (λ (es : List Named). AreRunInputs (shapes_named es) maps words packet) c.self.invariant.0.shaped given))
