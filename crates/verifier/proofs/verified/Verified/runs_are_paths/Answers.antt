-- `runs_are_paths`: from the law `accepted_runs_are_paths`, with the objects with which the program was accepted, by its invariant.
use Rattle.std.proofs.Common.{List, subst}
use Rattle.tagged_model.specs.Named.{shapes_named}
use Rattle.tagged_model.specs.declared.shape.Named.{Named}
use Rattle.verifier.specs.Runs.{RunsArePaths}
use Rattle.verifier.specs.Sound.{AreRunInputs}
use Rattle.verifier.specs.Verified.{Accepted, shapes_in}
use Rattle.verifier.proofs.verified.Verified.runs_are_paths.Goals as goal

pub returns : goal.returns
returns c =
    subst (λ (a : Accepted). RunsArePaths (shapes_in a) a.code) c.self.view_is
    (λ maps words packet given.
    c.accepted_runs_are_paths.ensures c.self.inside.program c.self.invariant.0.named
    c.code.ensures.program c.self.invariant.0.accepted maps
    words packet
    (subst (λ (es : List Named). AreRunInputs (shapes_named es) maps words packet) c.self.invariant.0.shaped given))
