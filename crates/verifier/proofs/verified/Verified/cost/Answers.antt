-- `cost` of `Verified`: the kept cost is the most on a path, by the type's invariant. By the law `runs_are_paths` a run executes a path, so
-- it has no more instructions or calls.
use Rattle.std.proofs.Common.{subst}
use Rattle.verifier.specs.Cost.{IsCostOf}
use Rattle.verifier.specs.Verified.{Accepted, shapes_in}
use Rattle.verifier.proofs.Paths.{runs_cost_at_most}
use Rattle.verifier.proofs.verified.Verified.cost.Goals as goal

pub returns-clause-most : goal.returns-clause-most
returns-clause-most c =
    subst (λ (a : Accepted). IsCostOf c.self.inside.found.cost a.code) c.self.view_is c.self.invariant.2

pub returns-clause-runs : goal.returns-clause-runs
returns-clause-runs c =
    runs_cost_at_most c.self.inside.found.cost (shapes_in c.args.self.now) c.args.self.now.code
    (subst (λ (a : Accepted). IsCostOf c.self.inside.found.cost a.code) c.self.view_is c.self.invariant.2)
    c.runs_are_paths.ensures
