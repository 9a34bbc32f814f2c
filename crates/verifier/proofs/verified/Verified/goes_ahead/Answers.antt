-- `goes_ahead`: by the type's invariant the program has no fault of its shape, so each edge leads to an instruction at a later slot.
use Rattle.std.proofs.Common.{subst}
use Rattle.verifier.specs.Verified.{Accepted, GoesAhead}
use Rattle.verifier.proofs.Leads.{goes_ahead}
use Rattle.verifier.proofs.verified.Verified.goes_ahead.Goals as goal

pub returns : goal.returns
returns c =
    subst (λ (a : Accepted). GoesAhead a.code) c.self.view_is
    (goes_ahead c.self.inside.program c.self.invariant.0.named c.self.invariant.0.accepted.0)
