-- `program_of` of `Tenant`: by the contracts of `verify_slots` and `targets` an accepted program is accepted with the open descriptors, and
-- has their objects for its maps, as `loaded` requires.
use Rattle.std.proofs.Common.{ap, subst, ◌∙◌}
use Rattle.verifier.specs.Maps.{maps_of, objects_at}
use Rattle.verifier.specs.Verdict.{IsAccepted}
use Rattle.tenant.proofs.LoadingRefusals.{of_ok}
use Rattle.tenant.proofs.tenant.Tenant.program_of.Goals as goal

pub loaded-requires-clause-accepted : goal.loaded-requires-clause-accepted
loaded-requires-clause-accepted c = λ part.
    subst (IsAccepted c.in-Ok.program.code)
    (c.deref.ensures.value ∙ c.in_ok-descriptors.ensures part)
    (of_ok _ _ _ c.in-Ok.is c.in_ok-program.ensures.accepted).2

pub loaded-requires-clause-objects : goal.loaded-requires-clause-objects
loaded-requires-clause-objects c = λ part.
    of_ok _ _ _ c.in-Ok.is c.in_ok-program.ensures.objects
    ∙ ap (objects_at (maps_of c.in-Ok.program.code)) (c.deref.ensures.value ∙ c.in_ok-descriptors.ensures part)
