-- Before each turn of the loop of `fits` each descriptor so far names a map of the shape with which the program was accepted.
use Rattle.std.proofs.Common.{◌≡◌, ℕ, List, take}
use Rattle.std.specs.List.{All}
use Rattle.tagged_model.specs.Named.{shapes_named}
use Rattle.verifier.specs.Verified.{shapes_in}
use Rattle.tenant.specs.Kept.{state_in}
use Rattle.tenant.specs.Machine.{targets}
use Rattle.tenant.proofs.tenant.Tenant.fits.Given as goal

abbrev pub invariant-loop-fd : goal.invariant-loop-fd
invariant-loop-fd l =
    (part : List ℕ)
    → All (λ fd. shapes_named (targets (state_in part l.self)) fd ≡ shapes_in l.program fd) (take l.fd-index l.fd-items)
