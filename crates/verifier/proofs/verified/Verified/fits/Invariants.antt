-- `fits` of `Verified`: each descriptor before this one names a map of the shape with which the program was accepted.
use Rattle.std.proofs.Common.{◌≡◌, take}
use Rattle.std.specs.List.{All}
use Rattle.tagged_model.specs.Named.{shapes_named}
use Rattle.verifier.specs.Verified.{shapes_in}
use Rattle.verifier.proofs.verified.Verified.fits.Given as goal

abbrev pub invariant-loop-fd : goal.invariant-loop-fd
invariant-loop-fd l = All (λ fd. shapes_named l.named fd ≡ shapes_in l.self fd) (take l.fd-index l.fd-items)
