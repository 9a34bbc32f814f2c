-- `verify`: the copy has the program's instructions, so by the contract of `judge` it is accepted, with its maps, objects and cost.
use Rattle.verifier.proofs.KeptPrograms.{copy_is_whole}
use Rattle.verifier.proofs.verified.verify.Goals as goal

pub invariant_of-result : goal.invariant_of-result
invariant_of-result c =
    let found = c.in_ok-found.found in
    let is = c.in_ok-found.ensures in
    copy_is_whole c.args.program.now c.in_ok-program.program c.args.named.now found.objects.items
    found.maps.items found.cost c.in_ok-program.ensures.cases
    is.accepted is.objects is.maps is.cost
