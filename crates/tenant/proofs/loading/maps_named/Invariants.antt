-- Before each turn of the loop of `maps_named` the handles that were found are those of the maps that the descriptors so far name.
use Rattle.std.proofs.Common.{◌≡◌, take}
use Rattle.tenant.specs.Machine.{handles_from}
use Rattle.tenant.proofs.LoadingHandles.{seconds}
use Rattle.tenant.proofs.loading.maps_named.Given as goal

abbrev pub invariant-loop-fd : goal.invariant-loop-fd
invariant-loop-fd l = l.found.items ≡ seconds (handles_from l.objects (take l.fd-index l.fds))
