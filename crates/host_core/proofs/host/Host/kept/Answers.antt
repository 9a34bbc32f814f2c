-- `kept` of `Host`: a tenant that `get` finds represents, with its part, the state of this number; if `get` finds none, there is no state.
use Rattle.arena.specs.Memory.{part_bytes}
use Rattle.host_core.proofs.Tenants.{states_are, kept_is}
use Rattle.host_core.proofs.host.Host.kept.Goals as goal

pub returns : goal.returns
returns c =
    let arena = c.self.inside.arena in
    let tenants = c.self.inside.tenants.items in
    let is = states_are arena tenants c.args.self.now c.self.view_is in (
      part_bytes arena c.args.tenant,
      kept_is arena tenants c.deref.result.now c.args.self.now.states c.args.tenant is
          c.deref.ensures.value c.get.result c.get.ensures.lookup,
    )
