-- `handle_after_a_refusal`: the second call is by itself a stretch of the two calls of `handle`. So if its reply does not refuse memory, it
-- is that of the tenant's own machine, by `each_stretch_is_served_alone`.
use Rattle.host_core.specs.Handled.{Handles}
use Rattle.host_core.proofs.ServedAlone.{one_more_seen}
use Rattle.host_core.proofs.contract_clients.handle_after_a_refusal.Goals as goal

pub returns : goal.returns
returns c =
    let one = c.handle.ensures in
    let two = c.handle-2.ensures in
    let first : Handles c.args.host.now.states c.args.refused.now c.handle.new.reply c.handle.new.self.states = record {
      own = one.own;
      others = one.others;
      count = one.count;
      no_fault = one.no_fault;
    } in
    let second : Handles c.handle.new.self.states c.args.next.now c.handle-2.new.reply c.handle-2.new.self.states = record {
      own = two.own;
      others = two.others;
      count = two.count;
      no_fault = two.no_fault;
    } in (
      c.handle.new.reply,
      c.handle.new.self.states,
      first,
      one_more_seen c.each_stretch_is_served_alone.ensures first second,
    )
