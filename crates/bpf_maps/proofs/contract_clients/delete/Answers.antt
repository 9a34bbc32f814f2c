-- `delete`: a rejected deletion leaves the table unchanged, and so the keys and values; else the map of values loses the key and ends
-- the run as the table does in `remove` and `end_run`, by the law `live_maps_refine_values`.
use Rattle.std.proofs.Common.{ap, ◌∙◌}
use Rattle.tagged_model.specs.Table.{after_run}
use Rattle.bpf_maps.proofs.Called.{on_err, not_removed, keeps, removed}
use Rattle.bpf_maps.proofs.contract_clients.delete.Goals as goal

pub returns-in_err-remove-clause-refused : goal.returns-in_err-remove-clause-refused
returns-in_err-remove-clause-refused c =
    on_err c.from_residual.result
    (keeps c.live_maps_refine_values.ensures c.args.part.now c.args.maps.now c.remove.new.self
    c.args.map c.remove.ensures.rest.areas c.remove.ensures.rest.live
    (not_removed _ c.args.key.now _ _ _ c.in_err-remove.ensures.removed))

pub returns-clause-done : goal.returns-clause-done
returns-clause-done c =
    (c.live_maps_refine_values.ensures c.args.part.now c.remove.new.self c.end_run.new.self
    c.args.map c.end_run.ensures.rest.areas c.end_run.ensures.rest.live).end
    c.end_run.ensures.ended
    ∙ ap after_run
    (removed c.live_maps_refine_values.ensures c.args.part.now c.args.maps.now c.remove.new.self
    c.args.map c.remove.ensures.rest.areas c.remove.ensures.rest.live
    _ c.args.key.now _ c.in_ok-remove.ensures.removed)
