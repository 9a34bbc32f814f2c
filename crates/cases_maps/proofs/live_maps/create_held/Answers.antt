-- `create_held`: before the first turn the map is live and has one reference, by the contract of `create` (`is_created`).
use Rattle.bpf_maps.specs.Live.{create_fault}
use Rattle.cases_maps.proofs.Created.{is_created}
use Rattle.cases_maps.proofs.live_maps.create_held.Goals as goal

pub loop-init : goal.loop-init
loop-init c =
    let made =
    is_created (create_fault c.args.maps.now c.args.shape) c.args.maps.now c.create.new.self
    c.args.shape c.in_ok-map.map c.in_ok-map.ensures.created in
    record { live = made.live; holds = made.holds }
