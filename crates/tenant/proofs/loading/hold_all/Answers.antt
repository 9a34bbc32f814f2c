-- `hold_all`: each map gets as many references as its handle is listed; shapes, keys and values are unchanged. In each turn `hold` adds one
-- to a live map (`there`), which has room for it, since there is room for all (`few`).
use Rattle.std.proofs.Common.{arith}
use Rattle.tenant.proofs.LoadingHolds.{IsHeld, held_one, holds_one, held_all, held_then}
use Rattle.tenant.proofs.Times.{times-more, times-left, times-all, times-none}
use Rattle.tenant.proofs.loading.hold_all.Goals as goal

pub loop-map-init : goal.loop-map-init
loop-map-init c = record {
  held = held_all c.requires.live;
  holds = λ q. let none = times-none q in omega arith;
}

pub hold-requires-clause-live : goal.hold-requires-clause-live
hold-requires-clause-live c =
    let m = c.map-item.result in
    let left = times-left c.args.held.now c.loop-map.map-index m _ c.loop-map-test.true c.map-item.is in
    c.loop-map.invariant.held.live m (c.requires.there m (omega arith))

pub hold-requires-clause-few : goal.hold-requires-clause-few
hold-requires-clause-few c =
    let m = c.map-item.result in
    let so_far = c.loop-map.invariant.holds m in
    let all = c.requires.few m in
    let left = times-left c.args.held.now c.loop-map.map-index m _ c.loop-map-test.true c.map-item.is in
    omega arith

pub loop-map-preserved : goal.loop-map-preserved
loop-map-preserved c =
    let held = c.args.held.now in
    let m = c.map-item.result in
    let is = c.loop-map.invariant.held in
    let e = c.hold.ensures in
    let left = times-left held c.loop-map.map-index m _ c.loop-map-test.true c.map-item.is in
    let live = is.live m (c.requires.there m (omega arith)) in
    let h : IsHeld c.loop-map.maps c.hold.new.self m = record {
      more = e.more;
      live = e.live;
      holds = e.holds;
      keys = e.keys;
      others = e.others;
      refused = e.refused;
    } in record {
      held = held_then is (held_one is.held live h);
      holds = λ q.
          let so_far = c.loop-map.invariant.holds q in
          let now = holds_one is.held live h q in
          let next = times-more held c.loop-map.map-index m _ q c.loop-map-test.true c.map-item.is in
          omega arith;
    }

pub returns : goal.returns
returns c = record {
  held = c.loop-map.invariant.held;
  holds = λ q.
      let so_far = c.loop-map.invariant.holds q in
      let all = times-all c.args.held.now c.loop-map.map-index q (omega arith) in
      omega arith;
}
