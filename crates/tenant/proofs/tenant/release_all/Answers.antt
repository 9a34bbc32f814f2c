-- `release_all`: each release leaves the other maps as they are and takes one reference of its map, by the contract of `release`. So by
-- induction over the list a map loses as many as its handle is listed; it is live at each release, since more references are left.
use Rattle.std.proofs.Common.{arith}
use Rattle.tenant.proofs.AtHandles.{held_is_live}
use Rattle.tenant.proofs.Releases.{IsReleased, left_released, holds_released}
use Rattle.tenant.proofs.Times.{times-more, times-left, times-all, times-none, leaves_all, leaves_then}
use Rattle.tenant.proofs.tenant.release_all.Goals as goal

pub loop-map-init : goal.loop-map-init
loop-map-init c = record {
  left = leaves_all c.requires.live c.requires.whole;
  holds = λ q. let none = times-none q in omega arith;
}

pub release-requires-clause-live : goal.release-requires-clause-live
release-requires-clause-live c =
    let m = c.map-item.result in
    let so_far = c.loop-map.invariant.holds m in
    let all = c.requires.held m in
    let left = times-left c.args.held.now c.loop-map.map-index m _ c.loop-map-test.true c.map-item.is in
    held_is_live c.loop-map.maps m (omega arith)

pub release-requires-clause-length : goal.release-requires-clause-length
release-requires-clause-length c = c.loop-map.invariant.left.whole

pub loop-map-preserved : goal.loop-map-preserved
loop-map-preserved c =
    let held = c.args.held.now in
    let m = c.map-item.result in
    let is = c.loop-map.invariant.left in
    let e = c.release.ensures in
    let so_far = c.loop-map.invariant.holds m in
    let all = c.requires.held m in
    let left = times-left held c.loop-map.map-index m _ c.loop-map-test.true c.map-item.is in
    let live = held_is_live c.loop-map.maps m (omega arith) in
    let released : IsReleased c.loop-map.maps c.release.new.self c.loop-map.part c.release.new.part m = record {
      less = e.less;
      gone = e.gone;
      others = e.others;
      refused = e.refused;
      maps = e.maps;
      kept = e.kept;
      whole = e.length;
    } in record {
      left = leaves_then is (left_released is.held live released);
      holds = λ q.
          let before = c.loop-map.invariant.holds q in
          let now = holds_released is.held live released q in
          let next = times-more held c.loop-map.map-index m _ q c.loop-map-test.true c.map-item.is in
          omega arith;
    }

pub returns : goal.returns
returns c = record {
  left = c.loop-map.invariant.left;
  holds = λ q.
      let so_far = c.loop-map.invariant.holds q in
      let all = times-all c.args.held.now c.loop-map.map-index q (omega arith) in
      omega arith;
}
