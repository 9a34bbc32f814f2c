-- `live_count`: without a handle the count is 0, and each turn counts one more handle, by cases of `is_live`: a live map adds one
-- (`one_more_live`), a handle without a map nothing (`no_more_live`).
use Rattle.std.proofs.Common.{◌<◌, length, refl, sym, ◌∙◌, arith}
use Rattle.bpf_maps.specs.Sum.{total}
use Rattle.bpf_maps.proofs.Totals.{one_more_live, no_more_live}
use Rattle.bpf_maps.proofs.maps.Maps.live_count.Goals as goal
use Rattle.bpf_maps.proofs.maps.Maps.live_count.Goals.{then-is_live, else-is_live}

pub loop-handle-init : goal.loop-handle-init
unfolding total
loop-handle-init c = record { count = refl; few = omega arith }

pub loop-handle-preserved : goal.loop-handle-preserved
loop-handle-preserved c =
    let t = c.args.self.now in
    let handle = c.loop-handle.handle in
    let long = c.maps_are_laid.ensures.maps in
    let within : handle < length t.maps = omega arith in
    let before = c.loop-handle.invariant.count in
    let few = c.loop-handle.invariant.few in
    elim c.if-is_live.branch [
      | then-is_live w ↦
          let more = one_more_live (λ l. 1) t handle within (sym c.is_live.ensures ∙ w.if-is_live.true) in
          let is = w.count-is in
          record { count = omega arith; few = omega arith }
      | else-is_live w ↦
          let same = no_more_live (λ l. 1) t handle within (sym c.is_live.ensures ∙ w.if-is_live.false) in
          let is = w.count-is in
          record { count = omega arith; few = omega arith }
    ]
