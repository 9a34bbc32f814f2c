-- `key_sum`: without a handle the sum is 0, and each turn adds the number of keys at one more handle (`more_keys`), which `key_count`
-- returns and bounds.
use Rattle.std.proofs.Common.{◌<◌, length, refl, arith}
use Rattle.bpf_maps.specs.Sum.{total}
use Rattle.bpf_maps.proofs.Totals.{more_keys}
use Rattle.bpf_maps.proofs.maps.Maps.key_sum.Goals as goal

pub loop-handle-init : goal.loop-handle-init
unfolding total
loop-handle-init c = record { sum = refl; few = omega arith }

pub loop-handle-preserved : goal.loop-handle-preserved
loop-handle-preserved c =
    let t = c.args.self.now in
    let handle = c.loop-handle.handle in
    let long = c.maps_are_laid.ensures.maps in
    let within : handle < length t.maps = omega arith in
    let before = c.loop-handle.invariant.sum in
    let few = c.loop-handle.invariant.few in
    let more = more_keys t handle within in
    let keys = c.key_count-sum.ensures.count in
    let keys_few = c.key_count-sum.ensures.few in
    record { sum = omega arith; few = omega arith }
