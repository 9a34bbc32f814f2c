-- `live_maps_refine_values`: as no area changes, each value keeps its offset, and so the map of values changes as the table of keys does,
-- by the laws `calls_refine_values` and `map_verdicts_match_look_ups`.
use Rattle.bpf_maps.proofs.InPart.{goes_along}
use Rattle.bpf_maps.proofs.laws.live_maps_refine_values.Goals as goal

pub returns : goal.returns
returns c = goes_along c.calls_refine_values.ensures.bytes c.map_verdicts_match_look_ups.ensures.numbers
