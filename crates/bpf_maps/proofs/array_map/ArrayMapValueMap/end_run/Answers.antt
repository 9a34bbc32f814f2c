-- `end_run` of `ArrayMap`: the table is unchanged by the end of a run, since a new array keeps no element apart (`run_ends`).
use Rattle.bpf_maps.proofs.Arrays.{run_ends}
use Rattle.bpf_maps.proofs.array_map.ArrayMapValueMap.end_run.Goals as goal

pub returns-clause-ended : goal.returns-clause-ended
returns-clause-ended c = run_ends c.keys_are_its_indices.ensures.kind c.keys_are_its_indices.ensures.whole
