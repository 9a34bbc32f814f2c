-- `values_agree`: functions that agree on each element of a key give equal maps, by induction over the entries; in a sound table only an
-- element less than `max_entries` occurs in an entry or is kept apart.
use Rattle.bpf_maps.proofs.Values.{agreeing_tables, used_within}
use Rattle.bpf_maps.proofs.laws.values_agree.Goals as goal

pub returns : goal.returns
returns c = record {
  numbers = λ f g t h. agreeing_tables f g t h;
  bytes = λ f g t h. agreeing_tables f g t h;
  within = used_within;
}
