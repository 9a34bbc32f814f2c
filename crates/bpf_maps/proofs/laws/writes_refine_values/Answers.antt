-- `writes_refine_values`: only the key's entry has the element, as the table is sound, so only this key gets another value; by induction
-- over the entries (`table_written`).
use Rattle.bpf_maps.proofs.Values.{table_written}
use Rattle.bpf_maps.proofs.laws.writes_refine_values.Goals as goal

pub returns : goal.returns
returns c = λ value t key element bytes sound h. table_written value t key element bytes sound h
