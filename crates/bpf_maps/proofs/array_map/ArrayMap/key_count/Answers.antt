-- `key_count` of `ArrayMap`: the table has `max_entries` keys, since it is that of a new array (`length_new`).
use Rattle.std.proofs.Common.{length, sym, ap, ◌∙◌}
use Rattle.bpf_maps.specs.KeyTable.{KeyTable}
use Rattle.bpf_maps.proofs.Arrays.{length_new}
use Rattle.bpf_maps.proofs.array_map.ArrayMap.key_count.Goals as goal

pub returns : goal.returns
returns c =
    sym (length_new c.self.inside.shape c.self.invariant) ∙ ap (λ (t : KeyTable). length t.entries) c.self.view_is
