-- `index_of`: the bytes of the returned index are those of the key, since each of these is in the range of a byte (`spelled`).
use Rattle.bpf_maps.proofs.Arrays.{spelled}
use Rattle.bpf_maps.proofs.array_map.index_of.Goals as goal

pub returns : goal.returns
returns c =
    spelled c.args.key.now c.from_le_bytes.result c.requires (λ i. (c.type_inv.key i).fits) c.from_le_bytes.ensures
