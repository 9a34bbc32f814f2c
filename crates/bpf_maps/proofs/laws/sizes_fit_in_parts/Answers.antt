-- `sizes_fit_in_parts`: the longest key and the longest value that a shape may have are shorter than a part.
use Rattle.std.proofs.Common.{arith}
use Rattle.bpf_maps.proofs.Shapes.{key_fits_room, value_fits_room}
use Rattle.bpf_maps.proofs.laws.sizes_fit_in_parts.Goals as goal

pub returns : goal.returns
returns c = λ s. let key = key_fits_room s in let value = value_fits_room s in (omega arith, omega arith)
