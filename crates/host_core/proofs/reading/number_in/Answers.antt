-- `number_in`: the encoding of the number that `read_u32` makes of four bytes has these bytes again.
use Rattle.std.proofs.Common.{ap, ◌∙◌, arith}
use Rattle.byteorder.specs.Endian.{little_bytes}
use Rattle.host_core.proofs.Numbers.{bytes_of_number}
use Rattle.host_core.proofs.reading.number_in.Goals as goal

pub returns : goal.returns
returns c =
    ap (little_bytes 4) c.read_u32.ensures
    ∙ bytes_of_number c.args.bytes.now c.requires (λ k. omega (arith, c.type_inv.bytes k))
