-- `read_length`: the four bytes that `fill` takes are those of the number, by the contract of `number_in`.
use Rattle.std.proofs.Common.{◌≡◌, take, subst, sym, ◌∙◌, arith, take_all}
use Rattle.std.specs.Io.KnownBytes.{Consumes}
use Rattle.host_core.proofs.reading.read_length.Goals as goal

pub returns-clause-some : goal.returns-clause-some
returns-clause-some g c =
    let bytes = c.fill.new.buffer in
    let whole : take c.in_ok-count.count bytes ≡ bytes = take_all c.in_ok-count.count bytes (omega arith) in
    subst (Consumes _ _) (whole ∙ sym c.number_in.ensures) c.in_ok-count.ensures.bytes
