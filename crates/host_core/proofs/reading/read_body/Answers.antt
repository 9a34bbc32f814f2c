-- `read_body`: a frame that fits is kept whole, by the contract of `read_whole`; of a longer one the buffer, itself longer than any valid
-- frame, begins with the frame's head, by that of `read_long`.
use Rattle.std.proofs.Common.{◌≡◌, take, arith, length-take, take_all, refl, ap, ◌∙◌, inl, inr}
use Rattle.host_core.specs.declared.reading.TheConstants.{FRAME_BUFFER}
use Rattle.host_core.proofs.reading.read_body.Goals as goal

pub returns-in_ok-read_whole-clause-frame : goal.returns-in_ok-read_whole-clause-frame
returns-in_ok-read_whole-clause-frame g c =
    let buffer = c.read_whole.new.buffer in (
      take c.args.total buffer,
      omega (arith, length-take c.args.total buffer),
      c.in_ok-read_whole.ensures.bytes,
      inl refl,
    )

pub returns-in_ok-read_long-clause-frame : goal.returns-in_ok-read_long-clause-frame
returns-in_ok-read_long-clause-frame g c =
    let buffer = c.read_long.new.buffer in
    let whole : take FRAME_BUFFER buffer ≡ buffer = take_all FRAME_BUFFER buffer (omega arith) in
    let (frame, len, read, front) = c.in_ok-read_long.ensures.frame in
    (frame, len, read, inr (omega (arith, length-take FRAME_BUFFER buffer), omega arith, ap (take 4) whole ∙ front))
