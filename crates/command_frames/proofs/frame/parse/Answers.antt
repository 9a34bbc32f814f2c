-- `parse`: a frame that is not too long is parsed as the command of the number in its head, with the bytes after the head as its body, by
-- the contracts of `read_u16` and `command_in`.
use Rattle.std.proofs.Common.{◌-◌, ◌∙◌, ap, arith, take, drop, length}
use Rattle.std.proofs.lemmas.List.{take_rest}
use Rattle.byteorder.specs.Endian.{little_number}
use Rattle.command_frames.proofs.Parsing.{parsed_as}
use Rattle.command_frames.proofs.frame.parse.Goals as goal

pub returns : goal.returns
returns c =
    let frame = c.args.frame.now in
    c.command_in.ensures
    ∙ parsed_as frame (take (length frame - 4) (drop 4 frame)) c.read_u16.result (omega arith)
    (c.read_u16.ensures ∙ ap (little_number 2) (take_rest frame 2))
    (take_rest frame 4)
