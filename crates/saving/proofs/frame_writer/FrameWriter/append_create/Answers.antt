-- `append_create`: the appended frame is that of the command, by the contracts of `write_command` and `append_framed`, and its type is that
-- of the shape's kind (`type_number`).
use Rattle.std.proofs.Common.{◌≡◌, ◌++◌, ◌∙◌, ℕ, List, OnOk, ap, subst}
use Rattle.command_frames.specs.Command.{map_create}
use Rattle.command_frames.specs.Encoded.{frame_of}
use Rattle.command_frames.specs.Frame.{framed}
use Rattle.saving.proofs.frame_writer.FrameWriter.append_create.Goals as goal

pub returns-clause-written : goal.returns-clause-written
returns-clause-written c =
    let number = c.args.self.now.number in
    let shape = c.args.shape in
    subst (λ (frame : List ℕ).
    OnOk c.append_framed.result (c.append_framed.new.frames.items ≡ c.args.self.now.frames.items ++ framed frame))
    (c.deref.ensures.value
    ∙ c.in_ok-write_command.ensures
    ∙ ap (λ (n : ℕ). frame_of number (map_create n shape.key_size shape.value_size shape.max_entries 0)) c.type_number.ensures)
    c.append_framed.ensures
