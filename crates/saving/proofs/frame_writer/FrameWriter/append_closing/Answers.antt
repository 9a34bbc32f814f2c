-- `append_closing`: each turn appends the frame that closes the next descriptor, unless it is open, so the frames so far and those that are
-- left are still all (`some_commands`, `closings_next`). After the last descriptor none is left.
use Rattle.std.proofs.Common.{◌≡◌, ℕ, List, ◌+◌, ◌-◌, ◌++◌, ◌∙◌, ap, arith}
use Rattle.fd_table.specs.Table.{first_descriptor, most, named}
use Rattle.saving.specs.Restored.{closings}
use Rattle.saving.specs.SaveParts.{frames_of}
use Rattle.saving.specs.inside.Puts.{closing}
use Rattle.saving.proofs.Saves.{closings_next, closings_none}
use Rattle.saving.proofs.SaveSteps.{some_commands, no_commands}
use Rattle.saving.proofs.frame_writer.FrameWriter.append_closing.Goals as goal

pub loop-fd-preserved : goal.loop-fd-preserved
loop-fd-preserved c =
    let fd = c.loop-fd.fd in
    let objects = c.args.tenant.now.objects in
    let step = closing fd (named objects fd) in
    let last : ℕ = first_descriptor + most in
    let fewer : last - fd - 1 ≡ last - (fd + 1) = omega arith in
    record {
      left =
          some_commands c.loop-fd.self.frames.items c.loop-fd.self.number
          c.append_close_unless_open.new.self.number step (closings objects fd (last - fd))
          (closings objects (fd + 1) (last - (fd + 1)))
          (closings_next objects fd (last - fd) (omega arith)
          ∙ ap (λ (n : ℕ). step ++ closings objects (fd + 1) n) fewer)
          c.append_close_unless_open.ensures.number c.loop-fd.invariant.left c.in_ok-append_close_unless_open.ensures.written;
      number = c.append_close_unless_open.ensures.number ∙ c.loop-fd.invariant.number;
    }

pub returns : goal.returns
returns c =
    let fd = c.loop-fd.fd in
    let objects = c.args.tenant.now.objects in
    -- what is reserved changes no frame
    record {
      written =
          no_commands c.loop-fd.self.number
          (closings objects fd (first_descriptor + most - fd))
          (closings_none objects fd (first_descriptor + most - fd) (omega arith))
          c.loop-fd.invariant.left
          ∙ ap
          (λ (frames : List ℕ).
          frames ++ frames_of c.args.self.now.number (closings objects first_descriptor most))
          c.reserve.ensures.items;
    }
