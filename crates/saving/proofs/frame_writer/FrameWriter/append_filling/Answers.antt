-- `append_filling`: each turn appends a load of the filler, by the contract of `append_load`, so the frames so far and those that are left
-- are still all (`one_command`, `filled_next`). After the last turn none is left.
use Rattle.std.proofs.Common.{ℕ, ◌+◌, ◌-◌, ◌++◌, ◌∙◌, List, sym, ap, arith}
use Rattle.command_frames.specs.Command.{prog_load}
use Rattle.command_frames.specs.Frame.{framed}
use Rattle.fd_table.specs.Table.{most}
use Rattle.saving.specs.Filler.{filler}
use Rattle.command_frames.specs.Encoded.{frame_of}
use Rattle.saving.specs.Restored.{load_of, filled}
use Rattle.saving.specs.SaveParts.{frames_of}
use Rattle.saving.proofs.Saves.{filled_next, filled_none, filler_bytes}
use Rattle.saving.proofs.SaveSteps.{one_command, no_commands}
use Rattle.saving.proofs.frame_writer.FrameWriter.append_filling.Goals as goal

pub loop-preserved : goal.loop-preserved
loop-preserved c =
    let i = c.loop.counter in
    record {
      left =
          one_command c.loop.self.frames.items c.loop.self.number c.append_load.new.self.number
          (load_of filler) (filled (most - i)) (filled (most - (i + 1)))
          (filled_next most i (omega arith)) c.append_load.ensures.number c.loop.invariant.left
          (c.in_ok-append_load.ensures.written
          ∙ ap (λ (bytes : List ℕ).
          c.loop.self.frames.items ++ framed (frame_of c.loop.self.number (prog_load 1 bytes)))
          (sym filler_bytes));
      number = c.append_load.ensures.number ∙ c.loop.invariant.number;
    }

pub returns : goal.returns
returns c =
    let i = c.loop.counter in
    record {
      -- what is reserved changes no frame
      written =
          no_commands c.loop.self.number (filled (most - i)) (filled_none most i (omega arith)) c.loop.invariant.left
          ∙ ap (λ (frames : List ℕ). frames ++ frames_of c.args.self.now.number (filled most)) c.reserve.ensures.items;
    }
