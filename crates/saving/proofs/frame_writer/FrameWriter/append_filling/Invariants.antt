-- The frames so far and the frames that are left are all frames.
use Rattle.std.proofs.Common.{◌≡◌, ◌++◌, ◌-◌}
use Rattle.fd_table.specs.Table.{most}
use Rattle.saving.specs.Restored.{filled}
use Rattle.saving.specs.SaveParts.{frames_of}
use Rattle.saving.proofs.frame_writer.FrameWriter.append_filling.Given as goal

abbrev pub invariant-loop : goal.invariant-loop
invariant-loop l = record {
  left : l.self.frames.items ++ frames_of l.self.number (filled (most - l.counter))
      ≡ l.initial.self.frames.items ++ frames_of l.initial.self.number (filled most);
  number : l.self.number ≡ l.initial.self.number;
}
