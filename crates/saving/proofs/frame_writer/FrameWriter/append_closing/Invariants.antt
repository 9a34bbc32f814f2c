-- The frames so far and the frames that are left are all frames.
use Rattle.std.proofs.Common.{◌≡◌, ◌++◌, ◌+◌, ◌-◌}
use Rattle.fd_table.specs.Table.{first_descriptor, most}
use Rattle.saving.specs.Restored.{closings}
use Rattle.saving.specs.SaveParts.{frames_of}
use Rattle.saving.proofs.frame_writer.FrameWriter.append_closing.Given as goal

abbrev pub invariant-loop-fd : goal.invariant-loop-fd
invariant-loop-fd l = record {
  left :
      l.self.frames.items ++ frames_of l.self.number (closings l.tenant.objects l.fd (first_descriptor + most - l.fd))
      ≡ l.initial.self.frames.items
      ++ frames_of l.initial.self.number (closings l.tenant.objects first_descriptor most);
  number : l.self.number ≡ l.initial.self.number;
}
