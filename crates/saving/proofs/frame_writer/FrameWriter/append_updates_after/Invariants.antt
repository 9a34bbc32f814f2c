-- The frames so far and the frames that are left are all frames.
use Rattle.std.proofs.Common.{◌≡◌, ◌++◌, ◌-◌, take}
use Rattle.tenant.specs.Entry.{numbered_entries}
use Rattle.saving.specs.declared.save_parts.TheConstants.{KEYS_PER_SAVE_PART}
use Rattle.saving.specs.SaveParts.{frames_of}
use Rattle.saving.specs.inside.Puts.{puts, rest_after}
use Rattle.saving.proofs.frame_writer.FrameWriter.append_updates_after.Given as goal

abbrev pub invariant-loop : goal.invariant-loop
invariant-loop l = record {
  left :
      l.self.frames.items
      ++ frames_of l.self.number
      (puts l.fd
      (take (KEYS_PER_SAVE_PART - l.counter) (rest_after l.after (numbered_entries l.part l.tenant.live l.map))))
      ≡ l.initial.self.frames.items
      ++ frames_of l.initial.self.number
      (puts l.fd (take KEYS_PER_SAVE_PART (rest_after l.fn.before (numbered_entries l.part l.tenant.live l.map))));
  number : l.self.number ≡ l.initial.self.number;
}
