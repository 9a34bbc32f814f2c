-- `append_updates_after`: each turn appends the update of the next entry, by the contract of `map_entry`, so the frames so far and those
-- that are left are still all (`one_command`, `next_put`). None is left if no entry follows (`no_key`), or after the last turn (`no_put`).
use Rattle.std.proofs.Common.{◌++◌, ◌+◌, ◌-◌, ℕ, List, Some, option_map, take, sym, ap, ◌∙◌, arith}
use Rattle.command_frames.specs.Frame.{framed}
use Rattle.tenant.specs.Entry.{numbered_entries, lent_entry}
use Rattle.saving.specs.declared.save_parts.TheConstants.{KEYS_PER_SAVE_PART}
use Rattle.command_frames.specs.Encoded.{frame_of}
use Rattle.saving.specs.Restored.{put_of}
use Rattle.saving.specs.inside.Puts.{puts, rest_after}
use Rattle.saving.proofs.SaveSteps.{one_command, no_commands, next_put, no_key, no_put}
use Rattle.saving.proofs.frame_writer.FrameWriter.append_updates_after.Goals as goal

pub loop-preserved : goal.loop-preserved
loop-preserved c =
    let es = numbered_entries c.args.part.now c.args.tenant.now.live c.args.map in
    let e = lent_entry c.in-Some.entry in
    let fd = c.args.fd in
    let left = KEYS_PER_SAVE_PART - c.loop.counter in
    let fewer = KEYS_PER_SAVE_PART - (c.loop.counter + 1) in
    record {
      left =
          one_command c.loop.self.frames.items c.loop.self.number c.append_update.new.self.number
          (put_of fd e.0) (puts fd (take left (rest_after c.loop.after es)))
          (puts fd (take fewer (rest_after (Some e.1) es)))
          (next_put fd es c.loop.after e left fewer c.map_entry.ensures.once (omega arith)
          (ap (option_map lent_entry) (sym c.in-Some.is) ∙ c.map_entry.ensures.entry c.requires.whole))
          c.append_update.ensures.number c.loop.invariant.left
          (c.in_ok-append_update.ensures.written
          ∙ ap (λ (key : List ℕ).
          c.loop.self.frames.items
          ++ framed (frame_of c.loop.self.number (put_of fd (key, c.in-Some.entry.value.now))))
          c.bytes.ensures);
      number = c.append_update.ensures.number ∙ c.loop.invariant.number;
    }

pub returns-in_default : goal.returns-in_default
returns-in_default c =
    let es = numbered_entries c.args.part.now c.args.tenant.now.live c.args.map in
    let left = KEYS_PER_SAVE_PART - c.loop.counter in
    record {
      written = no_commands c.loop.self.number (puts c.args.fd (take left (rest_after c.loop.after es)))
          (no_key c.args.fd es c.loop.after left
          (ap (option_map lent_entry) (sym c.in_default.is) ∙ c.map_entry.ensures.entry c.requires.whole))
          c.loop.invariant.left;
    }

pub returns : goal.returns
returns c =
    let es = numbered_entries c.args.part.now c.args.tenant.now.live c.args.map in
    let left = KEYS_PER_SAVE_PART - c.loop.counter in
    record {
      written = no_commands c.loop.self.number (puts c.args.fd (take left (rest_after c.loop.after es)))
          (no_put c.args.fd (rest_after c.loop.after es) left (omega arith))
          c.loop.invariant.left;
    }
