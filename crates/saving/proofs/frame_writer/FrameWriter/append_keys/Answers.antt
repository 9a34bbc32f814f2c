-- `append_keys`: the updates of the keys from index `first` on are those of the entries after the element that `element_before` returns
-- (`some_puts`), and `append_updates_after` appends them. `map_shape` gives the live map, and to reserve room changes no frame.
use Rattle.std.proofs.Common.{◌≡◌, ℕ, List, Option, ◌++◌, take, drop, sym, ap, subst, ◌∙◌}
use Rattle.std.specs.Result.{OnOk}
use Rattle.command_frames.specs.Command.{Command}
use Rattle.tenant.specs.Entry.{numbered_entries}
use Rattle.tenant.specs.Kept.{state_in}
use Rattle.tenant.specs.State.{Map, live}
use Rattle.saving.specs.declared.save_parts.TheConstants.{KEYS_PER_SAVE_PART}
use Rattle.saving.specs.SaveParts.{puts_of, frames_of}
use Rattle.saving.specs.inside.Puts.{puts, rest_after}
use Rattle.saving.proofs.SaveSteps.{some_puts}
use Rattle.saving.proofs.frame_writer.FrameWriter.append_keys.Goals as goal

pub returns : goal.returns
returns c =
    let fd = c.args.fd in
    let m = c.args.map in
    let maps = c.args.tenant.now.live in
    let part = c.args.part.now in
    let wanted = take KEYS_PER_SAVE_PART (drop c.args.first (puts_of fd (live (state_in part c.args.tenant.now) m))) in
    let before = c.element_before-before.result in
    let written = puts fd (take KEYS_PER_SAVE_PART (rest_after before (numbered_entries part maps m))) in
    let is : wanted ≡ written =
    ap (λ (t : Option Map). take KEYS_PER_SAVE_PART (drop c.args.first (puts_of fd t))) (c.in-Some.ensures.state part)
    ∙ some_puts part maps m fd c.args.first KEYS_PER_SAVE_PART before c.element_before-before.ensures in
    -- what is reserved changes no frame
    record {
      written =
          subst
          (λ (frames : List ℕ).
          OnOk c.append_updates_after.result
          (c.append_updates_after.new.self.frames.items ≡ frames ++ frames_of c.args.self.now.number wanted))
          c.reserve.ensures.items
          (subst
          (λ (commands : List Command).
          OnOk c.append_updates_after.result
          (c.append_updates_after.new.self.frames.items ≡ c.reserve.new.self.items ++ frames_of c.args.self.now.number commands))
          (sym is) c.append_updates_after.ensures.written);
    }
