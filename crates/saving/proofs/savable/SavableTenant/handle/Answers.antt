-- `handle` of `SavableTenant`: a reply to the parsed command is a reply to the frame (`may_tell`, `may_record`), by the contract of
-- `reply_to_command`, and the births are right for the next state (`recorded_after`). A frame without a command gets the error of its fault
-- and changes nothing (`refused_frame`); no reply is that of a fault of a run.
use Rattle.std.proofs.Common.{Some, sym, subst}
use Rattle.arena.specs.Memory.{part_bytes}
use Rattle.command_frames.specs.Shown.{shown_command}
use Rattle.tenant.specs.Alone.{MayReply}
use Rattle.tenant.specs.Kept.{state_in}
use Rattle.saving.specs.Recorded.{RecordedTenant, RecordsFrame, tenant_state}
use Rattle.saving.proofs.FramesLengths.{parsed_within}
use Rattle.saving.proofs.FramesReplies.{may_tell, may_record, no_fault_replied, refused_frame, refused_record, refused_no_fault}
use Rattle.saving.proofs.FramesHeads.{headed_length}
use Rattle.saving.proofs.Recorded.{recorded_after}
use Rattle.saving.proofs.savable.SavableTenant.handle.Goals as goal

pub parse-requires : goal.parse-requires
parse-requires c = headed_length c.args.frame.now c.args.head c.requires.head

pub reply_to_command-requires-clause-short : goal.reply_to_command-requires-clause-short
reply_to_command-requires-clause-short c =
    parsed_within c.args.frame.now (shown_command c.in-Ok.command) (sym c.in-Ok.ensures)

pub reply_to_command-requires-clause-recorded : goal.reply_to_command-requires-clause-recorded
reply_to_command-requires-clause-recorded c = c.self.invariant

pub invariant_of-self : goal.invariant_of-self
invariant_of-self c =
    let e = c.reply_to_command.new in
    recorded_after c.maps_are_held.ensures c.births_are_kept.ensures c.self.inside.tenant
    c.self.inside.births c.self.invariant (part_bytes c.args.arena.now c.args.tenant)
    e.tenant e.births (part_bytes e.arena c.args.tenant) c.reply_to_command.ensures.replied

pub returns-in-Ok-clause-replied : goal.returns-in-Ok-clause-replied
returns-in-Ok-clause-replied c =
    let e = c.reply_to_command.new in
    let before = part_bytes c.args.arena.now c.args.tenant in
    let after = state_in (part_bytes e.arena c.args.tenant) e.tenant in
    subst (λ (t : RecordedTenant). MayReply c.args.frame.now e.reply (Some (tenant_state before t)) (Some after))
    c.self.view_is
    (may_tell c.args.frame.now (shown_command c.in-Ok.command) c.args.head e.reply
    (state_in before c.self.inside.tenant) after c.requires.head
    (sym c.in-Ok.ensures) c.reply_to_command.ensures.replied)

pub returns-in-Ok-clause-recorded : goal.returns-in-Ok-clause-recorded
returns-in-Ok-clause-recorded c =
    let e = c.reply_to_command.new in
    let before = part_bytes c.args.arena.now c.args.tenant in
    let after = state_in (part_bytes e.arena c.args.tenant) e.tenant in
    subst (λ (t : RecordedTenant). RecordsFrame c.args.frame.now e.reply (tenant_state before t) after t.births e.births)
    c.self.view_is
    (may_record c.args.frame.now (shown_command c.in-Ok.command) c.args.head e.reply
    (state_in before c.self.inside.tenant) after c.self.inside.births
    e.births c.requires.head (sym c.in-Ok.ensures) c.reply_to_command.ensures.replied)

pub returns-in-Ok-clause-no_fault : goal.returns-in-Ok-clause-no_fault
returns-in-Ok-clause-no_fault c =
    no_fault_replied c.args.frame.now c.args.head c.reply_to_command.new.reply c.requires.head
    c.reply_to_command.ensures.replied.no_fault

pub returns-in-Err-clause-replied : goal.returns-in-Err-clause-replied
returns-in-Err-clause-replied c =
    let s = tenant_state (part_bytes c.args.arena.now c.args.tenant) c.args.self.now in
    refused_frame c.args.frame.now c.write_command_reply.new.reply s c.in-Err.fault c.frame_error.result c.args.head
    c.requires.head (sym c.in-Err.ensures) c.frame_error.ensures.errno (c.write_command_reply.ensures s)

pub returns-in-Err-clause-recorded : goal.returns-in-Err-clause-recorded
returns-in-Err-clause-recorded c =
    let s = tenant_state (part_bytes c.args.arena.now c.args.tenant) c.args.self.now in
    refused_record c.args.frame.now c.write_command_reply.new.reply s c.args.self.now.births c.in-Err.fault
    c.frame_error.result c.args.head
    c.requires.head (sym c.in-Err.ensures) c.frame_error.ensures.errno (c.write_command_reply.ensures s)

pub returns-in-Err-clause-no_fault : goal.returns-in-Err-clause-no_fault
returns-in-Err-clause-no_fault c =
    let s = tenant_state (part_bytes c.args.arena.now c.args.tenant) c.args.self.now in
    refused_no_fault c.args.frame.now c.write_command_reply.new.reply s c.frame_error.result c.args.head
    c.requires.head c.frame_error.ensures.no_fault (c.write_command_reply.ensures s)
