-- `install` of `SavableTenant`: reply and births are those of the frame that loads the program. `Tenant::install` gives the result of the
-- load, the law `encoding_inverts_parsing` the command of the frame, `status_of` the status, and `note` the births. By the laws
-- `maps_are_held` and `births_are_kept` there is room for the birth, and the invariant still holds.
use Rattle.std.proofs.Common.{◌+◌, ◌≤◌, List, [], length, Some, refl, sym, subst, ap, ◌∙◌, w32, SFits, to_z, of_z, rules}
use Rattle.std.proofs.lemmas.Int.{to_z-of_z}
use Rattle.fd_table.specs.Table.{most}
use Rattle.bpf_maps.specs.Limits.{most_maps}
use Rattle.insn_set.specs.Program.{IsProgram}
use Rattle.tenant.specs.Alone.{MayReply}
use Rattle.tenant.specs.Kept.{state_in}
use Rattle.tenant.specs.Replies.{shown_reply}
use Rattle.verifier.specs.Verified.{Accepted}
use Rattle.saving.specs.Births.{Birth}
use Rattle.saving.specs.Installs.{load_frame, load_reply}
use Rattle.saving.specs.Recorded.{RecordedTenant, RecordsFrame, tenant_state}
use Rattle.saving.specs.Restored.{load_of}
use Rattle.saving.proofs.FramesReplied.{shown_after}
use Rattle.saving.proofs.Installs.{command_loaded, frame_replied, frame_recorded, frame_no_fault}
use Rattle.saving.proofs.Recorded.{births_opened, few_after, recorded_after}
use Rattle.saving.proofs.savable.SavableTenant.install.Goals as goal

-- there is room for the birth
pub note-requires : goal.note-requires
note-requires c =
    let k = c.self.inside.tenant in
    let births = c.self.inside.births in
    let after = state_in [] c.install.new.self in
    let r = c.in-Ok.reply in
    let a = shown_reply r after in
    let (refused, loads) = c.in-Ok.ensures.loaded [] in
    subst (λ (bs : List Birth). length bs ≤ most + most_maps) (sym (births_opened r after births))
    (few_after c.maps_are_held.ensures c.births_are_kept.ensures k births c.self.invariant []
    refused (load_of c.args.program.value.code) a loads)

pub invariant_of-self : goal.invariant_of-self
invariant_of-self c =
    let k = c.self.inside.tenant in
    let births = c.self.inside.births in
    let after = state_in [] c.install.new.self in
    let r = c.in-Ok.reply in
    let a = shown_reply r after in
    let (refused, loads) = c.in-Ok.ensures.loaded [] in
    recorded_after c.maps_are_held.ensures c.births_are_kept.ensures k births c.self.invariant []
    c.install.new.self c.note.new.self []
    (command_loaded c.args.program.value.code refused a (state_in [] k) after loads
    (shown_after r after) births c.note.new.self r refl
    c.in-Ok.ensures.writable
    (c.note.ensures ∙ births_opened r after births))

pub returns-in-Ok-clause-replied : goal.returns-in-Ok-clause-replied
returns-in-Ok-clause-replied c = λ number part.
    let insns = c.args.program.value.code in
    let status = to_z w32 (of_z w32 c.status_of.result) in
    let small : SFits w32 c.status_of.result = search rules in
    let after = state_in part c.install.new.self in
    let r = c.in-Ok.reply in
    let a = shown_reply r after in
    let is =
    subst IsProgram (c.program.ensures.value ∙ ap (λ (a : Accepted). a.code) c.deref.ensures) c.code.ensures.program in
    let (refused, loads) = c.in-Ok.ensures.loaded part in
    subst (λ (t : RecordedTenant).
    MayReply (load_frame number insns) (load_reply number insns status) (Some (tenant_state part t)) (Some after))
    c.self.view_is
    (frame_replied insns refused a (state_in part c.self.inside.tenant) after loads
    (shown_after r after) c.encoding_inverts_parsing.ensures number is status
    (to_z-of_z w32 c.status_of.result small ∙ c.status_of.ensures after) (c.in-Ok.ensures.no_payload after))

pub returns-in-Ok-clause-recorded : goal.returns-in-Ok-clause-recorded
returns-in-Ok-clause-recorded c = λ number part.
    let insns = c.args.program.value.code in
    let status = to_z w32 (of_z w32 c.status_of.result) in
    let small : SFits w32 c.status_of.result = search rules in
    let after = state_in part c.install.new.self in
    let r = c.in-Ok.reply in
    let a = shown_reply r after in
    let is =
    subst IsProgram (c.program.ensures.value ∙ ap (λ (a : Accepted). a.code) c.deref.ensures) c.code.ensures.program in
    let (refused, loads) = c.in-Ok.ensures.loaded part in
    subst (λ (t : RecordedTenant).
    RecordsFrame (load_frame number insns) (load_reply number insns status) (tenant_state part t)
    after t.births c.note.new.self)
    c.self.view_is
    (frame_recorded insns refused a (state_in part c.self.inside.tenant) after loads
    (shown_after r after) c.encoding_inverts_parsing.ensures number is status
    (to_z-of_z w32 c.status_of.result small ∙ c.status_of.ensures after) (c.in-Ok.ensures.no_payload after)
    c.self.inside.births c.note.new.self (c.note.ensures ∙ births_opened r after c.self.inside.births))

pub returns-in-Ok-clause-no_fault : goal.returns-in-Ok-clause-no_fault
returns-in-Ok-clause-no_fault c = λ number.
    let status = to_z w32 (of_z w32 c.status_of.result) in
    let small : SFits w32 c.status_of.result = search rules in
    let after = state_in [] c.install.new.self in
    let r = c.in-Ok.reply in
    let a = shown_reply r after in
    let is =
    subst IsProgram (c.program.ensures.value ∙ ap (λ (a : Accepted). a.code) c.deref.ensures) c.code.ensures.program in
    let (refused, loads) = c.in-Ok.ensures.loaded [] in
    frame_no_fault c.args.program.value.code refused a (state_in [] c.self.inside.tenant) after
    loads (shown_after r after) c.encoding_inverts_parsing.ensures number is status
    (to_z-of_z w32 c.status_of.result small ∙ c.status_of.ensures after) (c.in-Ok.ensures.no_payload after)
    r refl c.in-Ok.ensures.writable
