-- `reply_to_command`, by cases of the command: the reply, the next state and the births are those of the machine (`seen`), by the contracts
-- of the tenant's function and of `write_command_reply`; what holds of the borrowed bytes holds of the part (`on_lent`). There is room for
-- a new birth, since the births after a command are few by the law `births_are_kept` (`few_after`).
use Rattle.std.proofs.Common.{ℕ, ◌+◌, ◌≤◌, false, List, length, filter, refl, sym, ap, subst, ◌∙◌, arith}
use Rattle.arena.specs.Memory.{part_bytes}
use Rattle.command_frames.specs.declared.command.Command.{Command as CodeCommand}
use Rattle.command_frames.specs.Command.{longest_frame, tail_length, map_create, map_lookup, prog_load}
use Rattle.command_frames.specs.Shown.{shown_command}
use Rattle.tenant.specs.Kept.{state_in}
use Rattle.tenant.specs.Machine.{Answers}
use Rattle.fd_table.specs.Table.{most}
use Rattle.tenant.specs.Replies.{shown_reply}
use Rattle.bpf_maps.specs.Limits.{most_maps}
use Rattle.tenant.specs.State.{TenantState}
use Rattle.saving.specs.Births.{Birth, lives}
use Rattle.saving.proofs.FramesParts.{IsLent, on_lent}
use Rattle.saving.proofs.FramesReplied.{seen, shown_after}
use Rattle.saving.proofs.Recorded.{births_opened, few_after}
use Rattle.saving.proofs.handling.reply_to_command.Goals as goal

-- ---- there is room for a birth

pub note-requires : goal.note-requires
note-requires c =
    let a = c.in-MapCreate in
    let e = c.create-answer.ensures in
    let p = c.part_mut-part.result.now in
    let after = state_in c.create-answer.new.part c.create-answer.new.self in
    let r = c.create-answer.result in
    subst (λ (bs : List Birth). length bs ≤ most + most_maps) (sym (births_opened r after c.args.births.now))
    (few_after c.maps_are_held.ensures c.births_are_kept.ensures c.args.tenant.now c.args.births.now
    c.requires.recorded p e.answer.0
    (map_create a.kind a.key_size a.value_size a.max_entries a.flags)
    (shown_reply r after) e.answer.1)

pub note-requires-in-ProgLoad : goal.note-requires-in-ProgLoad
note-requires-in-ProgLoad c =
    let a = c.in-ProgLoad in
    let p = part_bytes c.args.arena.now c.args.number in
    let after = state_in p c.load-loaded.new.self in
    let r = c.load-loaded.result in
    let (refused, loads) = c.load-loaded.ensures.answer p in
    subst (λ (bs : List Birth). length bs ≤ most + most_maps) (sym (births_opened r after c.args.births.now))
    (few_after c.maps_are_held.ensures c.births_are_kept.ensures c.args.tenant.now c.args.births.now
    c.requires.recorded p refused (prog_load a.kind a.slots.now)
    (shown_reply r after) loads)

-- ---- commands that borrow the part to write it

pub returns-in-MapCreate-clause-replied : goal.returns-in-MapCreate-clause-replied
returns-in-MapCreate-clause-replied c =
    let e = c.create-answer.ensures in
    let lent : IsLent c.args.arena.now c.args.number c.part_mut-part.result.now c.create-answer.new.part = record {
      parts = c.memory_is_its_parts.ensures.parts;
      served = c.requires.part;
      bytes = c.part_mut-part.ensures.bytes;
      whole = e.length;
    } in
    on_lent c.parts_are_apart.ensures c.args.tenant.now c.create-answer.new.self lent
    (seen e.answer.0 c.create-answer.result c.in-MapCreate.is e.answer.1 e.writable c.write_command_reply.ensures
    (c.note.ensures
    ∙ births_opened c.create-answer.result
    (state_in c.create-answer.new.part c.create-answer.new.self)
    c.args.births.now))

pub returns-in-MapUpdate-clause-replied : goal.returns-in-MapUpdate-clause-replied
returns-in-MapUpdate-clause-replied c =
    let e = c.update-answer.ensures in
    let lent : IsLent c.args.arena.now c.args.number c.part_mut.result.now c.update-answer.new.part = record {
      parts = c.memory_is_its_parts.ensures.parts;
      served = c.requires.part;
      bytes = c.part_mut.ensures.bytes;
      whole = e.length;
    } in
    on_lent c.parts_are_apart.ensures c.args.tenant.now c.update-answer.new.self lent
    (seen false c.update-answer.result c.in-MapUpdate.is e.answer e.writable c.write_command_reply-in-MapUpdate.ensures refl)

pub returns-in-Close-clause-replied : goal.returns-in-Close-clause-replied
returns-in-Close-clause-replied c =
    let e = c.close-answer.ensures in
    let lent : IsLent c.args.arena.now c.args.number c.part_mut-in-Close.result.now c.close-answer.new.part = record {
      parts = c.memory_is_its_parts.ensures.parts;
      served = c.requires.part;
      bytes = c.part_mut-in-Close.ensures.bytes;
      whole = e.length;
    } in
    on_lent c.parts_are_apart.ensures c.args.tenant.now c.close-answer.new.self lent
    (seen false c.close-answer.result c.in-Close.is e.answer e.writable c.write_command_reply-in-Close.ensures
    (c.keep_living.ensures c.close-answer.new.part
    ∙ ap (λ (s : TenantState). filter (lives s) c.args.births.now)
    (shown_after c.close-answer.result (state_in c.close-answer.new.part c.close-answer.new.self))))

-- ---- commands that read the part, or do not borrow it

pub returns-in-MapLookup-clause-replied : goal.returns-in-MapLookup-clause-replied
returns-in-MapLookup-clause-replied c =
    let a = c.in-MapLookup in
    let e = c.look_up-answer.ensures in
    let k = c.args.tenant.now in
    seen false c.look_up-answer.result a.is
    (subst (λ (bytes : List ℕ).
    Answers false (state_in bytes k) (map_lookup a.fd a.key.now)
    (shown_reply c.look_up-answer.result (state_in bytes k)))
    c.part.ensures.bytes e.answer)
    e.writable c.write_command_reply-in-MapLookup.ensures refl

pub returns-in-MapDelete-clause-replied : goal.returns-in-MapDelete-clause-replied
returns-in-MapDelete-clause-replied c =
    let e = c.delete-answer.ensures in
    seen false c.delete-answer.result c.in-MapDelete.is
    (e.answer (part_bytes c.args.arena.now c.args.number))
    e.writable c.write_command_reply-in-MapDelete.ensures refl

pub returns-in-MapNextKey-clause-replied : goal.returns-in-MapNextKey-clause-replied
returns-in-MapNextKey-clause-replied c =
    let e = c.next_key-answer.ensures in
    seen false c.next_key-answer.result c.in-MapNextKey.is
    (e.answer (part_bytes c.args.arena.now c.args.number))
    e.writable c.write_command_reply-in-MapNextKey.ensures refl

pub write_command_reply-requires-in-ProgLoad : goal.write_command_reply-requires-in-ProgLoad
write_command_reply-requires-in-ProgLoad c =
    let short =
    subst (λ (x : CodeCommand). tail_length (shown_command x) ≤ longest_frame) c.in-ProgLoad.is c.requires.short in
    c.load-loaded.ensures.writable (omega (arith, short))

pub returns-in-ProgLoad-clause-replied : goal.returns-in-ProgLoad-clause-replied
returns-in-ProgLoad-clause-replied c =
    let e = c.load-loaded.ensures in
    let short =
    subst (λ (x : CodeCommand). tail_length (shown_command x) ≤ longest_frame) c.in-ProgLoad.is c.requires.short in
    let (refused, loads) = e.answer (part_bytes c.args.arena.now c.args.number) in
    seen refused c.load-loaded.result c.in-ProgLoad.is loads (e.writable (omega (arith, short)))
    c.write_command_reply-in-ProgLoad.ensures
    (c.note-in-ProgLoad.ensures
    ∙ births_opened c.load-loaded.result
    (state_in (part_bytes c.args.arena.now c.args.number) c.load-loaded.new.self)
    c.args.births.now)

pub returns-in-ProgTestRun-clause-replied : goal.returns-in-ProgTestRun-clause-replied
returns-in-ProgTestRun-clause-replied c =
    let e = c.test_run-answer.ensures in
    seen false c.test_run-answer.result c.in-ProgTestRun.is e.answer e.writable
    c.write_command_reply-in-ProgTestRun.ensures refl
