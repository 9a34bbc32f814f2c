-- `save_part` of `SavableTenant`: the frames are those of the part at the index, if the save has it. By `oldest_first` and `part_at` its
-- commands are found, or none are; `write` appends their frames to a new, empty writer.
use Rattle.std.proofs.Common.{◌≡◌, ℕ, List, [], ◌++◌, Option, Some, None, sym, ap, ap₂, subst, ◌∙◌}
use Rattle.std.specs.Prelude.{slice_get, option_map}
use Rattle.command_frames.specs.Command.{Command}
use Rattle.tenant.specs.Kept.{state_in}
use Rattle.saving.specs.declared.birth.Birth.{Birth}
use Rattle.saving.specs.Recorded.{RecordedTenant, tenant_state}
use Rattle.saving.specs.SaveParts.{parts, frames_of}
use Rattle.saving.specs.inside.PartCommands.{part_commands, ordered_parts}
use Rattle.saving.proofs.savable.SavableTenant.save_part.Goals as goal

-- a new writer writes the frames of a part
is_written : (number n : ℕ) (before written : List ℕ) (part : Option (List Command)) (cs : List Command)
    → part ≡ Some cs → before ≡ []
    → n ≡ number → written ≡ before ++ frames_of n cs
    → ◌≡◌ {A = Option (List ℕ)} (Some written) (option_map (frames_of number) part)
is_written number n before written part cs is none same wrote =
    ap (λ (bytes : List ℕ). let o : Option (List ℕ) = Some bytes in o)
    (wrote ∙ ap₂ (λ (xs : List ℕ) (k : ℕ). xs ++ frames_of k cs) none same)
    ∙ sym (ap (option_map (frames_of number)) is)

abbrev as_saved : ℕ → List ℕ → ℕ → Option (List ℕ) → RecordedTenant → Type 0
as_saved number part index saved t =
    saved ≡ option_map (frames_of number) (slice_get (parts (tenant_state part t) t.births) index)

pub returns : goal.returns
returns c =
    let s = state_in c.args.part.now c.self.inside.tenant in
    let bs = c.self.inside.births in
    let found : slice_get (parts s bs) c.args.index ≡ Some (part_commands s c.in-Some.wanted) =
    ap (λ (births : List Birth). slice_get (ordered_parts s births) c.args.index) (sym c.oldest_first.ensures)
    ∙ sym (ap (option_map (part_commands s)) (sym c.in-Some.is) ∙ c.part_at.ensures c.args.part.now) in
    λ _. subst (as_saved c.args.number c.args.part.now c.args.index (Some c.write.new.self.frames.items)) c.self.view_is
    (is_written c.args.number c.new-writer.result.number c.new-writer.result.frames.items
    c.write.new.self.frames.items (slice_get (parts s bs) c.args.index)
    (part_commands s c.in-Some.wanted) found
    c.new-writer.ensures.frames c.new-writer.ensures.number
    c.in_ok-write.ensures.written)

pub returns-in_default : goal.returns-in_default
returns-in_default c =
    let s = state_in c.args.part.now c.self.inside.tenant in
    let bs = c.self.inside.births in
    let none : slice_get (parts s bs) c.args.index ≡ None =
    ap (λ (births : List Birth). slice_get (ordered_parts s births) c.args.index) (sym c.oldest_first.ensures)
    ∙ sym (ap (option_map (part_commands s)) (sym c.in_default.is) ∙ c.part_at.ensures c.args.part.now) in
    λ _. subst (as_saved c.args.number c.args.part.now c.args.index None) c.self.view_is
    (sym (ap (option_map (frames_of c.args.number)) none))
