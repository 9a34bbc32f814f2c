-- The commands of a part of a save. This project's own.
use Rattle.std.specs.Prelude.{List, [], ◌∷◌, ◌++◌, take, drop}
use Rattle.std.specs.List.{flat_map}
use Rattle.command_frames.specs.Command.{Command}
use Rattle.fd_table.specs.Table.{first_descriptor, most}
use Rattle.tenant.specs.State.{TenantState, live}
use Rattle.saving.specs.declared.save_parts.SavePart.{SavePart}
use Rattle.saving.specs.declared.save_parts.SavePart.TheVariants.{Filling, Creation, Keys, Closing}
use Rattle.saving.specs.declared.save_parts.TheConstants.{KEYS_PER_SAVE_PART}
use Rattle.saving.specs.Births.{Birth}
use Rattle.saving.specs.Restored.{filled, closings}
use Rattle.saving.specs.SaveParts.{puts_of, creation, birth_parts}

-- the commands of one part of a save; a part that puts keys puts those from index `first` on, at
-- most `KEYS_PER_SAVE_PART`
abbrev pub part_commands : TenantState → SavePart → List Command
part_commands s Filling = filled most
part_commands s (Creation b) = creation s b
part_commands s (Keys handle fd first) =
    take KEYS_PER_SAVE_PART (drop first (puts_of fd (live s handle)))
part_commands s Closing = closings s.objects first_descriptor most

-- the parts of a save after the first one: those of each birth, and the closes of the descriptors
-- that are not open in s; the births have the oldest first
abbrev pub later_parts : TenantState → List Birth → List (List Command)
later_parts s births =
    flat_map (birth_parts s) births ++ closings s.objects first_descriptor most ∷ []

-- all parts of a save, of births with the oldest first; `parts` takes them with the latest first
abbrev pub ordered_parts : TenantState → List Birth → List (List Command)
ordered_parts s births = filled most ∷ later_parts s births
