-- A tenant is saved in parts: the frames that open all descriptors, those that create each object
-- that was born, a map with its keys in several parts, and those that close the descriptors that
-- are not open. This project's own.
use Rattle.std.specs.Prelude.{◌≡◌, ℕ, List, [], ◌∷◌, ◌++◌, map, reverse, Option, Some, None}
use Rattle.std.specs.List.{flat_map}
use Rattle.command_frames.specs.Command.{Command, close}
use Rattle.command_frames.specs.Frame.{framed}
use Rattle.fd_table.specs.Table.{first_descriptor, most, named}
use Rattle.tenant.specs.State.{Map, TenantState, live}
use Rattle.saving.specs.declared.save_parts.TheConstants.{KEYS_PER_SAVE_PART}
use Rattle.saving.specs.Births.{Birth, OfMap, OfProgram}
use Rattle.saving.specs.Restored.{create_of, put_of, made_program, filled, closings, restored}
use Rattle.command_frames.specs.Encoded.{frame_of}
use Rattle.saving.specs.Pieces.{pieces}

-- a list of one command, which creates a map of the shape of the saved one, but without its keys:
-- other parts of the save put them. Empty if the map is not live (None), which does not occur for
-- the map of a birth
abbrev pub made_empty : Option Map → List Command
made_empty None = []
made_empty (Some t) = create_of t.shape ∷ []

-- the commands that put a map's keys and values at descriptor fd; none if it is not live (None)
abbrev pub puts_of : ℕ → Option Map → List Command
puts_of fd None = []
puts_of fd (Some t) = map (put_of fd) t.entries

-- the commands that close the descriptor of a birth and create its object: a program, or a map,
-- whose keys are put by other parts
abbrev pub creation : TenantState → Birth → List Command
creation s (OfMap handle fd) = close fd ∷ made_empty (live s handle)
creation s (OfProgram fd) = close fd ∷ made_program (named s.objects fd)

-- the commands that put the keys of a birth's map; none for a program
abbrev pub key_commands : TenantState → Birth → List Command
key_commands s (OfMap handle fd) = puts_of fd (live s handle)
key_commands s (OfProgram fd) = []

-- the parts of a save for one birth, as commands: one creates its object, each other one puts at
-- most `KEYS_PER_SAVE_PART` keys
abbrev pub birth_parts : TenantState → Birth → List (List Command)
birth_parts s b = creation s b ∷ pieces KEYS_PER_SAVE_PART (key_commands s b)

-- all parts of a save: the loads that open all descriptors, the parts of each birth, the oldest
-- first, and the closes of the descriptors that are not open in s; `births` has the latest first
abbrev pub parts : TenantState → List Birth → List (List Command)
parts s births =
    filled most
    ∷ (flat_map (birth_parts s) (reverse births)
    ++ closings s.objects first_descriptor most ∷ [])

-- the frames of commands to a tenant, each with its length before it
abbrev pub frames_of : ℕ → List Command → List ℕ
frames_of tenant commands = flat_map (λ c. framed (frame_of tenant c)) commands

-- all parts of a save, one after another, are the commands that restore the state
abbrev pub PartsAreWhole : Type 0
PartsAreWhole =
    (s : TenantState) (births : List Birth)
    → flat_map (λ part. part) (parts s births) ≡ restored s births
