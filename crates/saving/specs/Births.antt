-- The births of a tenant's objects, in their order. A state does not record in which order its
-- objects were created, and a program its maps by the descriptors that they had when it was loaded.
-- This project's own.
use Rattle.std.specs.Prelude.{◌≡◌, ◌≢◌, ℕ, ◌+◌, ◌<◌, ◌≤◌, ◌==◌, Bool, true, false, List, [], ◌∷◌, ℤ}
use Rattle.std.specs.Prelude.{pos, negsuc, Option, Some, None, IsSome, is_some, filter, if◌then◌else◌}
use Rattle.std.specs.List.{list_any, AllByRecursion}
use Rattle.command_frames.specs.Command.{Command, map_create, map_lookup, map_update, map_delete, map_next_key, prog_load, prog_test_run, close}
use Rattle.fd_table.specs.Table.{first_descriptor, most, named}
use Rattle.tenant.specs.declared.object.OpenObject.{OpenObject}
use Rattle.tenant.specs.declared.object.OpenObject.TheVariants as object
use Rattle.tenant.specs.Loaded.{LoadedProgram}
use Rattle.tenant.specs.State.{TenantState, live}
use Rattle.tenant.specs.Machine.{Answer}
pub use Rattle.saving.specs.declared.birth.Birth.{Birth}
pub use Rattle.saving.specs.declared.birth.Birth.TheVariants.{OfMap, OfProgram}

-- the descriptor fd at which the object of a birth was opened: a map, with this handle (`OfMap`),
-- or a program (`OfProgram`). The commands that restore a tenant open the object at fd again
-- (`born`), so that programs find their maps. A program has a birth only while it is open at fd. A
-- map may live on after its descriptor was closed, and fd may then name a later object
abbrev pub descriptor_of : Birth → ℕ
descriptor_of (OfMap handle fd) = fd
descriptor_of (OfProgram fd) = fd

-- the birth of an object that is opened at descriptor fd
abbrev pub birth_of : ℕ → OpenObject → Birth
birth_of fd (object.Map handle) = OfMap handle fd
birth_of fd (object.Program l) = OfProgram fd

-- ---- lists of births, the latest first

-- the latest birth at descriptor fd in a list with the latest first; None if the list has none at
-- fd. A descriptor may have several births: those of maps that live on after it was closed, and
-- that of the object that was opened there later. When a restore has created the objects of the
-- births in the list, the oldest first, fd names the object of its latest birth
abbrev pub latest_at : List Birth → ℕ → Option Birth
latest_at [] fd = None
latest_at (b ∷ older) fd = if descriptor_of b == fd then Some b else latest_at older fd

-- whether a birth is that of the map with this handle
abbrev pub is_of_map : ℕ → Birth → Bool
is_of_map handle (OfMap p fd) = p == handle
is_of_map handle (OfProgram fd) = false

-- whether a birth is that of a program at descriptor fd
abbrev pub is_of_program : ℕ → Birth → Bool
is_of_program fd (OfMap p n) = false
is_of_program fd (OfProgram n) = n == fd

-- what the birth of a map requires: the map is live, and no older birth is of this map
abbrev pub IsMapBorn : TenantState → List Birth → ℕ → Type 0
IsMapBorn s older handle = IsSome (live s handle) × (list_any (is_of_map handle) older ≡ false)

-- what the birth of a program requires: descriptor fd names the program, and each of its maps, m,
-- has a descriptor m.0 other than fd, at which the latest older birth is that of the map. So if
-- objects are created in the order of their births, a load finds its maps
abbrev pub IsProgramBorn : TenantState → List Birth → ℕ → Type 0
IsProgramBorn s older fd =
    (l : LoadedProgram) × (named s.objects fd ≡ Some (object.Program l))
    × AllByRecursion (λ m. (m.0 ≢ fd) × (latest_at older m.0 ≡ Some (OfMap m.1 m.0))) l.maps

-- what a birth requires of the state and of the older births: that of a map, or of a program
abbrev pub IsBorn : TenantState → List Birth → Birth → Type 0
IsBorn s older (OfMap handle fd) = IsMapBorn s older handle
IsBorn s older (OfProgram fd) = IsProgramBorn s older fd

-- births, the latest first, are in order. Each has a descriptor of the table, and no older birth
-- of a program has the same one, since a closed program has no birth. What each birth requires
-- holds (`IsBorn`): its object is live, and the births of a program's maps are older than its own
abbrev pub AreInOrder : TenantState → List Birth → Type 0
AreInOrder s [] = Unit {0}
AreInOrder s (b ∷ older) =
    (first_descriptor ≤ descriptor_of b)
    × (descriptor_of b < first_descriptor + most)
    × (list_any (is_of_program (descriptor_of b)) older ≡ false)
    × IsBorn s older b
    × AreInOrder s older

-- the births of the live maps and the open programs of a state, with the latest first; the latest
-- at an open descriptor is that of its object
pub record AreBirths (s : TenantState) (births : List Birth) : Type 0 where
  pub order : AreInOrder s births
  pub latest : (fd : ℕ) (o : OpenObject)
      → named s.objects fd ≡ Some o
      → latest_at births fd ≡ Some (birth_of fd o)

-- ---- the births after a command

-- whether a descriptor names a program, from the object that it names; false for a map, and for
-- None, if the descriptor is free. By `lives`, CLOSE keeps the birth of a program if, after the
-- command, this is true of the birth's descriptor
abbrev pub is_open_program : Option OpenObject → Bool
is_open_program None = false
is_open_program (Some (object.Map handle)) = false
is_open_program (Some (object.Program l)) = true

-- whether the object of a birth is live: the map is, or the descriptor of the birth names a program
abbrev pub lives : TenantState → Birth → Bool
lives s (OfMap handle fd) = is_some (live s handle)
lives s (OfProgram fd) = is_open_program (named s.objects fd)

-- the births, with that of an object at descriptor fd in front, as the latest; unchanged if there
-- is no object (None)
abbrev pub with_birth : ℕ → Option OpenObject → List Birth → List Birth
with_birth fd None births = births
with_birth fd (Some o) births = birth_of fd o ∷ births

-- the births after MAP_CREATE or PROG_LOAD, from `births`, those before it, by the status of its
-- reply and s, the tenant's state after it. `pos fd`, a status from 0 on, is the descriptor of the
-- object that was opened: its birth is added in front, as the latest (`with_birth`). `negsuc n`, a
-- negative status, is an error, with which no object was opened: the births are unchanged
abbrev pub with_opened : ℤ → TenantState → List Birth → List Birth
with_opened (pos fd) s births = with_birth fd (named s.objects fd) births
with_opened (negsuc n) s births = births

-- the list of births, the latest first, after a command; `births` is the list before it, and a is
-- the command's result (`Answer`), with the status of the reply and the state after the command
-- (`a.after`). MAP_CREATE and PROG_LOAD, if they succeed, add the birth of the object that they
-- opened (`with_opened`). CLOSE removes the births of objects that are not live in `a.after`, and
-- keeps the others (`lives`). Every other command opens and closes no object, so the list is
-- unchanged
abbrev pub births_after : Command → Answer → List Birth → List Birth
births_after (map_create kind key value max flags) a births = with_opened a.status a.after births
births_after (prog_load kind slots) a births = with_opened a.status a.after births
births_after (close fd) a births = filter (lives a.after) births
births_after (map_lookup fd key) a births = births
births_after (map_update fd flags bytes) a births = births
births_after (map_delete fd key) a births = births
births_after (map_next_key fd key) a births = births
births_after (prog_test_run fd words packet) a births = births
