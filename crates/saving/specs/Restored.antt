-- The commands that restore a state: a walk over the births in order. Each descriptor is open at
-- all times, if to nothing else then to a program of two instructions, so a new object gets the
-- descriptor that was closed last. This project's own.
use Rattle.std.specs.Prelude.{◌≡◌, ℕ, zero, suc, ◌+◌, pos, false, List, [], ◌∷◌, ◌++◌, map, Option, Some, None, is_none, if◌then◌else◌}
use Rattle.insn_set.specs.declared.insn.Insn.{Insn}
use Rattle.insn_set.specs.Program.{program_bytes}
use Rattle.command_frames.specs.Command.{Command, map_create, map_update, prog_load, close}
use Rattle.fd_table.specs.Table.{first_descriptor, most, named}
use Rattle.tagged_model.specs.declared.shape.MapShape.{MapShape}
use Rattle.tenant.specs.Described.{type_number}
use Rattle.tenant.specs.declared.object.OpenObject.{OpenObject}
use Rattle.tenant.specs.declared.object.OpenObject.TheVariants as object
use Rattle.tenant.specs.State.{Map, TenantState, live}
use Rattle.tenant.specs.Machine.{Answer, Answers}
use Rattle.saving.specs.Filler.{filler}
use Rattle.saving.specs.Births.{Birth, OfMap, OfProgram, descriptor_of}

-- ---- the commands that create an object

-- the command that loads a program, of type 1, a socket filter: no other type can be loaded
abbrev pub load_of : List Insn → Command
load_of insns = prog_load 1 (program_bytes insns)

-- the command that creates a map of this shape, with flags 0
abbrev pub create_of : MapShape → Command
create_of shape =
    map_create (type_number shape.kind) shape.key_size shape.value_size shape.max_entries 0

-- the command that puts a key, e.0, and its value, e.1, into the map at fd, with flags 0 (BPF_ANY)
abbrev pub put_of : ℕ → List ℕ × List ℕ → Command
put_of fd e = map_update fd 0 (e.0 ++ e.1)

-- the commands that create this map and put its keys at descriptor fd; none for a map that is not
-- live (None), of which there is no birth
abbrev pub made_map : ℕ → Option Map → List Command
made_map fd None = []
made_map fd (Some t) = create_of t.shape ∷ map (put_of fd) t.entries

-- the commands that create again, in a restored tenant, the program whose loading a birth records.
-- The argument is what the birth's descriptor names in the state that is restored. For a program l
-- this is one command, which loads its instructions (`load_of`). There is no command for a free
-- descriptor (None) or a map; neither occurs, since that descriptor names a program
abbrev pub made_program : Option OpenObject → List Command
made_program None = []
made_program (Some (object.Map handle)) = []
made_program (Some (object.Program l)) = load_of l.insns ∷ []

-- the commands that create the object of a birth: a map and then its keys, or a program
abbrev pub made : TenantState → Birth → List Command
made s (OfMap handle fd) = made_map fd (live s handle)
made s (OfProgram fd) = made_program (named s.objects fd)

-- ---- the walk

-- n commands, each of which loads the filler, a program that returns 0. A new tenant opens n
-- descriptors by them. With n = `most`, the number of all descriptors, all are open: if one is then
-- closed, the next object gets this descriptor
unfoldable pub filled : ℕ → List Command
filled zero = []
filled (suc n) = load_of filler ∷ filled n

-- the commands that create the objects of these births, the oldest first; the list of births has
-- the latest first. Before each object its descriptor is closed, so that it is the only free one
abbrev pub born : TenantState → List Birth → List Command
born s [] = []
born s (b ∷ older) = born s older ++ (close (descriptor_of b) ∷ made s b)

-- the commands that close, of the n descriptors from fd on, those that are not open in the state
-- with these objects; the commands before them leave all descriptors open
unfoldable pub closings : List (Option OpenObject) → ℕ → ℕ → List Command
closings objects fd zero = []
closings objects fd (suc n) =
    (if is_none (named objects fd) then close fd ∷ [] else []) ++ closings objects (fd + 1) n

-- all commands that restore a state with these births, the latest first: each descriptor is opened,
-- each object is created, and the descriptors that are not open in s are closed
abbrev pub restored : TenantState → List Birth → List Command
restored s births = filled most ++ (born s births ++ closings s.objects first_descriptor most)

-- ---- commands one after another

-- each command succeeds, without refusals of memory, and they lead from state s to t
abbrev pub Leads : TenantState → List Command → TenantState → Type 0
Leads s [] t = t ≡ s
Leads s (c ∷ cs) t =
    (a : Answer) × Answers false s c a × ((n : ℕ) × (a.status ≡ pos n)) × Leads a.after cs t
