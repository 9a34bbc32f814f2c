-- Laws of alike states, of births, and of the commands and the frames that restore a state. This
-- project's own.
use Rattle.std.specs.Prelude.{◌≡◌, ℕ, ◌+◌, ◌^◌, ◌≤◌, ◌<◌, Bool, List, [], ◌∷◌, length, map, Option, Some}
use Rattle.std.specs.List.{AllByRecursion}
use Rattle.command_frames.specs.Command.{Command, prog_test_run}
use Rattle.words.specs.Context.{given_words}
use Rattle.fd_table.specs.Table.{most}
use Rattle.bpf_maps.specs.Limits.{most_maps}
use Rattle.tenant.specs.State.{TenantState, new_tenant}
use Rattle.tenant.specs.Batch.{BatchInput, AreTestRuns}
use Rattle.tenant.specs.Machine.{Answer, Answers, longest_packet}
use Rattle.tenant.specs.Alone.{IsServedAlone, AloneWithRefusals}
use Rattle.saving.specs.Alike.{IsAlike, IsAlikeResult, HoldsItsMaps}
use Rattle.saving.specs.Births.{Birth, AreBirths, births_after}
use Rattle.saving.specs.Restored.{restored, Leads}
use Rattle.command_frames.specs.Encoded.{frame_of}
use Rattle.saving.specs.Frames.{AreGood}
use Rattle.saving.specs.Restorable.{IsRestorable}

-- exactly the maps that an open object names are live (`HoldsItsMaps`): in a new tenant, and after
-- each command before which that is so, whether memory is refused to the command (`refused`) or not
pub record MapsAreHeld : Type 0 where
  pub new : HoldsItsMaps new_tenant
  pub kept : (refused : Bool) (s : TenantState) (command : Command) (a : Answer)
      → HoldsItsMaps s → Answers refused s command a → HoldsItsMaps a.after

-- a bisimulation: if s and t are alike and s gives a command the result a, t can give it one with
-- equal status and payload, and the states after them are alike. `refused` is whether memory
-- is refused to the command
abbrev pub AlikeIsBisimulation : Type 0
AlikeIsBisimulation =
    (refused : Bool) (s t : TenantState) (command : Command) (a : Answer)
    → HoldsItsMaps s → HoldsItsMaps t → IsAlike s t → Answers refused s command a
    → (b : Answer) × Answers refused t command b × IsAlikeResult a b

-- if s and t are alike, t can give a list of frames each list of replies that s can give: if no
-- memory is refused (`alone`), and if it may be (`refused`). If none is refused, t can give no
-- other replies (`same`)
pub record AlikeStatesReplyAlike : Type 0 where
  pub alone : (s t : TenantState) (frames replies : List (List ℕ)) (after : Option TenantState)
      → HoldsItsMaps s
      → HoldsItsMaps t
      → IsAlike s t
      → IsServedAlone (Some s) frames replies after
      → (end : Option TenantState) × IsServedAlone (Some t) frames replies end
  pub refused : (s t : TenantState) (frames replies : List (List ℕ)) (after : Option TenantState)
      → HoldsItsMaps s
      → HoldsItsMaps t
      → IsAlike s t
      → AloneWithRefusals (Some s) frames replies after
      → (end : Option TenantState) × AloneWithRefusals (Some t) frames replies end
  pub same : (s t : TenantState) (frames replies others : List (List ℕ))
      (after end : Option TenantState)
      → HoldsItsMaps s
      → HoldsItsMaps t
      → IsAlike s t
      → IsServedAlone (Some s) frames replies after
      → IsServedAlone (Some t) frames others end
      → others ≡ replies

-- the births of a tenant's objects: a new tenant has none; if a list is that of the births before a
-- command, `births_after` is that after it; and there are at most one for each descriptor and one
-- for each map
pub record BirthsAreKept : Type 0 where
  pub new : AreBirths new_tenant []
  pub kept : (refused : Bool) (s : TenantState) (command : Command) (a : Answer)
      (births : List Birth) → HoldsItsMaps s → AreBirths s births → Answers refused s command a
      → AreBirths a.after (births_after command a births)
  pub few : (s : TenantState) (births : List Birth)
      → HoldsItsMaps s
      → AreBirths s births
      → length births ≤ most + most_maps

-- if a state s can be restored (`IsRestorable`), and `births` are its births: a new tenant to which
-- no memory is refused succeeds at each of the commands that restore s, and the state t after them
-- is alike to s
abbrev pub RestoredIsAlike : Type 0
RestoredIsAlike =
    (s : TenantState) (births : List Birth)
    → IsRestorable s
    → AreBirths s births
    → (t : TenantState) × Leads new_tenant (restored s births) t × IsAlike s t × HoldsItsMaps t

-- a test run fits into a frame: it has ten words of context, each in four bytes, and a packet that
-- is not too long
abbrev pub FitsFrame : BatchInput → Type 0
FitsFrame input =
    (length input.words ≡ given_words) × AllByRecursion (λ word. word < 2 ^ 32) input.words
    × (length input.packet ≤ longest_packet)

-- the frame by which `tenant` runs the program at descriptor fd on these words and this packet
abbrev pub test_run_frame : ℕ → ℕ → BatchInput → List ℕ
test_run_frame tenant fd input = frame_of tenant (prog_test_run fd input.words input.packet)

-- test runs that fit into frames have frames, which are parsed as these test runs: so the runs of a
-- batch, which has no frames, are those of some frames
abbrev pub TestRunsHaveFrames : Type 0
TestRunsHaveFrames =
    (tenant fd : ℕ) (inputs : List BatchInput) → fd < 2 ^ 32 → AllByRecursion FitsFrame inputs
    → AreTestRuns fd (map (test_run_frame tenant fd) inputs) inputs

-- if a state s can be restored (`IsRestorable`), and `births` are its births: a new tenant to which
-- no memory is refused succeeds at each of the frames that restore s, and the state t after them is
-- alike to s
abbrev pub RestoredByFrames : Type 0
RestoredByFrames =
    (tenant : ℕ) (s : TenantState) (births : List Birth) → IsRestorable s → AreBirths s births
    → (t : TenantState)
    × (replies : List (List ℕ))
    × IsServedAlone (Some new_tenant) (map (frame_of tenant) (restored s births)) replies (Some t)
    × AreGood (map (frame_of tenant) (restored s births)) replies × IsAlike s t × HoldsItsMaps t

-- the precondition of restoring a state (`IsRestorable`) holds for a new tenant, and each command
-- preserves it, whether memory is refused to it or not
pub record RestorableIsKept : Type 0 where
  pub new : IsRestorable new_tenant
  pub kept : (refused : Bool) (s : TenantState) (command : Command) (a : Answer)
      → IsRestorable s → Answers refused s command a → IsRestorable a.after

-- ---- histories

-- these commands, one after another, lead from state s with `births` to state t with the births
-- `later`; memory may be refused to each of them
abbrev pub IsHistory : TenantState → List Birth → List Command → TenantState → List Birth → Type 0
IsHistory s births [] t later = (t ≡ s) × (later ≡ births)
IsHistory s births (c ∷ cs) t later =
    (refused : Bool) × (a : Answer) × Answers refused s c a
    × IsHistory a.after (births_after c a births) cs t later

-- A new tenant succeeds at each of the frames `saved`. From then on, if no memory is refused, it
-- can give each list of frames the replies that s gives, and no others.
abbrev pub IsRestoredBy : TenantState → List (List ℕ) → Type 0
IsRestoredBy s saved =
    (t : TenantState)
    × (given : List (List ℕ))
    × IsServedAlone (Some new_tenant) saved given (Some t)
    × AreGood saved given
    × ((frames replies : List (List ℕ)) (after : Option TenantState)
    → IsServedAlone (Some s) frames replies after
    → (end : Option TenantState) × IsServedAlone (Some t) frames replies end)
    × ((frames replies others : List (List ℕ)) (after end : Option TenantState)
    → IsServedAlone (Some s) frames replies after
    → IsServedAlone (Some t) frames others end
    → others ≡ replies)

-- the state after any history of a new tenant is restored by the frames of its save
abbrev pub HistoriesAreRestored : Type 0
HistoriesAreRestored =
    (tenant : ℕ) (commands : List Command) (s : TenantState) (births : List Birth)
    → IsHistory new_tenant [] commands s births
    → IsRestoredBy s (map (frame_of tenant) (restored s births))
