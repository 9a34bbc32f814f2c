-- Replies to test runs.
use Rattle.std.proofs.Common.{◌≡◌, ℕ, ◌≤◌, Bool, false, List, [], ◌∷◌, length, Option, Some, sym, ap, ap₂, subst, ◌∙◌, arith}
use Rattle.std.specs.Prelude.{◌||◌, nat_lt, if◌then◌else◌}
use Rattle.std.proofs.lemmas.Bool.Decides.{nat_tests}
use Rattle.bpf_maps.specs.Live.{LiveMaps}
use Rattle.fd_table.specs.Table.{named}
use Rattle.flat_machine.specs.Runs.{RunInput, Standing, run_on, SimulatesRun, RunKeepsMaps, KeepsValues}
use Rattle.insn_set.specs.declared.insn.Insn.{Insn}
use Rattle.tagged_model.specs.Step.{MapsByDescriptor, left_of}
use Rattle.tagged_model.specs.declared.value.Outcome.{Outcome}
use Rattle.verifier.specs.Laws.{MapsAreListed}
use Rattle.tenant.specs.declared.errno.Errno.TheVariants.{TooBig}
use Rattle.tenant.specs.declared.object.OpenObject.TheVariants as object
use Rattle.tenant.specs.Kept.{KeptTenant, IsWellFormedTenant, IsBound, state_in}
use Rattle.tenant.specs.Loaded.{LoadedProgram, map_handles}
use Rattle.tenant.specs.Machine.{outcome_result, ran, run_of, refuses, maps_given, longest_packet}
use Rattle.tenant.specs.State.{Map, TenantState}
use Rattle.tenant.proofs.StillKept.{with_live}
use Rattle.tenant.proofs.TestRunKeys.{bound_of}
use Rattle.tenant.proofs.TestRunMaps.{stood, given_is, left_is}

-- a packet that is not too long
fits_is : (s : TenantState) (l : LoadedProgram) (words packet : List ℕ)
    → length packet ≤ longest_packet
    → ran s l words packet ≡ run_of s words packet (Some (object.Program l))
fits_is s l words packet fits =
    let within : nat_lt longest_packet (length packet) ≡ false = grind (arith, nat_tests) in
    ap (λ (b : Bool). if b then refuses TooBig s else ran s l words packet) (sym within)

-- the premises on a run, and the state that it leaves
pub record HasRun (k : KeptTenant) (l : LoadedProgram) (words packet : List ℕ) (part : List ℕ)
    (first : ℕ) (outcome : Outcome) (after : Standing) : Type 0 where
  -- the tenant is well formed before the run
  pub kept : IsWellFormedTenant k
  -- the program is bound to the tenant's live maps
  pub bound : IsBound k.live l
  -- the run of the code simulates the tagged run of the program
  pub runs : SimulatesRun (run_on l.insns (map_handles l) (stood k.live part first) (length packet ∷ words) packet)
      (stood k.live part first) outcome after
  -- the run keeps the live maps, each with its shape, its area and its holds
  pub maps : RunKeepsMaps (map_handles l) k.live after.maps
  -- the live maps that are not bound have the same values after the run
  pub values : KeepsValues (map_handles l) (stood k.live part first) after

ran_as : MapsAreListed
    → {k : KeptTenant} {l : LoadedProgram} {words packet part : List ℕ} {first : ℕ}
    {outcome : Outcome} {after : Standing}
    → HasRun k l words packet part first outcome after
    → outcome_result outcome (state_in after.part (with_live k after.maps)) ≡ ran (state_in part k) l words packet
ran_as listed {k} {l} {words} {packet} {part} {first} {outcome} {after} h =
    let s = state_in part k in
    let bind = map_handles l in
    let given = maps_given s l in
    let context = length packet ∷ words in
    let input : RunInput = record { code = l.insns; bind = bind; maps = given; context = context; packet = packet } in
    let r : SimulatesRun input (stood k.live part first) outcome after =
    subst (λ (m : MapsByDescriptor).
    SimulatesRun (record { code = l.insns; bind = bind; maps = m; context = context; packet = packet })
    (stood k.live part first) outcome after)
    (given_is part h.kept h.bound listed) h.runs in
    let maps = left_is h.kept h.bound listed h.maps h.values (left_of l.insns given context packet) r.left in
    let flag : (k.refused || after.maps.refused) ≡ s.refused = ap (λ (b : Bool). k.refused || b) r.flag in
    let state : state_in after.part (with_live k after.maps) ≡ _ =
    ap₂ (λ (ms : List (Option Map)) (b : Bool). record { objects = k.objects; maps = ms; refused = b })
    (sym maps) flag in
    ap₂ outcome_result r.value state

-- the reply to a test run of an open program, and the state after it
abbrev pub IsTold : (before : KeptTenant) (part : List ℕ) (fd : ℕ) (words packet : List ℕ)
    (outcome : Outcome) (later : List ℕ) (after : KeptTenant)
    → Type 0
IsTold before part fd words packet outcome later after =
    outcome_result outcome (state_in later after) ≡ run_of (state_in part before) words packet (named before.objects fd)

-- the outcome of the code's run of an open program is that of the machine, and so is the state after it
pub seen_of : MapsAreListed
    → {part later words packet bind context : List ℕ} {k : KeptTenant} {l : LoadedProgram}
    {new : LiveMaps} {code : List Insn} {before steps : ℕ}
    {outcome : Outcome} (fd : ℕ)
    → IsWellFormedTenant k
    → named k.objects fd ≡ Some (object.Program l)
    → length packet ≤ longest_packet → bind ≡ map_handles l
    → code ≡ l.insns → context ≡ length packet ∷ words
    → SimulatesRun (run_on code bind (stood k.live part before) context packet)
    (stood k.live part before) outcome (stood new later steps)
    → RunKeepsMaps bind k.live new
    → KeepsValues bind (stood k.live part before) (stood new later steps)
    → IsTold k part fd words packet outcome later (with_live k new)
seen_of listed {part} {later} {words} {packet} {bind} {context} {k} {l} {new} {code} {before}
    {steps} {outcome} fd kept opened fits handles same given runs keeps values =
    let found = stood k.live part before in
    let left = stood new later steps in
    let input :
    run_on code bind found context packet ≡ run_on l.insns (map_handles l) found (length packet ∷ words) packet =
    ap (λ (ws : List ℕ). run_on code bind found ws packet) given
    ∙ ap (λ (is : List Insn). run_on is bind found (length packet ∷ words) packet) same
    ∙ ap (λ (ps : List ℕ). run_on l.insns ps found (length packet ∷ words) packet) handles in
    let has : HasRun k l words packet part before outcome left = record {
      kept = kept;
      bound = bound_of fd kept opened;
      runs = subst (λ (asked : RunInput). SimulatesRun asked found outcome left) input runs;
      maps = subst (λ (ps : List ℕ). RunKeepsMaps ps k.live new) handles keeps;
      values = subst (λ (ps : List ℕ). KeepsValues ps found left) handles values;
    } in
    ran_as listed has
    ∙ fits_is (state_in part k) l words packet fits
    ∙ ap (λ o. run_of (state_in part k) words packet o) (sym opened)
