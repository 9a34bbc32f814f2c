-- Batches: why they are rejected, and their runs.
use Rattle.std.proofs.Common.{◌≡◌, ℕ, suc, ◌<◌, ◌≤◌, Bool, true, false, List, [], ◌∷◌, length, Option, Some, None, refl, ap, ◌∙◌, arith}
use Rattle.std.specs.Prelude.{nat_lt, option_map, if◌then◌else◌}
use Rattle.std.specs.List.{All}
use Rattle.std.proofs.lemmas.Bool.Decides.{nat_tests}
use Rattle.fd_table.specs.Table.{named}
use Rattle.flat_machine.specs.Batch.{RunsOnEach}
use Rattle.flat_machine.specs.Packets.{BatchInput, batch_fault}
use Rattle.flat_machine.specs.Runs.{Standing}
use Rattle.insn_set.specs.declared.insn.Insn.{Insn}
use Rattle.verifier.specs.Laws.{MapsAreListed}
use Rattle.tenant.specs.declared.errno.Errno.{Errno}
use Rattle.tenant.specs.declared.errno.Errno.TheVariants.{Invalid}
use Rattle.tenant.specs.declared.object.OpenObject.{OpenObject}
use Rattle.tenant.specs.declared.object.OpenObject.TheVariants as object
use Rattle.tenant.specs.Batch.{RunsBatch, RunsInOrder, object_refusal, else_refusal, packet_errno, packets_refusal, batch_refusal}
use Rattle.tenant.specs.Kept.{KeptTenant, IsWellFormedTenant, state_in}
use Rattle.tenant.specs.Loaded.{LoadedProgram, map_handles}
use Rattle.tenant.specs.Machine.{longest_packet}
use Rattle.tenant.specs.State.{TenantState}
use Rattle.tenant.proofs.StillKept.{with_live}
use Rattle.tenant.proofs.TestRunEnds.{seen_of}
use Rattle.tenant.proofs.TestRunKept.{kept_after}

-- ---- rejections

-- if there is room for all results, a batch on a program is rejected only for its packets
pub with_room : (o : Option OpenObject) (contexts many : ℕ) (ends : List ℕ) (room : ℕ)
    → object_refusal o ≡ None → length ends ≤ room
    → batch_refusal o contexts many ends room ≡ option_map packet_errno (batch_fault contexts many ends)
with_room o contexts many ends room program enough =
    let no_fewer : nat_lt room (length ends) ≡ false = grind (arith, nat_tests) in
    ap (λ (first : Option Errno). else_refusal first (packets_refusal contexts many ends room)) program
    ∙ ap (λ (b : Bool). if b then Some Invalid else option_map packet_errno (batch_fault contexts many ends)) no_fewer

-- a batch on a program with room for fewer results than packets is rejected as invalid
pub without_room : (o : Option OpenObject) (contexts many : ℕ) (ends : List ℕ) (room : ℕ)
    → object_refusal o ≡ None → room < length ends
    → batch_refusal o contexts many ends room ≡ Some Invalid
without_room o contexts many ends room program less =
    let fewer : nat_lt room (length ends) ≡ true = grind (arith, nat_tests) in
    ap (λ (first : Option Errno). else_refusal first (packets_refusal contexts many ends room)) program
    ∙ ap (λ (b : Bool). if b then Some Invalid else option_map packet_errno (batch_fault contexts many ends)) fewer

-- the refusal of the object that is named comes before all others
pub refused_first : {o p : Option OpenObject} {errno : Errno} (later : Option Errno)
    → o ≡ p → Some errno ≡ object_refusal o
    → Some errno ≡ else_refusal (object_refusal p) later
refused_first later same is =
    ap (λ (first : Option Errno). else_refusal first later) is
    ∙ ap (λ (o : Option OpenObject). else_refusal (object_refusal o) later) same

-- ---- no packets

-- a batch without packets has no results, and leaves the state as it is
pub none_run : (fd : ℕ) (s : TenantState) (inputs : List BatchInput) (room : List ℕ) → length inputs ≡ 0
    → RunsBatch fd s inputs room room s
unfolding RunsInOrder
none_run fd s [] room none = ([], refl, refl)
none_run fd s (input ∷ inputs) room none = absurd (omega (arith, none))

-- ---- the runs of the machine of words and bytes

module _ (listed : MapsAreListed) (fd : ℕ) (k : KeptTenant) (l : LoadedProgram)
    (opened : named k.objects fd ≡ Some (object.Program l))
    (code : List Insn) (bind : List ℕ) (handles : bind ≡ map_handles l) (same : code ≡ l.insns) where
  -- the tenant state that the words, bytes and live maps represent
  abbrev stood_for : Standing → TenantState
  stood_for s = state_in s.part (with_live k s.maps)

  -- the runs are the test runs of the machine of tagged values
  pub runs_in_order : (inputs : List BatchInput) (results : List ℕ) (before after : Standing)
      → IsWellFormedTenant (with_live k before.maps)
      → All (λ (input : BatchInput). length input.packet ≤ longest_packet) inputs
      → RunsOnEach code bind before inputs results after
      → RunsInOrder fd (stood_for before) inputs results (stood_for after)
  unfolding RunsInOrder RunsOnEach
  runs_in_order [] [] before after kept short none = ap stood_for none
  runs_in_order (input ∷ inputs) (result ∷ results) before after kept short (between, one, rest) =
      let seen =
      seen_of listed fd kept opened (short 0 input (omega arith)) handles same refl one.runs one.maps one.values in (
        stood_for between,
        seen,
        runs_in_order inputs results between after (kept_after kept one.maps)
            (λ i d lt. short (suc i) d (omega arith)) rest,
      )
  runs_in_order [] (result ∷ results) before after kept short wrong = absurd wrong
  runs_in_order (input ∷ inputs) [] before after kept short wrong = absurd wrong
