-- What a run of an accepted program executes is a path from slot 0.
use Rattle.std.proofs.Common.{◌≡◌, ℕ, ℤ, pos, ◌+ℤ◌, zero, suc, ◌+◌, ◌<◌, ◌≤◌, Bool, true, false, List, length, Option, Some, None, refl, subst, inl, inr, arith}
use Rattle.std.specs.Option.{IsSome}
use Rattle.std.proofs.lemmas.Bool.{false≢true}
use Rattle.insn_set.specs.declared.insn.Insn.{Insn}
use Rattle.insn_set.specs.View.{View, Access, WideValue, binary, unary, jump, branch, access, wide_load}
use Rattle.insn_set.specs.View.{call, exit, loads, stores, changes, immediate, map_ref, value_ref, view}
use Rattle.insn_set.specs.Profile.{profile_of}
use Rattle.insn_set.specs.Program.{IsProgram, slot_count, begins_at}
use Rattle.insn_set.specs.Flow.{falls_by, jumps_by, slot_of_integer}
use Rattle.words.specs.Operate.{operate}
use Rattle.words.specs.Widths.{width}
use Rattle.tagged_model.specs.declared.shape.Named.{Named}
use Rattle.tagged_model.specs.declared.value.Tagged.{Tagged}
use Rattle.tagged_model.specs.declared.value.Tagged.TheVariants.{Scalar, Map, Pointer}
use Rattle.tagged_model.specs.State.{RunState, load, store}
use Rattle.tagged_model.specs.Values.{arithmetic, first_operand, of_number, compared}
use Rattle.tagged_model.specs.Table.{direct_object}
use Rattle.tagged_model.specs.Helpers.{called, helper_of}
use Rattle.tagged_model.specs.Step.{Step, goes, ends, faults, or_fault, operand_value, changed, jumped, branched}
use Rattle.tagged_model.specs.Step.{ended, accessed, loaded_wide, act_of, act, Ending, ending_after, run, start_of_run}
use Rattle.verifier.specs.declared.cost.Cost.{Cost}
use Rattle.verifier.specs.Cost.{is_exit, IsPath, IsCostOf}
use Rattle.verifier.specs.Maps.{shapes_of}
use Rattle.verifier.specs.Runs.{executed_by, executed_at, executed, executed_of, RunsArePaths, RunsCostAtMost, AcceptedRunsArePaths}
use Rattle.verifier.specs.Sound.{IsAdmitted, NextIsAdmitted}
use Rattle.verifier.specs.Verdict.{IsAccepted}
use Rattle.verifier.proofs.Arrivals.{begins_before}
use Rattle.verifier.proofs.Runs.{within, beginning}
use Rattle.verifier.proofs.Steps.{Laws, TakesEdge, each_step, each_step_along}
use Rattle.tagged_model.specs.Named.{Shapes}

-- ---- only an exit ends a run

abbrev EndsAtExit : View → Step → Type 0
EndsAtExit v (goes t) = Unit {0}
EndsAtExit v (ends n) = (falls_by (profile_of v).successors ≡ false) × (jumps_by (profile_of v).successors ≡ false)
EndsAtExit v faults = Unit {0}

-- a step that depends on a value, if there is one
after : {A : Type 0} (v : View) (o : Option A) (go : A → Step)
    → ((x : A) → EndsAtExit v (go x)) → EndsAtExit v (or_fault o go)
after v None go h = tt
after v (Some x) go h = h x

jump_goes : (v : View) (s : RunState) (off : ℤ) → EndsAtExit v (jumped s off)
jump_goes v s off = after v (slot_of_integer (pos (s.at + 1) +ℤ off)) _ (λ n. tt)

branch_goes : (v : View) (s : RunState) (off : ℤ) (yes : Bool) → EndsAtExit v (branched s off yes)
branch_goes v s off true = jump_goes v s off
branch_goes v s off false = tt

access_goes : (v : View) (s : RunState) (what : Access) (p : Tagged) (off : ℤ) → EndsAtExit v (accessed s what p off)
access_goes v s (loads size signed dst) p off = after v (load s size signed p off) _ (λ x. tt)
access_goes v s (stores size src) p off =
    after v (operand_value s true src) _ (λ x. after v (store s size p off x) _ (λ t. tt))
access_goes v s (changes size op src) p off =
    after v (s.registers src) _ (λ x. after v (changed s size op p off x) _ (λ t. tt))

wide_goes : (v : View) (s : RunState) (dst : ℕ) (value : WideValue) → EndsAtExit v (loaded_wide s dst value)
wide_goes v s dst (immediate n) = tt
wide_goes v s dst (map_ref m) = after v (s.maps m) _ (λ t. tt)
wide_goes v s dst (value_ref m off) = after v (s.maps m) _ (λ t. after v (direct_object t.table off) _ (λ n. tt))

exit_ends : (v : Tagged) → EndsAtExit exit (ended v)
exit_ends (Scalar n) = (refl, refl)
exit_ends (Map m) = tt
exit_ends (Pointer object off) = tt

ends_at_exit : (v : View) (s : RunState) → EndsAtExit v (act_of v s)
ends_at_exit (binary wide op dst src) s =
    let v = binary wide op dst src in
    after v (first_operand op (s.registers dst)) _
    (λ a. after v (operand_value s wide src) _ (λ b. after v (arithmetic wide op a b) _ (λ x. tt)))
ends_at_exit (unary wide op dst src) s =
    let v = unary wide op dst src in
    after v (s.registers src) _ (λ a. after v (of_number (λ n. operate (width wide) op n n) a) _ (λ x. tt))
ends_at_exit (jump off) s = jump_goes (jump off) s off
ends_at_exit (branch wide cond dst src off) s =
    let v = branch wide cond dst src off in
    after v (s.registers dst) _
    (λ a.
    after v (operand_value s wide src) _ (λ b. after v (compared wide cond src a b) _ (λ yes. branch_goes v s off yes)))
ends_at_exit (access what base off) s =
    let v = access what base off in
    after v (s.registers base) _ (λ p. access_goes v s what p off)
ends_at_exit (wide_load dst value) s = wide_goes (wide_load dst value) s dst value
ends_at_exit (call id) s =
    let v = call id in
    after v (helper_of id) _ (λ h. after v (called h s) _ (λ t. tt))
ends_at_exit exit s = after exit (s.registers 0) _ exit_ends

is_exit_at : (i : Insn) (s : RunState) (n : ℕ) → act i s ≡ ends n → is_exit i ≡ true
is_exit_at i s n e =
    let no = subst (EndsAtExit (view i)) e (ends_at_exit (view i) s) in
    rw (no.0, no.1) refl

-- ---- a run

-- the instructions are a path from this slot, one in each step
abbrev GoesAlong : List Insn → ℕ → List Insn → ℕ → Type 0
GoesAlong code at is steps = IsPath code at is × (length is ≡ steps)

module _ (laws : Laws) (code : List Insn) (named : List Named) (program : IsProgram code)
    (accepted : IsAccepted code named) where
  after_step : (s : RunState) (i : Insn) (st : Step) (rest : RunState → List Insn) (go : RunState → Ending)
      → begins_at code s.at ≡ Some i → act i s ≡ st
      → NextIsAdmitted (shapes_of code named) code s.at st
      → TakesEdge i s.at st
      → ((t : RunState) → s.at < t.at → IsAdmitted (shapes_of code named) code t
      → GoesAlong code t.at (rest t) (go t).steps)
      → GoesAlong code s.at (executed_by i st rest) (ending_after st s go).steps
  after_step s i (goes t) rest go begins e next edge on =
      let later = on t next.0 next.1 in
      ((begins, inr (t.at, edge, later.0)), omega (arith, later.1))
  after_step s i (ends n) rest go begins e next edge on = ((begins, inl (is_exit_at i s n e, refl)), refl)
  after_step s i faults rest go begins e next edge on = absurd next

  from_slot : (s : RunState) (o : Option Insn) (rest : RunState → List Insn) (go : RunState → Ending)
      → begins_at code s.at ≡ o → IsAdmitted (shapes_of code named) code s
      → ((t : RunState) → s.at < t.at → IsAdmitted (shapes_of code named) code t
      → GoesAlong code t.at (rest t) (go t).steps)
      → GoesAlong code s.at (executed_at o s rest) (ending_after (or_fault o (λ i. act i s)) s go).steps
  from_slot s None rest go begins here on =
      absurd (false≢true (subst (λ (o : Option Insn). IsSome o) begins
      (begins_before (shapes_of code named) code named program accepted.0 s.at here.facts here.known)))
  from_slot s (Some i) rest go begins here on =
      let next =
      subst (λ (o : Option Insn). NextIsAdmitted (shapes_of code named) code s.at (or_fault o (λ i. act i s)))
      begins
      (each_step laws code named s program accepted here) in
      after_step s i (act i s) rest go begins refl next
      (each_step_along laws code named s i program accepted here begins)
      on

  along_path : (n : ℕ) (s : RunState)
      → slot_count code ≤ s.at + n → IsAdmitted (shapes_of code named) code s
      → GoesAlong code s.at (executed code n s) (run code n s).steps
  unfolding run executed
  along_path zero s enough here =
      absurd (let inside = within (each_step laws) code named program accepted s here in omega arith)
  along_path (suc n) s enough here =
      from_slot s (begins_at code s.at) (executed code n) (run code n) refl here
      (λ t farther there. along_path n t (omega arith) there)

pub runs_are_paths : Laws → AcceptedRunsArePaths
runs_are_paths laws code named program accepted maps words packet given =
    along_path laws code named program accepted (slot_count code) (start_of_run maps words packet)
    (omega arith)
    (beginning (shapes_of code named) code maps words packet given)

-- ---- what a run costs

-- if the runs of a program are paths from slot 0, none has more steps or calls than the cost
pub runs_cost_at_most : (cost : Cost) (shapes : Shapes) (code : List Insn)
    → IsCostOf cost code → RunsArePaths shapes code
    → RunsCostAtMost cost shapes code
runs_cost_at_most cost shapes code is paths maps words packet given =
    let path = paths maps words packet given in (
      subst (λ (n : ℕ). n ≤ cost.instructions) path.1 (is.0.0 (executed_of code maps words packet) path.0),
      is.1.0 (executed_of code maps words packet) path.0,
    )
