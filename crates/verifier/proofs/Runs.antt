-- No run of an accepted program faults.
use Rattle.std.proofs.Common.{◌≡◌, ◌≢◌, ℕ, zero, suc, ◌+◌, ◌<◌, ◌≤◌, ◌==◌, pos, Bool, true, false, if◌then◌else◌, List, Option, Some, None, refl, arith}
use Rattle.std.specs.Option.{IsSome}
use Rattle.std.proofs.lemmas.Bool.{false≢true}
use Rattle.std.proofs.lemmas.Option.{none-some}
use Rattle.insn_set.specs.declared.insn.Insn.{Insn}
use Rattle.insn_set.specs.Program.{IsProgram, slot_count, begins_at}
use Rattle.insn_set.specs.BeginLaws.{begins_within}
use Rattle.reg_kinds.specs.declared.kind.Kind.TheVariants as kind
use Rattle.reg_kinds.specs.declared.kind.Slot.TheVariants.{Bytes}
use Rattle.reg_kinds.specs.Kinds.{entry_kind, entry}
use Rattle.reg_kinds.specs.TableLaws.{in_table}
use Rattle.tagged_model.specs.declared.shape.Named.{Named}
use Rattle.tagged_model.specs.declared.value.Object.TheVariants as object
use Rattle.tagged_model.specs.Named.{Shapes}
use Rattle.tagged_model.specs.declared.value.Tagged.TheVariants.{Scalar, Pointer}
use Rattle.tagged_model.specs.declared.value.Outcome.TheVariants.{Value, Fault}
use Rattle.tagged_model.specs.Cells.{bytes}
use Rattle.tagged_model.specs.State.{RunState}
use Rattle.tagged_model.specs.Step.{Step, goes, ends, faults, step, Ending, ending_after, run, begins_with, MapsByDescriptor, start_of_run}
use Rattle.abstraction.specs.Admits.{Witness, objects_of, HasKind, HasSlot, AdmitsBy}
use Rattle.abstraction.specs.AdmitsLaws.{no_bytes}
use Rattle.verifier.specs.Maps.{shapes_of}
use Rattle.verifier.specs.Before.{facts_from_below, facts_before}
use Rattle.verifier.specs.Verdict.{IsAccepted}
use Rattle.verifier.specs.Sound.{IsAdmitted, NextIsAdmitted, StepsGoOn, AreRunInputs, NeverFaults}
use Rattle.verifier.proofs.FirstMaps.{first_values, maps_at_start}
use Rattle.verifier.proofs.Arrivals.{begins_before}

-- ---- at the beginning

-- the empty witness: no look-up, and no object
abbrev nothing : Witness
nothing = record { gave = λ site. Scalar 0; objects = λ m. 0 }

-- the context and the frame pointer
begins_of : (a b : Bool)
    → HasKind nothing
    (if a then kind.Ctx else (if b then kind.Stack (pos 0) else kind.Unreadable))
    (if a then Some (Pointer object.Context (pos 0)) else (if b then Some (Pointer object.Stack (pos 0)) else None))
begins_of true b = (Pointer object.Context (pos 0), refl, refl)
begins_of false true = (Pointer object.Stack (pos 0), refl, refl)
begins_of false false = tt

least : (n : ℕ) → 0 ≤ n
least n = omega arith

entry_admits : (maps : MapsByDescriptor) (words packet : List ℕ)
    → AdmitsBy nothing entry (start_of_run maps words packet)
entry_admits maps words packet =
    record {
      registers = λ r.
          in_table (λ k. HasKind nothing k (begins_with r)) entry_kind 11 r kind.Unreadable
          (begins_of (r == 1) (r == 10)) tt;
      slots = λ i.
          in_table (λ t. HasSlot nothing t (bytes (λ j. None))) (λ i. Bytes 0) 64 i (Bytes 0)
          (no_bytes (bytes (λ j. None))) (no_bytes (bytes (λ j. None)));
      objects = λ m. least (objects_of ((start_of_run maps words packet).maps m));
    }

at_entry : (shapes : Shapes) (code : List Insn) → facts_before shapes code 0 ≡ Some entry
unfolding facts_from_below
at_entry shapes code = refl

-- the state at the start of a run with inputs that fit the shapes is admitted
pub beginning : (shapes : Shapes) (code : List Insn) (maps : MapsByDescriptor) (words packet : List ℕ)
    → AreRunInputs shapes maps words packet
    → IsAdmitted shapes code (start_of_run maps words packet)
beginning shapes code maps words packet given =
    record {
      witness = nothing;
      facts = entry;
      known = at_entry shapes code;
      still = record {
        admits = entry_admits maps words packet;
        proper = record {
          bytes = λ i j b e. absurd (none-some b e);
          words = given.small;
          count = given.count;
          values = first_values maps given.values;
          packet = given.bytes;
        };
        maps = maps_at_start shapes maps given.has;
      };
    }

-- ---- a run

some_insn : (o : Option Insn) → IsSome o → (i : Insn) × (o ≡ Some i)
some_insn None h = absurd (false≢true h)
some_insn (Some i) h = (i, refl)

value_no_fault : (n : ℕ) → Value n ≢ Fault
value_no_fault n e = cc

after_step : (shapes : Shapes) (code : List Insn) (s : RunState) (st : Step) (go : RunState → Ending)
    → NextIsAdmitted shapes code s.at st
    → ((t : RunState) → s.at < t.at → IsAdmitted shapes code t → (go t).outcome ≢ Fault)
    → (ending_after st s go).outcome ≢ Fault
after_step shapes code s (goes t) go h rest = rest t h.0 h.1
after_step shapes code s (ends n) go h rest = value_no_fault n
after_step shapes code s faults go h rest = absurd h

module _ (law : StepsGoOn) (code : List Insn) (named : List Named) (program : IsProgram code)
    (accepted : IsAccepted code named) where
  -- the slot of a state that facts admit is in the program
  pub within : (s : RunState) → IsAdmitted (shapes_of code named) code s → s.at < slot_count code
  within s here =
      let begun =
      some_insn (begins_at code s.at)
      (begins_before (shapes_of code named) code named program accepted.0 s.at here.facts here.known) in
      begins_within code s.at begun.0 begun.1

  -- each step goes to a later slot, so the number of steps is enough
  no_fault : (n : ℕ) (s : RunState)
      → slot_count code ≤ s.at + n → IsAdmitted (shapes_of code named) code s
      → (run code n s).outcome ≢ Fault
  unfolding run
  no_fault zero s enough here = absurd (let inside = within s here in omega arith)
  no_fault (suc n) s enough here =
      after_step (shapes_of code named) code s (step code s) (run code n) (law code named s program accepted here)
      (λ t farther there. no_fault n t (omega arith) there)

-- no run of an accepted program faults, if each step leads from an admitted state to an admitted one
pub never_faults : StepsGoOn → NeverFaults
never_faults law code named maps words packet program accepted given =
    no_fault law code named program accepted (slot_count code) (start_of_run maps words packet)
    (omega arith)
    (beginning (shapes_of code named) code maps words packet given)
