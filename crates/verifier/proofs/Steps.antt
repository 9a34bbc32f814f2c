-- No step of an accepted program faults.
use Rattle.std.proofs.Common.{◌≡◌, ℕ, ◌+◌, ◌<◌, Bool, true, false, List, length, Option, Some, None, Result, Ok, Err, refl, sym, ap, subst, ◌∙◌, arith}
use Rattle.std.specs.Option.{IsSome}
use Rattle.std.proofs.lemmas.Bool.{false≢true, or_left, or_right}
use Rattle.std.proofs.lemmas.Option.{none-some, same_Some}
use Rattle.insn_set.specs.declared.insn.Insn.{Insn}
use Rattle.insn_set.specs.Spelling.{slots}
use Rattle.insn_set.specs.Program.{IsProgram, begins_at}
use Rattle.reg_kinds.specs.declared.facts.Facts.{Facts}
use Rattle.reg_kinds.specs.declared.reason.Reason.{Reason}
use Rattle.tagged_model.specs.declared.shape.Named.{Named}
use Rattle.tagged_model.specs.Named.{Shapes}
use Rattle.tagged_model.specs.Cells.{and_then}
use Rattle.tagged_model.specs.State.{RunState}
use Rattle.tagged_model.specs.Step.{Step, goes, ends, faults, or_fault, act}
use Rattle.tagged_model.specs.StateInvariant.{IsInRange, HasMaps}
use Rattle.abstraction.specs.Admits.{Witness}
use Rattle.abstraction.specs.Laws.{JoinAdmits}
use Rattle.transfer.specs.Branches.{Edges}
use Rattle.transfer.specs.Effects.{effect}
use Rattle.transfer.specs.Sound.{AreWellFormedAt, AreWellFormedOn, TransferKeepsWellFormed}
use Rattle.transfer.specs.Sound.{EdgeAdmits, takes_jump, TakenEdgeAdmits, CoversStep, TransferIsSound}
use Rattle.insn_set.specs.Flow.{falls_to, jumps_to}
use Rattle.insn_set.specs.BeginLaws.{some_slots, begun_is_insn}
use Rattle.verifier.specs.Maps.{shapes_of}
use Rattle.verifier.specs.Before.{facts_before}
use Rattle.verifier.specs.Shape.{falls_into, jumps_into, leads_into}
use Rattle.verifier.specs.Verdict.{reason_of, safety_fault, IsAccepted}
use Rattle.verifier.specs.Sound.{StepIsSound, IsAdmitted, NextIsAdmitted, StepsGoOn}
use Rattle.verifier.proofs.Edges.{leads_only}
use Rattle.verifier.proofs.Leads.{IsShaped, target_is, falls_lead, jump_at, jumps_lead}
use Rattle.verifier.proofs.Words.{inflow_words}
use Rattle.verifier.proofs.Arrivals.{AdmitOn, are_there, begins_before, shape_at, fallen, jumped, arrives}

-- ---- one step

well_formed_before : TransferKeepsWellFormed
    → (shapes : Shapes) (code : List Insn) → IsProgram code
    → (n : ℕ) (f : Facts) → facts_before shapes code n ≡ Some f
    → AreWellFormedAt n f
well_formed_before stay shapes code program n f e =
    subst (AreWellFormedOn n) e (inflow_words stay shapes code program.each n n)

-- a step of an instruction that may be run is sound in a program, as transfer is sound and keeps facts well formed
pub slots_covered : TransferIsSound → TransferKeepsWellFormed → StepIsSound
slots_covered cover stay code named witness s i f edges program fine begins known still e =
    let shapes = shapes_of code named in
    let shape = shape_at shapes code named program fine s.at i begins in
    cover witness shapes i f s edges (begun_is_insn code s.at i begins program.each)
    (target_is code s.at i shape)
    (well_formed_before stay shapes code program s.at f known)
    still e

-- the premises of a step
pub record Laws : Type 0 where
  -- transfer is sound
  pub cover : TransferIsSound
  -- transfer keeps facts well formed
  pub stay : TransferKeepsWellFormed
  -- a join of facts admits each state that either of them admits
  pub join : JoinAdmits

-- ---- a state that facts admit

admitted : (witness : Witness) (shapes : Shapes) (code : List Insn) (s : RunState) (o : Option Facts)
    → facts_before shapes code s.at ≡ o → AdmitOn witness o s
    → IsInRange s → HasMaps shapes s
    → IsAdmitted shapes code s
admitted witness shapes code s None e h proper maps = absurd h
admitted witness shapes code s (Some f) e h proper maps = record {
  witness = witness;
  facts = f;
  known = e;
  still = record { admits = h; proper = proper; maps = maps };
}

-- the facts on an edge admit the state after the step
record Arrives (shapes : Shapes) (o : Option Facts) (slot : Option ℕ) (t : RunState) : Type 0 where
  at : slot ≡ Some t.at
  witness : Witness
  admits : AdmitOn witness o t
  proper : IsInRange t
  maps : HasMaps shapes t

on_edge : (shapes : Shapes) (o : Option Facts) (slot : Option ℕ) (t : RunState)
    → EdgeAdmits shapes o slot t → Arrives shapes o slot t
on_edge shapes None slot t h = absurd h
on_edge shapes (Some f) slot t h = record {
  at = h.0;
  witness = h.1;
  admits = h.2.admits;
  proper = h.2.proper;
  maps = h.2.maps;
}

-- an edge of the instruction leads to the slot of a state after the step
abbrev pub TakesEdge : Insn → ℕ → Step → Type 0
TakesEdge i at (goes t) = leads_into (Some i) at t.at ≡ true
TakesEdge i at (ends n) = Unit {0}
TakesEdge i at faults = Unit {0}

-- ---- a step of an instruction that may be run

module _ (join : JoinAdmits) (shapes : Shapes) (code : List Insn) (s : RunState) (i : Insn)
    (f : Facts) (edges : Edges) (begins : begins_at code s.at ≡ Some i)
    (known : facts_before shapes code s.at ≡ Some f)
    (e : effect shapes s.at i f ≡ Ok edges) (shape : IsShaped code i s.at) where
  falls_on : (t : RunState)
      → Arrives shapes edges.falling (Some (falls_to i s.at)) t
      → NextIsAdmitted shapes code s.at (goes t)
  falls_on t h =
      let at : s.at + length (slots i) ≡ t.at = same_Some (falls_to i s.at) t.at h.at in
      let farther : s.at < t.at = omega (arith, some_slots i) in
      let leads = (leads_only shapes s.at i f edges e).falling (are_there h.witness edges.falling t h.admits) in
      let into = falls_lead code s.at i shape t.at leads at in
      let come =
      arrives join h.witness t shapes code s.at t.at i f edges farther begins known e
      (fallen join h.witness t i s.at t.at edges into h.admits) in
      (farther, admitted h.witness shapes code t (facts_before shapes code t.at) refl come h.proper h.maps)

  jumps_on : (t : RunState)
      → Arrives shapes edges.jumping (jumps_to i s.at) t → NextIsAdmitted shapes code s.at (goes t)
  jumps_on t h =
      let leads = (leads_only shapes s.at i f edges e).jumping (are_there h.witness edges.jumping t h.admits) in
      let farther = (jump_at code s.at i shape t.at leads h.at).0 in
      let into = jumps_lead code s.at i shape t.at leads h.at in
      let come =
      arrives join h.witness t shapes code s.at t.at i f edges farther begins known e
      (jumped join h.witness t i s.at t.at edges into h.admits) in
      (farther, admitted h.witness shapes code t (facts_before shapes code t.at) refl come h.proper h.maps)

  taken_on : (jumps : Bool) (t : RunState)
      → TakenEdgeAdmits jumps shapes (falls_to i s.at) (jumps_to i s.at) edges t
      → NextIsAdmitted shapes code s.at (goes t)
  taken_on true t h = jumps_on t (on_edge shapes edges.jumping (jumps_to i s.at) t h)
  taken_on false t h = falls_on t (on_edge shapes edges.falling (Some (falls_to i s.at)) t h)

  covered_on : (st : Step) → CoversStep shapes i s edges st → NextIsAdmitted shapes code s.at st
  covered_on (goes t) h = taken_on (takes_jump i s) t h
  covered_on (ends n) h = h
  covered_on faults h = h

  -- ---- the edge that it takes

  falls_along : (t : RunState)
      → Arrives shapes edges.falling (Some (falls_to i s.at)) t
      → leads_into (Some i) s.at t.at ≡ true
  falls_along t h =
      let at : s.at + length (slots i) ≡ t.at = same_Some (falls_to i s.at) t.at h.at in
      let leads = (leads_only shapes s.at i f edges e).falling (are_there h.witness edges.falling t h.admits) in
      or_left (falls_into i s.at t.at) (jumps_into i s.at t.at) (falls_lead code s.at i shape t.at leads at)

  jumps_along : (t : RunState) → Arrives shapes edges.jumping (jumps_to i s.at) t → leads_into (Some i) s.at t.at ≡ true
  jumps_along t h =
      let leads = (leads_only shapes s.at i f edges e).jumping (are_there h.witness edges.jumping t h.admits) in
      or_right (falls_into i s.at t.at) (jumps_into i s.at t.at) (jumps_lead code s.at i shape t.at leads h.at)

  taken_along : (jumps : Bool) (t : RunState)
      → TakenEdgeAdmits jumps shapes (falls_to i s.at) (jumps_to i s.at) edges t
      → leads_into (Some i) s.at t.at ≡ true
  taken_along true t h = jumps_along t (on_edge shapes edges.jumping (jumps_to i s.at) t h)
  taken_along false t h = falls_along t (on_edge shapes edges.falling (Some (falls_to i s.at)) t h)

  covered_along : (st : Step) → CoversStep shapes i s edges st → TakesEdge i s.at st
  covered_along (goes t) h = taken_along (takes_jump i s) t h
  covered_along (ends n) h = tt
  covered_along faults h = tt

-- ---- any step

safe : (shapes : Shapes) (code : List Insn) (n : ℕ) (i : Insn) (f : Facts)
    → begins_at code n ≡ Some i → facts_before shapes code n ≡ Some f
    → safety_fault shapes code n ≡ None
    → reason_of (effect shapes n i f) ≡ None
unfolding safety_fault
safe shapes code n i f begins known none =
    sym (ap (λ o. and_then o (λ f. and_then (begins_at code n) (λ i. reason_of (effect shapes n i f)))) known
    ∙ ap (λ o. and_then o (λ i. reason_of (effect shapes n i f))) begins)
    ∙ none

module _ (laws : Laws) (code : List Insn) (named : List Named) (s : RunState)
    (program : IsProgram code) (accepted : IsAccepted code named)
    (here : IsAdmitted (shapes_of code named) code s) where
  abbrev Given : Shapes
  Given = shapes_of code named

  abbrev Goes : Step → Type 0
  Goes st = NextIsAdmitted Given code s.at st

  runs_on : (i : Insn)
      → begins_at code s.at ≡ Some i
      → (r : Result Edges Reason) → effect Given s.at i here.facts ≡ r
      → Goes (act i s)
  runs_on i begins (Err reason) e =
      absurd (none-some reason
      (sym (safe Given code s.at i here.facts begins here.known (accepted.1 s.at)) ∙ ap reason_of e))
  runs_on i begins (Ok edges) e =
      let shape = shape_at Given code named program accepted.0 s.at i begins in
      covered_on laws.join Given code s i here.facts edges begins here.known e shape (act i s)
      (slots_covered laws.cover laws.stay code named here.witness s i here.facts edges program
      accepted.0 begins here.known here.still e)

  runs_along : (i : Insn)
      → begins_at code s.at ≡ Some i
      → (r : Result Edges Reason) → effect Given s.at i here.facts ≡ r
      → TakesEdge i s.at (act i s)
  runs_along i begins (Err reason) e =
      absurd (none-some reason
      (sym (safe Given code s.at i here.facts begins here.known (accepted.1 s.at)) ∙ ap reason_of e))
  runs_along i begins (Ok edges) e =
      let shape = shape_at Given code named program accepted.0 s.at i begins in
      covered_along laws.join Given code s i here.facts edges begins here.known e shape (act i s)
      (slots_covered laws.cover laws.stay code named here.witness s i here.facts edges program
      accepted.0 begins here.known here.still e)

  step_on : (o : Option Insn) → begins_at code s.at ≡ o → Goes (or_fault o (λ i. act i s))
  step_on None e =
      absurd (false≢true (subst (λ o. IsSome o) e
      (begins_before Given code named program accepted.0 s.at here.facts here.known)))
  step_on (Some i) e = runs_on i e (effect Given s.at i here.facts) refl

-- no step of an accepted program from an admitted state faults, and the state after it is admitted
pub each_step : Laws → StepsGoOn
each_step laws code named s program accepted here =
    step_on laws code named s program accepted here (begins_at code s.at) refl

-- a step of an accepted program from an admitted state takes an edge of its instruction, unless the run ends
pub each_step_along : Laws
    → (code : List Insn) (named : List Named) (s : RunState) (i : Insn) → IsProgram code
    → IsAccepted code named → IsAdmitted (shapes_of code named) code s
    → begins_at code s.at ≡ Some i
    → TakesEdge i s.at (act i s)
each_step_along laws code named s i program accepted here begins =
    runs_along laws code named s program accepted here i begins (effect (shapes_of code named) s.at i here.facts) refl
