-- The facts that are sent to a slot are in the facts before it; if a slot has facts, an instruction begins there.
use Rattle.std.proofs.Common.{◌≡◌, ◌⊎◌, ℕ, zero, suc, ◌+◌, ◌-◌, ◌<◌, ◌==◌, Bool, true, List, Option, Some}
use Rattle.std.proofs.Common.{None, Result, Ok, Err, refl, sym, ap, subst, ◌∙◌, ⊎_elim, inl, inr, arith}
use Rattle.std.specs.Option.{IsSome}
use Rattle.std.proofs.lemmas.Bool.{cond_both, cond-true, eqb-true}
use Rattle.insn_set.specs.declared.insn.Insn.{Insn}
use Rattle.insn_set.specs.Program.{IsProgram, begins_at}
use Rattle.insn_set.specs.BeginLaws.{first_begins}
use Rattle.reg_kinds.specs.declared.facts.Facts.{Facts}
use Rattle.reg_kinds.specs.declared.reason.Reason.{Reason}
use Rattle.reg_kinds.specs.Kinds.{entry}
use Rattle.tagged_model.specs.declared.shape.Named.{Named}
use Rattle.tagged_model.specs.Named.{Shapes}
use Rattle.tagged_model.specs.Cells.{and_then}
use Rattle.tagged_model.specs.State.{RunState}
use Rattle.abstraction.specs.Admits.{Witness, AdmitsBy}
use Rattle.abstraction.specs.Laws.{JoinAdmits}
use Rattle.transfer.specs.Branches.{Edges}
use Rattle.transfer.specs.Effects.{effect}
use Rattle.verifier.specs.Shape.{falls_into, jumps_into, structure_fault}
use Rattle.verifier.specs.Before.{joined, only_if, edges_into, facts_sent, facts_from_below, facts_before}
use Rattle.verifier.specs.Verdict.{HasNoFault}
use Rattle.verifier.proofs.Edges.{AreThere}
use Rattle.verifier.proofs.Leads.{IsShaped, shaped, falls_begins, jumps_begins}

-- ---- if a slot has facts, an instruction begins there

either_there : (a b : Option Facts) → AreThere (joined a b) → AreThere a ⊎ AreThere b
either_there None b h = inr h
either_there (Some f) b h = inl tt

on_there : (leads : Bool) (o : Option Facts) → AreThere (only_if leads o) → leads ≡ true
on_there leads o = cond_both leads o None (λ z. AreThere z → leads ≡ true) (λ t _. t) (λ _ h. absurd h)

module _ (shapes : Shapes) (code : List Insn) (named : List Named) (program : IsProgram code)
    (fine : HasNoFault (structure_fault code named)) where
  -- each instruction of the program is shaped
  pub shape_at : (n : ℕ) (i : Insn) → begins_at code n ≡ Some i → IsShaped code i n
  shape_at = shaped code named fine

  edges_begin : (n m : ℕ) (i : Insn)
      → begins_at code n ≡ Some i
      → (r : Result Edges Reason) → AreThere (edges_into i n m r)
      → IsSome (begins_at code m)
  edges_begin n m i begins (Err reason) h = absurd h
  edges_begin n m i begins (Ok edges) h =
      let shape = shape_at n i begins in
      ⊎_elim
      (λ a. falls_begins code n i shape m begins (on_there (falls_into i n m) edges.falling a))
      (λ b. jumps_begins code n i shape m (on_there (jumps_into i n m) edges.jumping b))
      (either_there (only_if (falls_into i n m) edges.falling) (only_if (jumps_into i n m) edges.jumping) h)

  begun_begin : (n m : ℕ) (f : Facts) (o : Option Insn)
      → begins_at code n ≡ o
      → AreThere (and_then o (λ i. edges_into i n m (effect shapes n i f)))
      → IsSome (begins_at code m)
  begun_begin n m f None e h = absurd h
  begun_begin n m f (Some i) e h = edges_begin n m i e (effect shapes n i f) h

  sent_begin : (n m : ℕ) (known : Option Facts)
      → AreThere (facts_sent shapes code n m known) → IsSome (begins_at code m)
  sent_begin n m None h = absurd h
  sent_begin n m (Some f) h = begun_begin n m f (begins_at code n) refl h

  entry_begin : (m : ℕ) → m ≡ 0 → IsSome (begins_at code m)
  entry_begin m e = subst (λ n. IsSome (begins_at code n)) (sym e) (first_begins code program.some)

  inflow_begin : (n m : ℕ) → AreThere (facts_from_below shapes code m n) → IsSome (begins_at code m)
  unfolding facts_from_below
  inflow_begin zero m h = entry_begin m (eqb-true m 0 (on_there (m == 0) (Some entry) h))
  inflow_begin (suc n) m h =
      ⊎_elim
      (λ a. inflow_begin n m a)
      (λ b. sent_begin n m (facts_from_below shapes code n n) b)
      (either_there (facts_from_below shapes code m n) (facts_sent shapes code n m (facts_from_below shapes code n n)) h)

  -- at a slot that has facts an instruction begins
  pub begins_before : (n : ℕ) (f : Facts) → facts_before shapes code n ≡ Some f → IsSome (begins_at code n)
  begins_before n f e = inflow_begin n n (subst AreThere (sym e) tt)

-- ---- facts that exist and admit a state

abbrev pub AdmitOn : Witness → Option Facts → RunState → Type 0
AdmitOn witness None s = ⊥
AdmitOn witness (Some f) s = AdmitsBy witness f s

-- facts that admit a state exist
pub are_there : (witness : Witness) (o : Option Facts) (s : RunState) → AdmitOn witness o s → AreThere o
are_there witness None s h = h
are_there witness (Some f) s h = tt

on_edge : (witness : Witness) (leads : Bool) (o : Option Facts) (s : RunState)
    → leads ≡ true → AdmitOn witness o s → AdmitOn witness (only_if leads o) s
on_edge witness leads o s t h = subst (λ o. AdmitOn witness o s) (sym (cond-true leads o None t)) h

module _ (law : JoinAdmits) (witness : Witness) (s : RunState) where
  joined_left : (a b : Option Facts) → AdmitOn witness a s → AdmitOn witness (joined a b) s
  joined_left None b h = absurd h
  joined_left (Some f) None h = h
  joined_left (Some f) (Some g) h = law witness f g s (inl h)

  joined_right : (a b : Option Facts) → AdmitOn witness b s → AdmitOn witness (joined a b) s
  joined_right None b h = h
  joined_right (Some f) None h = absurd h
  joined_right (Some f) (Some g) h = law witness f g s (inr h)

  -- ---- from an edge to the facts before a slot

  -- if the facts on the falling edge admit a state, so do those that the instruction passes on along it
  pub fallen : (i : Insn) (n m : ℕ) (edges : Edges)
      → falls_into i n m ≡ true → AdmitOn witness edges.falling s
      → AdmitOn witness (edges_into i n m (Ok edges)) s
  fallen i n m edges t h =
      joined_left (only_if (falls_into i n m) edges.falling)
      (only_if (jumps_into i n m) edges.jumping)
      (on_edge witness (falls_into i n m) edges.falling s t h)

  -- if the facts on the jumping edge admit a state, so do those that the instruction passes on along it
  pub jumped : (i : Insn) (n m : ℕ) (edges : Edges)
      → jumps_into i n m ≡ true → AdmitOn witness edges.jumping s
      → AdmitOn witness (edges_into i n m (Ok edges)) s
  jumped i n m edges t h =
      joined_right (only_if (falls_into i n m) edges.falling)
      (only_if (jumps_into i n m) edges.jumping)
      (on_edge witness (jumps_into i n m) edges.jumping s t h)

  module _ (shapes : Shapes) (code : List Insn) where
    sent_is : (n m : ℕ) (i : Insn) (f : Facts) (edges : Edges)
        → begins_at code n ≡ Some i → facts_before shapes code n ≡ Some f
        → effect shapes n i f ≡ Ok edges
        → facts_sent shapes code n m (facts_from_below shapes code n n) ≡ edges_into i n m (Ok edges)
    sent_is n m i f edges begins known e =
        ap (facts_sent shapes code n m) known
        ∙ ap (λ o. and_then o (λ i. edges_into i n m (effect shapes n i f))) begins
        ∙ ap (edges_into i n m) e

    one_more : (n m : ℕ)
        → AdmitOn witness (facts_from_below shapes code m n) s
        → AdmitOn witness (facts_from_below shapes code m (suc n)) s
    unfolding facts_from_below
    one_more n m h =
        joined_left (facts_from_below shapes code m n) (facts_sent shapes code n m (facts_from_below shapes code n n)) h

    sent_more : (n m : ℕ)
        → AdmitOn witness (facts_sent shapes code n m (facts_from_below shapes code n n)) s
        → AdmitOn witness (facts_from_below shapes code m (suc n)) s
    unfolding facts_from_below
    sent_more n m h =
        joined_right (facts_from_below shapes code m n)
        (facts_sent shapes code n m (facts_from_below shapes code n n))
        h

    stays : (d n m : ℕ)
        → AdmitOn witness (facts_from_below shapes code m n) s
        → AdmitOn witness (facts_from_below shapes code m (n + d)) s
    stays zero n m h =
        let e : n ≡ n + 0 = omega arith in subst (λ k. AdmitOn witness (facts_from_below shapes code m k) s) e h
    stays (suc d) n m h =
        let e : suc (n + d) ≡ n + suc d = omega arith in
        subst (λ k. AdmitOn witness (facts_from_below shapes code m k) s) e (one_more (n + d) m (stays d n m h))

    -- the facts that a slot sends to a later slot are in the facts before that slot
    pub arrives : (n m : ℕ) (i : Insn) (f : Facts) (edges : Edges)
        → n < m → begins_at code n ≡ Some i
        → facts_before shapes code n ≡ Some f → effect shapes n i f ≡ Ok edges
        → AdmitOn witness (edges_into i n m (Ok edges)) s
        → AdmitOn witness (facts_before shapes code m) s
    arrives n m i f edges lt begins known e h =
        let come = sent_more n m (subst (λ o. AdmitOn witness o s) (sym (sent_is n m i f edges begins known e)) h) in
        let end : suc n + (m - suc n) ≡ m = omega arith in
        subst (λ k. AdmitOn witness (facts_from_below shapes code m k) s) end (stays (m - suc n) (suc n) m come)
