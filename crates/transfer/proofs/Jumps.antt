-- Conditional jumps: the facts on the edge that is taken admit the state after it.
use Rattle.std.proofs.Common.{◌≡◌, ◌≢◌, ℕ, ◌+◌, ◌<◌, ◌^◌, if◌then◌else◌, ℤ, pos, ◌+ℤ◌, Bool, true, false}
use Rattle.std.proofs.Common.{not, Option, Result, Some, None, Ok, Err, refl, sym, ap, subst, ◌∙◌, inl, inr}
use Rattle.std.specs.Option.{IsSome, option_map, unwrap_or}
use Rattle.std.specs.Ordering.{int_eq}
use Rattle.std.proofs.lemmas.Bool.{cond_both, false≢true}
use Rattle.std.proofs.lemmas.Bool.Decides.{Decides-int_eq}
use Rattle.std.proofs.lemmas.Option.{same_Some}
use Rattle.interval.specs.declared.range.Range.{Range}
use Rattle.interval.specs.Ranges.{IsMember}
use Rattle.words.specs.Words.{unsigned}
use Rattle.words.specs.Compare.{compares}
use Rattle.interval.specs.Refine.{RangePair, refined, IsPairOn}
use Rattle.interval.specs.Laws.{EdgesKeepMembers, EdgesAreWords, IsPairOfWords}
use Rattle.words.specs.declared.operator.Condition.{Condition}
use Rattle.words.specs.declared.operator.Condition.TheVariants as condition
use Rattle.insn_set.specs.declared.insn.Operand.{Operand}
use Rattle.insn_set.specs.declared.insn.Operand.TheVariants.{Imm, Reg}
use Rattle.reg_kinds.specs.declared.kind.Kind.{Kind}
use Rattle.reg_kinds.specs.declared.kind.Kind.TheVariants as kind
use Rattle.reg_kinds.specs.declared.facts.Facts.{Facts}
use Rattle.reg_kinds.specs.declared.reason.Reason.{Reason}
use Rattle.reg_kinds.specs.declared.reason.Reason.TheVariants.{PointerComparison}
use Rattle.reg_kinds.specs.Settle.{facts_settled}
use Rattle.tagged_model.specs.declared.value.Object.TheVariants as object
use Rattle.tagged_model.specs.declared.value.Tagged.{Tagged}
use Rattle.tagged_model.specs.declared.value.Tagged.TheVariants.{Scalar, Pointer}
use Rattle.words.specs.Widths.{width}
use Rattle.tagged_model.specs.Values.{is_null_test, holds_of_pointers, compared}
use Rattle.tagged_model.specs.State.{RunState, at_slot}
use Rattle.tagged_model.specs.Step.{goes, or_fault, operand_value, branched}
use Rattle.insn_set.specs.Flow.{slot_of_integer}
use Rattle.abstraction.specs.Laws.{NullTestAdmits}
use Rattle.abstraction.specs.Admits.{IsLookup}
use Rattle.transfer.specs.Branches.{Edges, with_source, with_pair, is_same, number_edges, null_edges, settled_edges, branch_edges}
use Rattle.transfer.specs.Sound.{EdgeAdmits, TakenEdgeAdmits}
use Rattle.transfer.proofs.Parts.{AtBothWidths, at_width, Here, IsFound, IsKnown, OnJumping, IsCovered, IsCoveredIf}
use Rattle.transfer.proofs.States.{scalar_of, known_more, goes_to}
use Rattle.transfer.proofs.Values.{by_number}
use Rattle.transfer.proofs.Words.{settled_words}

-- the laws of comparisons of words and of null tests of look-ups
pub record Comparisons : Type 0 where
  -- two members that take an edge of a comparison are members of the ranges on it
  pub members : AtBothWidths EdgesKeepMembers
  -- the ranges on both edges of a comparison of ranges of words are ranges of words
  pub words : AtBothWidths EdgesAreWords
  -- once a test has decided whether a look-up gave null, the settled facts admit the state
  pub null_tests : NullTestAdmits

-- ---- one edge

-- the edge has facts, and these hold of the state
abbrev IsKnownOn : Here → Option Facts → RunState → Type 0
IsKnownOn here None s = ⊥
IsKnownOn here (Some f) s = IsKnown here f s

on_edge : (here : Here) (o : Option Facts) (s : RunState) (n : ℕ)
    → IsKnownOn here o s → EdgeAdmits here.shapes o (Some n) (at_slot n s)
on_edge here None s n h = h
on_edge here (Some f) s n h = goes_to here n h

-- if the facts on the jumping edge hold of a state and the target exists, the jump is covered
pub jump_covered : (here : Here) (target : Option ℕ) (e : Edges) (s : RunState)
    → IsSome target → IsKnownOn here e.jumping s
    → IsCovered (OnJumping here target) e (or_fault target (λ n. goes (at_slot n s)))
jump_covered here None e s there h = absurd (false≢true there)
jump_covered here (Some n) e s there h = on_edge here e.jumping s n h

module _ {here : Here} (laws : Comparisons) {f : Facts} {s : RunState} (known : IsKnown here f s)
    (off : ℤ)
    (there : IsSome (slot_of_integer (pos (s.at + 1) +ℤ off))) where
  abbrev Target : Option ℕ
  Target = slot_of_integer (pos (s.at + 1) +ℤ off)

  -- the facts on the edge that is taken admit the state after the jump
  abbrev Covered : Edges → Bool → Type 0
  Covered e taken = IsCovered (TakenEdgeAdmits taken here.shapes (s.at + 1) Target) e (branched s off taken)

  -- the same, if the facts permit the jump
  abbrev CoveredIf : Result Edges Reason → Option Bool → Type 0
  CoveredIf r o =
      IsCoveredIf (TakenEdgeAdmits (unwrap_or o false) here.shapes (s.at + 1) Target) r (or_fault o (branched s off))

  by_edges : (e : Edges) (taken : Bool)
      → (taken ≡ true → IsKnownOn here e.jumping s)
      → (taken ≡ false → IsKnownOn here e.falling s)
      → Covered e taken
  by_edges e true jumps falls = jump_covered here Target e s there (jumps refl)
  by_edges e false jumps falls = on_edge here e.falling s (s.at + 1) (falls refl)

  -- ---- numbers

  module _ (wide : Bool) (cond : Condition) (dst : ℕ) (src : Operand) (x y : ℕ)
      (first : s.registers dst ≡ Some (Scalar x))
      (second : operand_value s wide src ≡ Some (Scalar y)) where
    source_known : (g : Facts) (src : Operand) (b : Range)
        → operand_value s wide src ≡ Some (Scalar y) → IsMember y b
        → b.hi < 2 ^ 64 → IsKnown here g s
        → IsKnown here (with_source g src b) s
    source_known g (Imm z) b e m h k = k
    source_known g (Reg n) b e m h k = known_more here k n (kind.Scalar b) (Scalar y) e (scalar_of here b y m h)

    pair_known : (o : Option RangePair)
        → IsPairOn o x y → IsPairOfWords o
        → IsKnownOn here (option_map (with_pair f dst src) o) s
    pair_known None m h = m
    pair_known (Some p) m h =
        source_known _ src p.1 second m.1 h.1
        (known_more here known dst (kind.Scalar p.0) (Scalar x) first (scalar_of here p.0 x m.0 h.0))

    numbers_covered : (a b : Range)
        → a.hi < 2 ^ 64 → b.hi < 2 ^ 64
        → IsMember x a → IsMember y b
        → Covered (number_edges wide cond f dst src a b) (compares (width wide) cond x y)
    numbers_covered a b ah bh m n =
        let taken = compares (width wide) cond x y in
        let edges = refined (width wide) cond a b in
        let keep = at_width laws.members wide cond a b x y ah bh m n in
        let are = at_width laws.words wide cond a b ah bh in
        let both : Edges = record { falling = Some f; jumping = Some f } in
        let each : Edges = record {
          falling = option_map (with_pair f dst src) edges.1;
          jumping = option_map (with_pair f dst src) edges.0;
        } in
        cond_both (is_same dst src) both each (λ e. Covered e taken)
        (λ _. by_edges both taken (λ _. known) (λ _. known))
        (λ _. by_edges each taken (λ t. pair_known edges.0 (keep.0 t) are.0) (λ t. pair_known edges.1 (keep.1 t) are.1))

  -- ---- tests of pointers for null

  tested : (t : Bool) (e : Edges) (taken : Bool)
      → Covered e taken
      → CoveredIf (if t then Ok e else Err PointerComparison) (if t then Some taken else None)
  tested true e taken h = h
  tested false e taken h = tt

  -- a pointer that is not null takes the edge of `value`
  value_covered : (taken : Bool) (null value : Option Facts)
      → IsKnownOn here value s → Covered (null_edges (not taken) null value) taken
  value_covered true null value h =
      by_edges (null_edges false null value) true (λ _. h) (λ e. absurd (false≢true (sym e)))
  value_covered false null value h = by_edges (null_edges true null value) false (λ e. absurd (false≢true e)) (λ _. h)

  settled_null : (site : ℕ) → here.witness.gave site ≡ Scalar 0 → IsKnown here (facts_settled site true f) s
  settled_null site e = record {
    admits = laws.null_tests.null here.witness f s site known.admits e;
    words = settled_words here.slot f site true known.words;
    proper = known.proper;
    maps = known.maps;
  }

  settled_value : (site : ℕ) → here.witness.gave site ≢ Scalar 0 → IsKnown here (facts_settled site false f) s
  settled_value site e = record {
    admits = laws.null_tests.value here.witness f s site known.admits e;
    words = settled_words here.slot f site false known.words;
    proper = known.proper;
    maps = known.maps;
  }

  -- the constant of a test for null is 0
  zero_of : (z : ℤ) (w : Tagged) → int_eq z (pos 0) ≡ true → Some (Scalar (unsigned 64 z)) ≡ Some w → w ≡ Scalar 0
  zero_of z w t e = sym (same_Some _ _ e) ∙ ap (λ z. Scalar (unsigned 64 z)) ((Decides-int_eq z (pos 0)).0 t)

  -- the edges of a null test
  abbrev edges_if : Bool → Condition → Operand → Edges → Result Edges Reason
  edges_if wide cond src e = if is_null_test wide cond src then Ok e else Err PointerComparison

  zero_covered : (cond : Condition) (z : ℤ) (w : Tagged) (e : Edges) (taken : Bool)
      → Some (Scalar (unsigned 64 z)) ≡ Some w
      → compared true cond (Imm z) (Scalar 0) (Scalar 0) ≡ Some taken
      → Covered e taken
      → CoveredIf (if int_eq z (pos 0) then Ok e else Err PointerComparison) (compared true cond (Imm z) (Scalar 0) w)
  zero_covered cond z w e taken at is h =
      cond_both (int_eq z (pos 0)) (Ok e) (Err PointerComparison)
      (λ r. CoveredIf r (compared true cond (Imm z) (Scalar 0) w))
      (λ t. subst (CoveredIf (Ok e)) (sym (ap (compared true cond (Imm z) (Scalar 0)) (zero_of z w t at) ∙ is)) h)
      (λ _. tt)

  null_covered : (site : ℕ)
      → here.witness.gave site ≡ Scalar 0
      → (wide : Bool) (cond : Condition) (src : Operand) (w : Tagged)
      → operand_value s wide src ≡ Some w
      → CoveredIf (edges_if wide cond src (settled_edges (not (holds_of_pointers cond)) site f))
      (compared wide cond src (Scalar 0) w)
  null_covered site null true condition.Equal (Imm z) w at =
      let e = settled_edges true site f in
      zero_covered condition.Equal z w e true at refl
      (by_edges e true (λ _. settled_null site null) (λ t. absurd (false≢true (sym t))))
  null_covered site null true condition.NotEqual (Imm z) w at =
      let e = settled_edges false site f in
      zero_covered condition.NotEqual z w e false at refl
      (by_edges e false (λ t. absurd (false≢true t)) (λ _. settled_null site null))
  null_covered site null wide cond src w at = tt

  module _ (wide : Bool) (cond : Condition) (dst : ℕ) (src : Operand) where
    abbrev Holds : Kind → Kind → Tagged → Tagged → Type 0
    Holds k l v w = CoveredIf (branch_edges wide cond f dst src k l) (compared wide cond src v w)

    -- a null test of a pointer that is not null
    pointer_covered : (null value : Option Facts)
        → IsKnownOn here value s
        → CoveredIf (edges_if wide cond src (null_edges (not (holds_of_pointers cond)) null value))
        (if is_null_test wide cond src then Some (holds_of_pointers cond) else None)
    pointer_covered null value h =
        let taken = holds_of_pointers cond in
        tested (is_null_test wide cond src) (null_edges (not taken) null value) taken (value_covered taken null value h)

    lookup_covered : (m site : ℕ) (l : Kind) (v w : Tagged)
        → v ≡ here.witness.gave site → IsLookup here.witness m v
        → operand_value s wide src ≡ Some w
        → Holds (kind.MaybeValue m site) l v w
    lookup_covered m site l v w e (inl null) at =
        subst (λ v. Holds (kind.MaybeValue m site) l v w) (sym null)
        (null_covered site (sym e ∙ null) wide cond src w at)
    lookup_covered m site l v w e (inr start) at =
        subst (λ v. Holds (kind.MaybeValue m site) l v w) (sym start.1)
        (pointer_covered (Some (facts_settled site true f)) (Some (facts_settled site false f))
        (settled_value site (λ z. not_null start.0 (sym start.1 ∙ e ∙ z))))
      where
        not_null : (number : ℕ) → Pointer (object.Value m number) (pos 0) ≡ Scalar 0 → ⊥
        not_null number e = cc

    numbers_held : (a b : Range) (v w : Tagged)
        → IsFound here (s.registers dst) (kind.Scalar a) v
        → IsFound here (operand_value s wide src) (kind.Scalar b) w
        → Holds (kind.Scalar a) (kind.Scalar b) v w
    numbers_held a b v w h g =
        by_number here a v (λ v. s.registers dst ≡ Some v → Holds (kind.Scalar a) (kind.Scalar b) v w) h.kind.is
        (λ x m from.
        by_number here b w
        (λ w. operand_value s wide src ≡ Some w → Holds (kind.Scalar a) (kind.Scalar b) (Scalar x) w)
        g.kind.is
        (λ y n too. numbers_covered wide cond dst src x y from too a b h.kind.words g.kind.words m n) g.from) h.from

    -- a conditional jump on values of readable kinds is covered, if the facts permit it
    pub branch_covered : (k l : Kind) (v w : Tagged)
        → IsFound here (s.registers dst) k v
        → IsFound here (operand_value s wide src) l w
        → Holds k l v w
    branch_covered kind.Unreadable l v w h g = absurd h.readable
    branch_covered (kind.Scalar a) (kind.Scalar b) v w h g = numbers_held a b v w h g
    branch_covered (kind.Scalar a) l v w h g = tt
    branch_covered (kind.Value p) l v w h g =
        subst (λ v. Holds (kind.Value p) l v w) (sym h.kind.is.2) (pointer_covered None (Some f) known)
    branch_covered (kind.MaybeValue m site) l v w h g = lookup_covered m site l v w h.kind.is.0 h.kind.is.1 g.from
    branch_covered k l v w h g = subst (λ v. Holds k l v w) (sym h.kind.is) (pointer_covered None (Some f) known)
