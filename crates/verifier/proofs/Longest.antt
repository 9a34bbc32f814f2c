-- The most that the pass finds is the most on a path.
use Rattle.std.proofs.Common.{◌≡◌, ◌⊎◌, ℕ, zero, suc, ◌+◌, ◌-◌, ◌<◌, ◌≤◌, true, false, ◌&&◌, ◌||◌, List, []}
use Rattle.std.proofs.Common.{◌∷◌, length, Option, Some, None, refl, sym, ap, subst, ◌∙◌, inl, inr, arith}
use Rattle.std.proofs.lemmas.Bool.{cases_Bool, cases_lt, or_cases, or_left, or_right, or_parts}
use Rattle.std.proofs.lemmas.Bool.{and_parts, eqb-true, ltb-true, cond-true, cond-false, false≢true}
use Rattle.insn_set.specs.declared.insn.Insn.{Insn}
use Rattle.insn_set.specs.Spelling.{slots}
use Rattle.insn_set.specs.Program.{begins_at, slot_count}
use Rattle.insn_set.specs.BeginLaws.{begins_within, first_begins, some_slots}
use Rattle.insn_set.specs.Flow.{falls_to, jumps_to, falls, jumps, is_number}
use Rattle.tagged_model.specs.declared.shape.Named.{Named}
use Rattle.verifier.specs.Cost.{is_exit, IsPath, IsMostOf}
use Rattle.verifier.specs.Shape.{falls_into, jumps_into, leads_into, reached_from, is_reachable, structure_fault}
use Rattle.verifier.specs.ShapeLaws.{each_is_fine}
use Rattle.verifier.specs.Verdict.{HasNoFault}
use Rattle.verifier.specs.inside.Longest.{total, passed_on, most_from, at_exit, most_ended}
use Rattle.verifier.proofs.Leads.{second_false, some_slot, shaped, falls_begins, falls_lead, jumps_lead, jump_at, target_is}
use Rattle.verifier.proofs.Reached.{or_neither, begun_of}

-- ---- edges

-- an edge leads to a later slot
pub leads_farther : (i : Insn) (n to : ℕ) → leads_into (Some i) n to ≡ true → n < to
leads_farther i n to leads =
    elim (or_cases (falls_into i n to) (jumps_into i n to) leads) [
      | inl fallen ↦
          let at : n + length (slots i) ≡ to = eqb-true (falls_to i n) to (and_parts (falls i) _ fallen).1 in
          omega (arith, some_slots i)
      | inr jumped ↦ ltb-true n to (and_parts (jumps i && is_number (jumps_to i n) to) _ jumped).1
    ]

-- along an edge an instruction passes on what it has
pub passes : (weight : Insn → ℕ) (o : Option Insn) (i : Insn) (n to before : ℕ)
    → o ≡ Some i → leads_into (Some i) n to ≡ true
    → passed_on weight o n to before ≡ before + weight i
passes weight o i n to before begins leads =
    ap (λ (o : Option Insn). passed_on weight o n to before) begins
    ∙ cond-true (leads_into (Some i) n to) (before + weight i) 0 leads

-- to other slots it passes on nothing
pub passes_none : (weight : Insn → ℕ) (o : Option Insn) (n to before : ℕ)
    → leads_into o n to ≡ false → passed_on weight o n to before ≡ 0
passes_none weight None n to before none = refl
passes_none weight (Some i) n to before none = cond-false (leads_into (Some i) n to) (before + weight i) 0 none

-- if an edge leads from a slot, an instruction begins there
pub leads_from : (o : Option Insn) (n to : ℕ) → leads_into o n to ≡ true → (i : Insn) × (o ≡ Some i)
leads_from None n to leads = absurd (false≢true leads)
leads_from (Some i) n to leads = (i, refl)

ends_with : (weight : Insn → ℕ) (o : Option Insn) (i : Insn) (before : ℕ)
    → o ≡ Some i → is_exit i ≡ true → at_exit weight o before ≡ before + weight i
ends_with weight o i before begins exit =
    ap (λ (o : Option Insn). at_exit weight o before) begins ∙ cond-true (is_exit i) (before + weight i) 0 exit

-- ---- no path has more

module _ (weight : Insn → ℕ) (code : List Insn) where
  stays : (i n d : ℕ) → most_from weight code i n ≤ most_from weight code i (n + d)
  unfolding most_from
  stays i n zero =
      let same : n + 0 ≡ n = omega arith in
      subst (λ k. most_from weight code i n ≤ most_from weight code i k) (sym same) (omega arith)
  stays i n (suc d) =
      let next : suc (n + d) ≡ n + suc d = omega arith in
      subst (λ k. most_from weight code i n ≤ most_from weight code i k) next (omega (arith, stays i n d))

  arrived : (n to : ℕ) (i : Insn)
      → begins_at code n ≡ Some i → leads_into (Some i) n to ≡ true
      → most_from weight code n n + weight i ≤ most_from weight code to (suc n)
  unfolding most_from
  arrived n to i begins leads =
      omega (arith, passes weight (begins_at code n) i n to (most_from weight code n n) begins leads)

  -- the way to the target of an edge is no shorter than that to its instruction, and the instruction
  pub sent : (n to : ℕ) (i : Insn)
      → begins_at code n ≡ Some i → leads_into (Some i) n to ≡ true
      → most_from weight code n n + weight i ≤ most_from weight code to to
  sent n to i begins leads =
      let farther = leads_farther i n to leads in
      let end : suc n + (to - suc n) ≡ to = omega arith in
      let later : most_from weight code to (suc n) ≤ most_from weight code to to =
      subst (λ k. most_from weight code to (suc n) ≤ most_from weight code to k) end (stays to (suc n) (to - suc n)) in
      omega (arith, arrived n to i begins leads)

  ended_stays : (n d : ℕ) → most_ended weight code n ≤ most_ended weight code (n + d)
  unfolding most_ended
  ended_stays n zero =
      let same : n + 0 ≡ n = omega arith in
      subst (λ k. most_ended weight code n ≤ most_ended weight code k) (sym same) (omega arith)
  ended_stays n (suc d) =
      let next : suc (n + d) ≡ n + suc d = omega arith in
      subst (λ k. most_ended weight code n ≤ most_ended weight code k) next (omega (arith, ended_stays n d))

  ended_there : (n : ℕ) (i : Insn)
      → begins_at code n ≡ Some i → is_exit i ≡ true
      → most_from weight code n n + weight i ≤ most_ended weight code (suc n)
  unfolding most_ended
  ended_there n i begins exit =
      omega (arith, ends_with weight (begins_at code n) i (most_from weight code n n) begins exit)

  ended : (n : ℕ) (i : Insn)
      → begins_at code n ≡ Some i → is_exit i ≡ true
      → most_from weight code n n + weight i ≤ most_ended weight code (slot_count code)
  ended n i begins exit =
      let within = begins_within code n i begins in
      let end : suc n + (slot_count code - suc n) ≡ slot_count code = omega arith in
      let later : most_ended weight code (suc n) ≤ most_ended weight code (slot_count code) =
      subst (λ k. most_ended weight code (suc n) ≤ most_ended weight code k) end
      (ended_stays (suc n) (slot_count code - suc n)) in
      omega (arith, ended_there n i begins exit)

  bounded : (at : ℕ) (path : List Insn)
      → IsPath code at path
      → most_from weight code at at + total weight path ≤ most_ended weight code (slot_count code)
  unfolding total
  bounded at [] path = absurd path
  bounded at (i ∷ is) path =
      elim path.1 [
        | inl end ↦
            let none : total weight is ≡ 0 = ap (total weight) end.1 in
            omega (arith, ended at i path.0 end.0)
        | inr on ↦ omega (arith, bounded on.0 is on.2, sent at on.0 i path.0 on.1)
      ]

-- ---- one path has as much

module _ (weight : Insn → ℕ) (code : List Insn) (named : List Named)
    (fine : HasNoFault (structure_fault code named)) where
  -- each path from a slot is the end of one from slot 0, with so much before the slot
  abbrev Extends : ℕ → ℕ → Type 0
  Extends i before =
      (rest : List Insn)
      → IsPath code i rest
      → (path : List Insn) × IsPath code 0 path × (total weight path ≡ before + total weight rest)

  extends_as : (i a b : ℕ) → a ≡ b → Extends i a → Extends i b
  extends_as i a b same = subst (Extends i) same

  on_edge : (n to before : ℕ) (i : Insn)
      → begins_at code n ≡ Some i → leads_into (Some i) n to ≡ true
      → Extends n before
      → Extends to (before + weight i)
  unfolding total
  on_edge n to before i begins leads extends rest path =
      let longer = extends (i ∷ rest) (begins, inr (to, leads, path)) in
      let sum : total weight longer.0 ≡ before + (weight i + total weight rest) = longer.2 in
      (longer.0, longer.1, omega arith)

  reached_at : (n : ℕ) (i : Insn) → begins_at code n ≡ Some i → is_reachable code n ≡ true
  reached_at n i begins = (each_is_fine code named fine n i begins).reached

  leads_none : (o : Option Insn) (n to : ℕ)
      → begins_at code n ≡ o
      → (is_reachable code n && leads_into o n to) ≡ false
      → leads_into o n to ≡ false
  leads_none None n to begins none = refl
  leads_none (Some i) n to begins none =
      second_false (is_reachable code n) (leads_into (Some i) n to) none (reached_at n i begins)

  -- what cannot be reached has nothing before it
  unreached : (to n : ℕ) → reached_from code to n ≡ false → most_from weight code to n ≡ 0
  unfolding reached_from most_from
  unreached to zero none = refl
  unreached to (suc n) none =
      let parts =
      or_parts (reached_from code to n) (reached_from code n n && leads_into (begins_at code n) n to) none in
      let nothing =
      passes_none weight (begins_at code n) n to (most_from weight code n n)
      (leads_none (begins_at code n) n to refl parts.1) in
      omega (arith, unreached to n parts.0)

  -- what can be reached has a way to it with the most
  reach : (to n : ℕ) → reached_from code to n ≡ true → Extends to (most_from weight code to n)
  unfolding reached_from most_from
  reach to zero is = λ rest path. (rest, subst (λ k. IsPath code k rest) (eqb-true to 0 is) path, omega arith)
  reach to (suc n) is =
      let before = most_from weight code to n in
      let there = most_from weight code n n in
      elim (cases_Bool (leads_into (begins_at code n) n to)) [
        | inr none ↦
            let nothing = passes_none weight (begins_at code n) n to there none in
            let still =
            sym (or_neither (reached_from code to n) (reached_from code n n))
            ∙ ap (λ b. reached_from code to n || (reached_from code n n && b)) (sym none)
            ∙ is in
            extends_as to before _ (omega arith) (reach to n still)
        | inl leads ↦
            let insn = leads_from (begins_at code n) n to leads in
            let edge = subst (λ o. leads_into o n to ≡ true) insn.1 leads in
            let passed = passes weight (begins_at code n) insn.0 n to there insn.1 edge in
            let by_edge = on_edge n to there insn.0 insn.1 edge (reach n n (reached_at n insn.0 insn.1)) in
            elim (cases_lt (there + weight insn.0) before) [
              | inr more ↦ extends_as to (there + weight insn.0) _ (omega arith) by_edge
              | inl fewer ↦
                  elim (cases_Bool (reached_from code to n)) [
                    | inl still ↦ extends_as to before _ (omega arith) (reach to n still)
                    | inr never ↦ absurd (omega (arith, unreached to n never))
                  ]
            ]
      ]

  exit_of : (i : Insn) → falls i ≡ false → jumps i ≡ false → is_exit i ≡ true
  exit_of i fallen jumped = rw (fallen, jumped) refl

  -- from each instruction a path leads to an exit
  finish : (d n : ℕ) (i : Insn)
      → begins_at code n ≡ Some i → slot_count code ≤ n + d
      → (rest : List Insn) × IsPath code n rest
  finish zero n i begins enough = absurd (omega (arith, begins_within code n i begins))
  finish (suc d) n i begins enough =
      let shape = shaped code named fine n i begins in
      elim (cases_Bool (falls i)) [
        | inl is ↦
            let into = falls_lead code n i shape (falls_to i n) is refl in
            let next =
            begun_of code (falls_to i n) (begins_at code (falls_to i n)) refl
            (falls_begins code n i shape (falls_to i n) begins into) in
            let on = finish d (falls_to i n) next.0 next.1 (omega (arith, some_slots i)) in (
              i ∷ on.0,
              (
                begins,
                inr (falls_to i n, or_left (falls_into i n (falls_to i n)) (jumps_into i n (falls_to i n)) into, on.1),
              ),
            )
        | inr no_fall ↦
            elim (cases_Bool (jumps i)) [
              | inl is ↦
                  let to = some_slot (jumps_to i n) (target_is code n i shape) in
                  let there = jump_at code n i shape to.0 is to.1 in
                  let next = begun_of code to.0 (begins_at code to.0) refl there.1 in
                  let on = finish d to.0 next.0 next.1 (omega (arith, there.0)) in (
                    i ∷ on.0,
                    (
                      begins,
                      inr (
                        to.0,
                        or_right (falls_into i n to.0) (jumps_into i n to.0) (jumps_lead code n i shape to.0 is to.1),
                        on.1,
                      ),
                    ),
                  )
              | inr no_jump ↦ (i ∷ [], (begins, inl (exit_of i no_fall no_jump, refl)))
            ]
      ]

  abbrev HasPath : ℕ → Type 0
  HasPath most = (path : List Insn) × IsPath code 0 path × (total weight path ≡ most)

  -- what an exit adds, a path to it has
  through_exit : (n : ℕ) (o : Option Insn)
      → begins_at code n ≡ o
      → (at_exit weight o (most_from weight code n n) ≡ 0) ⊎ HasPath (at_exit weight o (most_from weight code n n))
  unfolding total
  through_exit n None begins = inl refl
  through_exit n (Some i) begins =
      let there = most_from weight code n n in
      elim (cases_Bool (is_exit i)) [
        | inl exit ↦
            let whole = reach n n (reached_at n i begins) (i ∷ []) (begins, inl (exit, refl)) in
            let sum : total weight whole.0 ≡ there + (weight i + 0) = whole.2 in
            let added = cond-true (is_exit i) (there + weight i) 0 exit in
            inr (whole.0, whole.1, omega arith)
        | inr goes_on ↦ inl (cond-false (is_exit i) (there + weight i) 0 goes_on)
      ]

  has_as : (a b : ℕ) → a ≡ b → HasPath a → HasPath b
  has_as a b same = subst HasPath same

  attained : (m : ℕ) → (most_ended weight code m ≡ 0) ⊎ HasPath (most_ended weight code m)
  unfolding most_ended
  attained zero = inl refl
  attained (suc m) =
      let added = at_exit weight (begins_at code m) (most_from weight code m m) in
      elim (cases_lt (most_ended weight code m) added) [
        | inl more ↦
            elim (through_exit m (begins_at code m) refl) [
              | inl nothing ↦ absurd (omega arith)
              | inr path ↦ inr (has_as added _ (omega arith) path)
            ]
        | inr fewer ↦
            elim (attained m) [
              | inl nothing ↦ inl (omega arith)
              | inr path ↦ inr (has_as (most_ended weight code m) _ (omega arith) path)
            ]
      ]

  at_start : most_from weight code 0 0 ≡ 0
  unfolding most_from
  at_start = refl

  -- in a program without a fault of its shape, the most that the pass finds is the most on a path from slot 0
  pub is_most : 0 < slot_count code → IsMostOf (total weight) code (most_ended weight code (slot_count code))
  is_most some =
      let first = begun_of code 0 (begins_at code 0) refl (first_begins code some) in
      let any = finish (slot_count code) 0 first.0 first.1 (omega arith) in (
        λ path is. omega (arith, at_start, bounded weight code 0 path is),
        elim (attained (slot_count code)) [
          | inl nothing ↦ (any.0, any.1, omega (arith, at_start, bounded weight code 0 any.0 any.1))
          | inr path ↦ path
        ],
      )
