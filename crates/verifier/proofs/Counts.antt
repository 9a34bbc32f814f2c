-- The counts during the pass over the shape agree with the definition.
use Rattle.std.proofs.Common.{◌≡◌, ℕ, zero, suc, ◌+◌, ◌-◌, ◌<◌, ◌≤◌, ◌==◌, max, Bool, true, false, not, ◌&&◌, ◌||◌, nat_lt}
use Rattle.std.proofs.Common.{if◌then◌else◌, List, [], ◌∷◌, length, Option, Some, None, refl, sym, ap, subst, ◌∙◌, inl, inr, add-one, arith}
use Rattle.std.proofs.lemmas.Bool.{cases_Bool, lt-ltb, eq-eqb, ne_eqb, false≢true, or_left}
use Rattle.std.proofs.lemmas.List.Recursion.{is_count_by}
use Rattle.insn_set.specs.declared.insn.Insn.{Insn}
use Rattle.insn_set.specs.declared.profile.Profile.{Profile}
use Rattle.insn_set.specs.Profile.{profile}
use Rattle.insn_set.specs.Program.{begins_at}
use Rattle.insn_set.specs.Flow.{falls_to, jumps_to, falls, falls_by, jumps, jumps_by, target_by, is_number}
use Rattle.tagged_model.specs.declared.shape.Named.{Named}
use Rattle.verifier.specs.declared.cost.Cost.{Cost}
use Rattle.verifier.specs.Cost.{is_call, is_exit, calls_in, IsMostOf, IsCostOf}
use Rattle.verifier.specs.Shape.{leads_into, reached_from, is_reachable, shape_reason_at, structure_fault}
use Rattle.verifier.specs.ShapeLaws.{unrefused_is_fine}
use Rattle.verifier.specs.inside.Longest.{one, one_if_call, total, passed_on, most_from, at_exit, most_ended}
use Rattle.verifier.proofs.Longest.{passes, passes_none, leads_from}
use Rattle.verifier.proofs.Reached.{or_neither}

-- ---- the counts that an instruction sends along its edges

slot_if : (b : Bool) (o : Option ℕ) (i : ℕ) → is_number (if b then o else None) i ≡ (b && is_number o i)
slot_if true o i = refl
slot_if false o i = refl

-- on the falling edge, or on the jumping one
merged : (fall here jump later : Bool) (k old : ℕ)
    → later ≡ true
    → max (if here then (if fall then k else 0) else 0) (max old (if jump then k else 0))
    ≡ max old (if ((fall && here) || (jump && later)) then k else 0)
merged fall here jump false k old is = absurd (false≢true is)
merged true true true true k old is = omega arith
merged true true false true k old is = omega arith
merged true false true true k old is = omega arith
merged true false false true k old is = omega arith
merged false true true true k old is = omega arith
merged false true false true k old is = omega arith
merged false false true true k old is = omega arith
merged false false false true k old is = omega arith

-- the counts on the falling edge and on jumps to slot i are the earlier ones with what the instruction passes on
pub along : (weight : Insn → ℕ) (insn : Insn) (row : Profile) (slot i before k fall old new : ℕ)
    → row ≡ profile insn → slot < i
    → k ≡ before + weight insn
    → fall ≡ (if falls_by row.successors then k else 0)
    → new ≡ max old (if is_number (target_by row.successors slot) i then k else 0)
    → max (if falls_to insn slot == i then fall else 0) new ≡ max old (passed_on weight (Some insn) slot i before)
along weight insn row slot i before k fall old new is_row after is_k is_fall is_new =
    let jump = jumps insn && is_number (jumps_to insn slot) i in
    let falling = is_fall ∙ ap (λ (r : Profile). if falls_by r.successors then k else 0) is_row in
    let jumping = is_new
    ∙ ap (λ (r : Profile). max old (if is_number (target_by r.successors slot) i then k else 0)) is_row
    ∙ ap (λ (b : Bool). max old (if b then k else 0)) (slot_if (jumps insn) (jumps_to insn slot) i) in
    ap (λ (n : ℕ). max (if falls_to insn slot == i then n else 0) new) falling
    ∙ ap (λ (n : ℕ). max (if falls_to insn slot == i then (if falls insn then k else 0) else 0) n) jumping
    ∙ merged (falls insn) (falls_to insn slot == i) jump (nat_lt slot i) k old (lt-ltb slot i after)
    ∙ ap (λ (n : ℕ). max old (if leads_into (Some insn) slot i then n else 0)) is_k

-- the most on an ended path is the greater of the earlier one and, at an exit, the count of the way through it
pub at_end : (weight : Insn → ℕ) (insn : Insn) (row : Profile) (before k old new : ℕ)
    → row ≡ profile insn → k ≡ before + weight insn
    → new ≡ max old (if not (falls_by row.successors || jumps_by row.successors) then k else 0)
    → new ≡ max old (at_exit weight (Some insn) before)
at_end weight insn row before k old new is_row is_k is_new =
    is_new
    ∙ ap (λ (r : Profile). max old (if not (falls_by r.successors || jumps_by r.successors) then k else 0)) is_row
    ∙ ap (λ (n : ℕ). max old (if is_exit insn then n else 0)) is_k

-- ---- the counts that arrive

-- at the slot of the pass, the greater of the counts on the falling edge and on jumps is the most on the way to it
pub arrives_here : (slot fall jump most here : ℕ)
    → max (if slot == slot then fall else 0) jump ≡ most
    → here ≡ max fall jump
    → here ≡ most
arrives_here slot fall jump most here is sum =
    sum ∙ sym (ap (λ (b : Bool). max (if b then fall else 0) jump) (eq-eqb slot slot refl)) ∙ is

-- if neither the falling edge nor a jump has a count, the count that arrives is 0
pub arrives_none : (b : Bool) (fall jump : ℕ) → fall ≡ 0 → jump ≡ 0 → max (if b then fall else 0) jump ≡ 0
arrives_none true fall jump is_fall is_jump = omega arith
arrives_none false fall jump is_fall is_jump = omega arith

-- at a slot above the one to which the falling edge leads, what arrives is the count on jumps
pub arrives_later : (slot i fall jump most : ℕ)
    → slot < i → max (if slot == i then fall else 0) jump ≡ most → jump ≡ most
arrives_later slot i fall jump most after is =
    let other : (slot == i) ≡ false = ne_eqb slot i (λ e. omega arith) in
    let none : max (if slot == i then fall else 0) jump ≡ max 0 jump =
    ap (λ (b : Bool). max (if b then fall else 0) jump) other in
    omega arith

-- ---- from one slot to the next

module _ (weight : Insn → ℕ) (code : List Insn) where
  -- at the start nothing comes before a slot
  pub most_first : (i : ℕ) → most_from weight code i 0 ≡ 0
  unfolding most_from
  most_first i = refl

  -- the most on a path that ends below slot 0 is 0
  pub ended_first : most_ended weight code 0 ≡ 0
  unfolding most_ended
  ended_first = refl

  -- after the instruction at slot n, the most on the way to slot i counts the edges from slot n too
  pub most_next : (i n old new before : ℕ) (insn : Insn)
      → begins_at code n ≡ Some insn → before ≡ most_from weight code n n
      → old ≡ most_from weight code i n
      → new ≡ max old (passed_on weight (Some insn) n i before)
      → new ≡ most_from weight code i (n + 1)
  unfolding most_from
  most_next i n old new before insn begins is_before is_old is =
      is
      ∙ ap (λ (k : ℕ). max k (passed_on weight (Some insn) n i before)) is_old
      ∙ ap (λ (k : ℕ). max (most_from weight code i n) (passed_on weight (Some insn) n i k)) is_before
      ∙ sym (ap (λ (o : Option Insn).
      max (most_from weight code i n) (passed_on weight o n i (most_from weight code n n)))
      begins)
      ∙ ap (most_from weight code i) (sym (add-one n))

  -- after the instruction at slot n, the most on an ended path counts an exit at slot n too
  pub ended_next : (n old new before : ℕ) (insn : Insn)
      → begins_at code n ≡ Some insn → before ≡ most_from weight code n n
      → old ≡ most_ended weight code n
      → new ≡ max old (at_exit weight (Some insn) before)
      → new ≡ most_ended weight code (n + 1)
  unfolding most_ended
  ended_next n old new before insn begins is_before is_old is =
      is
      ∙ ap (λ (k : ℕ). max k (at_exit weight (Some insn) before)) is_old
      ∙ ap (λ (k : ℕ). max (most_ended weight code n) (at_exit weight (Some insn) k)) is_before
      ∙ sym (ap (λ (o : Option Insn). max (most_ended weight code n) (at_exit weight o (most_from weight code n n)))
      begins)
      ∙ ap (most_ended weight code) (sym (add-one n))

  -- a slot at which no instruction begins changes nothing
  most_past : (i n : ℕ) → begins_at code n ≡ None → most_from weight code i (n + 1) ≡ most_from weight code i n
  unfolding most_from
  most_past i n begins =
      let none : passed_on weight (begins_at code n) n i (most_from weight code n n) ≡ 0 =
      ap (λ (o : Option Insn). passed_on weight o n i (most_from weight code n n)) begins in
      ap (most_from weight code i) (add-one n) ∙ omega arith

  ended_past : (n : ℕ) → begins_at code n ≡ None → most_ended weight code (n + 1) ≡ most_ended weight code n
  unfolding most_ended
  ended_past n begins =
      let none : at_exit weight (begins_at code n) (most_from weight code n n) ≡ 0 =
      ap (λ (o : Option Insn). at_exit weight o (most_from weight code n n)) begins in
      ap (most_ended weight code) (add-one n) ∙ omega arith

  -- slots at which no instruction begins do not change the most on the way to slot i
  pub most_through : (i n m : ℕ)
      → ((k : ℕ) → n < k → k < n + 1 + m → begins_at code k ≡ None)
      → most_from weight code i (n + 1) ≡ most_from weight code i (n + 1 + m)
  most_through i n zero none = let same : n + 1 + 0 ≡ n + 1 = omega arith in sym (ap (most_from weight code i) same)
  most_through i n (suc m) none =
      let next : n + 1 + m + 1 ≡ n + 1 + suc m = omega arith in
      most_through i n m (λ k after before. none k after (omega arith))
      ∙ sym (most_past i (n + 1 + m) (none (n + 1 + m) (omega arith) (omega arith)))
      ∙ ap (most_from weight code i) next

  -- slots at which no instruction begins do not change the most on an ended path
  pub ended_through : (n m : ℕ)
      → ((k : ℕ) → n < k → k < n + 1 + m → begins_at code k ≡ None)
      → most_ended weight code (n + 1) ≡ most_ended weight code (n + 1 + m)
  ended_through n zero none = let same : n + 1 + 0 ≡ n + 1 = omega arith in sym (ap (most_ended weight code) same)
  ended_through n (suc m) none =
      let next : n + 1 + m + 1 ≡ n + 1 + suc m = omega arith in
      ended_through n m (λ k after before. none k after (omega arith))
      ∙ sym (ended_past (n + 1 + m) (none (n + 1 + m) (omega arith) (omega arith)))
      ∙ ap (most_ended weight code) next

-- the same over all the slots of an instruction
pub carried : (weight : Insn → ℕ) (code : List Insn) (slot size i here old new : ℕ) (insn : Insn)
    → begins_at code slot ≡ Some insn → 1 ≤ size
    → ((k : ℕ) → slot < k → k < slot + size → begins_at code k ≡ None)
    → here ≡ most_from weight code slot slot → old ≡ most_from weight code i slot
    → new ≡ max old (passed_on weight (Some insn) slot i here)
    → new ≡ most_from weight code i (slot + size)
carried weight code slot size i here old new insn begins some inside is_here is_old is =
    let end : slot + 1 + (size - 1) ≡ slot + size = omega arith in
    most_next weight code i slot old new here insn begins is_here is_old is
    ∙ most_through weight code i slot (size - 1) (λ k after before. inside k after (omega arith))
    ∙ ap (most_from weight code i) end

-- after all slots of an instruction, the most on an ended path counts this instruction as an exit too
pub ended_carried : (weight : Insn → ℕ) (code : List Insn) (slot size here old new : ℕ) (insn : Insn)
    → begins_at code slot ≡ Some insn → 1 ≤ size
    → ((k : ℕ) → slot < k → k < slot + size → begins_at code k ≡ None)
    → here ≡ most_from weight code slot slot → old ≡ most_ended weight code slot
    → new ≡ max old (at_exit weight (Some insn) here)
    → new ≡ most_ended weight code (slot + size)
ended_carried weight code slot size here old new insn begins some inside is_here is_old is =
    let end : slot + 1 + (size - 1) ≡ slot + size = omega arith in
    ended_next weight code slot old new here insn begins is_here is_old is
    ∙ ended_through weight code slot (size - 1) (λ k after before. inside k after (omega arith))
    ∙ ap (most_ended weight code) end

-- ---- the counts are small

-- an instruction counts at most once
abbrev pub IsSmall : (Insn → ℕ) → Type 0
IsSmall weight = (i : Insn) → weight i ≤ 1

pub one_is_small : IsSmall one
one_is_small i = omega arith

at_most_one : (b : Bool) → (if b then 1 else 0) ≤ 1
at_most_one true = omega arith
at_most_one false = omega arith

pub one_if_call_is_small : IsSmall one_if_call
one_if_call_is_small i = at_most_one (is_call i)

if_small : (b : Bool) (k n : ℕ) → k ≤ n → (if b then k else 0) ≤ n
if_small true k n le = le
if_small false k n le = omega arith

passes_little : (weight : Insn → ℕ)
    → IsSmall weight
    → (o : Option Insn) (n i before : ℕ) → passed_on weight o n i before ≤ before + 1
passes_little weight small None n i before = omega arith
passes_little weight small (Some insn) n i before =
    if_small (leads_into (Some insn) n i) _ _ (omega (arith, small insn))

-- if each instruction counts at most one, the most on the way to a slot from slots below n is at most n
pub most_small : (weight : Insn → ℕ) → IsSmall weight → (code : List Insn) (i n : ℕ) → most_from weight code i n ≤ n
unfolding most_from
most_small weight small code i zero = omega arith
most_small weight small code i (suc n) =
    omega (
      arith,
      most_small weight small code i n,
      most_small weight small code n n,
      passes_little weight small (begins_at code n) n i (most_from weight code n n),
    )

-- ---- reachable slots

-- the instructions of slots without a fault can be reached
pub reached_below : (code : List Insn) (named : List Named) (k : ℕ) (i : Insn)
    → structure_fault code named k ≡ None → begins_at code k ≡ Some i
    → is_reachable code k ≡ true
unfolding structure_fault
reached_below code named k i none begins =
    (unrefused_is_fine code named i k (sym (ap (shape_reason_at code named k) begins) ∙ none)).reached

abbrev pub AreReachedBelow : ℕ → List Insn → Type 0
AreReachedBelow n code = (k : ℕ) (i : Insn) → k < n → begins_at code k ≡ Some i → is_reachable code k ≡ true

or_true : (a : Bool) → (a || true) ≡ true
or_true true = refl
or_true false = refl

-- a slot can be reached if an instruction comes before it, or it is the first
pub reached_is : (code : List Insn) (to n : ℕ)
    → AreReachedBelow n code
    → reached_from code to n ≡ (nat_lt 0 (most_from one code to n) || to == 0)
unfolding reached_from most_from
reached_is code to zero all = refl
reached_is code to (suc n) all =
    let there = most_from one code n n in
    let passed = passed_on one (begins_at code n) n to there in
    let most = max (most_from one code to n) passed in
    elim (cases_Bool (leads_into (begins_at code n) n to)) [
      | inr none ↦
          let nothing = passes_none one (begins_at code n) n to there none in
          let same : most ≡ most_from one code to n = omega arith in
          ap (λ (b : Bool). reached_from code to n || (reached_from code n n && b)) none
          ∙ or_neither (reached_from code to n) (reached_from code n n)
          ∙ reached_is code to n (λ k i lt begins. all k i (omega arith) begins)
          ∙ ap (λ (m : ℕ). nat_lt 0 m || to == 0) (sym same)
      | inl leads ↦
          let insn = leads_from (begins_at code n) n to leads in
          let edge = subst (λ (o : Option Insn). leads_into o n to ≡ true) insn.1 leads in
          let more : passed ≡ there + 1 = passes one (begins_at code n) insn.0 n to there insn.1 edge in
          ap (λ (b : Bool). reached_from code to n || (reached_from code n n && b)) leads
          ∙ ap (λ (b : Bool). reached_from code to n || (b && true)) (all n insn.0 (omega arith) insn.1)
          ∙ or_true (reached_from code to n)
          ∙ sym (or_left (nat_lt 0 most) (to == 0) (lt-ltb 0 most (omega arith)))
    ]

-- ---- the cost

-- a measure that is the same on each list has the same most
most_as : (f g : List Insn → ℕ) (code : List Insn) (n : ℕ)
    → ((is : List Insn) → f is ≡ g is) → IsMostOf f code n → IsMostOf g code n
most_as f g code n same is = (
  λ path path_is. subst (λ (m : ℕ). m ≤ n) (same path) (is.0 path path_is),
  (is.1.0, is.1.1, sym (same is.1.0) ∙ is.1.2),
)

total_length : (is : List Insn) → total one is ≡ length is
unfolding total
total_length [] = refl
total_length (i ∷ is) = omega (arith, total_length is)

counted : (b : Bool) (n : ℕ) → (if b then 1 else 0) + n ≡ (if b then 1 + n else n)
counted true n = refl
counted false n = omega arith

total_calls : (is : List Insn) → total one_if_call is ≡ calls_in is
unfolding total
total_calls is = is_count_by (total one_if_call) is_call refl (λ i is. counted (is_call i) (total one_if_call is)) is

-- if these are the most instructions and the most calls on a path from slot 0, they are the cost of the program
pub cost_is : (cost : Cost) (code : List Insn)
    → IsMostOf (total one) code cost.instructions
    → IsMostOf (total one_if_call) code cost.calls
    → IsCostOf cost code
cost_is cost code instructions calls = (
  most_as (total one) length code cost.instructions total_length instructions,
  most_as (total one_if_call) calls_in code cost.calls total_calls calls,
)

-- ---- a simple instruction has no fault
