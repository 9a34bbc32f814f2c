-- `check_shape`: by induction over the instructions no slot so far has a fault, and the counts are the most on paths, by the contracts of
-- `join` and `check_and_add`. So the error is the first fault, and without one each jump lands in the program; and the counts at the end
-- are the cost, since a path has them, and none has more (`is_most`).
use Rattle.std.proofs.Common.{◌≡◌, ℕ, ◌+◌, ◌<◌, ◌≤◌, ◌==◌, ◌||◌, nat_lt, length, get_or, replicate}
use Rattle.std.proofs.Common.{List, Some, None, refl, sym, subst, ap, ◌∙◌, inl, inr, arith, rules}
use Rattle.std.proofs.lemmas.List.{length-replicate, get_or-replicate}
use Rattle.std.proofs.lemmas.Bool.{cases_lt, cases_eq}
use Rattle.insn_set.specs.declared.insn.Insn.{Insn}
use Rattle.insn_set.specs.Spelling.{slots}
use Rattle.insn_set.specs.Program.{begins_at, slot_count, Adjoins}
use Rattle.insn_set.specs.BeginLaws.{none_begins_past, none_begins_inside, adjoins_after, some_slots}
use Rattle.insn_set.specs.ViewLaws.{profile_slots}
use Rattle.verifier.specs.declared.cost.Counts.{Counts}
use Rattle.verifier.specs.Cost.{IsMostOf}
use Rattle.verifier.specs.Shape.{structure_fault}
use Rattle.verifier.specs.inside.Longest.{arriving, no_counts, one, one_if_call, total, most_from, most_ended}
use Rattle.verifier.proofs.Counts.{arrives_none, arrives_here, arrives_later, most_first, ended_first, carried}
use Rattle.verifier.proofs.Counts.{ended_carried, most_small, one_is_small, one_if_call_is_small, reached_below, reached_is, cost_is}
use Rattle.verifier.proofs.Longest.{is_most}
use Rattle.verifier.proofs.Reached.{begins_first, begun_there, shape_is, each_lands}
use Rattle.verifier.proofs.shape.check_shape.Goals as goal

at_end_of : (code : List Insn) (n : ℕ) → Adjoins code n → slot_count code ≤ n → n ≡ slot_count code
at_end_of code n (inl end) past = end
at_end_of code n (inr within) past = absurd (omega (arith, within.0))

pub loop-slot-init : goal.loop-slot-init
loop-slot-init c =
    let code = c.args.program.now in
    let items : c.as_mut_slice-jumping.result.now ≡ replicate (slot_count code) no_counts = search rules in
    let none : (i : ℕ) → i < slot_count code → get_or c.as_mut_slice-jumping.result.now i no_counts ≡ no_counts =
    λ i lt.
    ap (λ (cs : List Counts). get_or cs i no_counts) items
    ∙ get_or-replicate (slot_count code) i no_counts no_counts lt in
    record {
      begins = begins_first code (omega (arith, c.slots-slots.ensures.count, c.slots-slots.ensures.some));
      long = ap length items ∙ length-replicate (slot_count code) no_counts;
      instructions = λ i above lt.
          arrives_none (0 == i) _ _
          (ap (λ (n : Counts). n.instructions) c.new-paths.ensures.here)
          (ap (λ (n : Counts). n.instructions) (none i lt))
          ∙ sym (most_first one code i);
      calls = λ i above lt.
          arrives_none (0 == i) _ _
          (ap (λ (n : Counts). n.calls) c.new-paths.ensures.here)
          (ap (λ (n : Counts). n.calls) (none i lt))
          ∙ sym (most_first one_if_call code i);
      ended_instructions = ap (λ (n : Counts). n.instructions) c.new-paths.ensures.ended ∙ sym (ended_first one code);
      ended_calls = ap (λ (n : Counts). n.calls) c.new-paths.ensures.ended ∙ sym (ended_first one_if_call code);
      none_below = λ n lt. absurd (omega arith);
    }

pub check_and_add-requires-clause-reached : goal.check_and_add-requires-clause-reached
check_and_add-requires-clause-reached c =
    let code = c.args.program.now in
    let slot = c.loop-slot.slot in
    let within : slot < slot_count code = omega (arith, c.loop-slot-test.true, c.slots-slots.ensures.count) in
    let here =
    arrives_here slot _ _ _ _
    (c.loop-slot.invariant.instructions slot (omega arith) within)
    c.join.ensures.instructions in
    ap (λ (n : ℕ). nat_lt 0 n || slot == 0) here
    ∙ sym (reached_is code slot slot
    (λ k i lt. reached_below code c.args.named.now k i (c.loop-slot.invariant.none_below k lt)))

pub check_and_add-requires-clause-few : goal.check_and_add-requires-clause-few
check_and_add-requires-clause-few c =
    let code = c.args.program.now in
    let slot = c.loop-slot.slot in
    let within : slot < slot_count code = omega (arith, c.loop-slot-test.true, c.slots-slots.ensures.count) in
    let instructions =
    arrives_here slot _ _ _ _
    (c.loop-slot.invariant.instructions slot (omega arith) within)
    c.join.ensures.instructions in
    let calls =
    arrives_here slot _ _ _ _ (c.loop-slot.invariant.calls slot (omega arith) within) c.join.ensures.calls in
    record {
      instructions =
          omega (
            arith,
            instructions,
            most_small one one_is_small code slot slot,
            c.slots-slots.ensures.room,
            within,
            c.slots-slots.ensures.count,
          );
      calls =
          omega (
            arith,
            calls,
            most_small one_if_call one_if_call_is_small code slot slot,
            c.slots-slots.ensures.room,
            within,
            c.slots-slots.ensures.count,
          );
    }

pub returns-in-Err-clause-refused : goal.returns-in-Err-clause-refused
returns-in-Err-clause-refused c =
    let code = c.args.program.now in
    let slot = c.loop-slot.slot in
    let begins =
    begun_there code c.code-code.result.now slot c.index-code-slot.result
    c.loop-slot.invariant.begins
    (omega (arith, c.loop-slot-test.true, c.slots-slots.ensures.count))
    c.code-code.ensures.insns c.index-code-slot.is in
    inr (record {
      here =
          shape_is code c.args.named.now slot (Some c.index-code-slot.result) (Some c.in-Err.reason)
          (sym begins) (sym c.in-Err.ensures.refused);
      below = c.loop-slot.invariant.none_below;
    })

pub loop-slot-preserved : goal.loop-slot-preserved
loop-slot-preserved c =
    let code = c.args.program.now in
    let named = c.args.named.now in
    let slot = c.loop-slot.slot in
    let insn = c.index-code-slot.result in
    let old = c.loop-slot.invariant in
    let within : slot < slot_count code = omega (arith, c.loop-slot-test.true, c.slots-slots.ensures.count) in
    let begins =
    begun_there code c.code-code.result.now slot insn old.begins within c.code-code.ensures.insns
    c.index-code-slot.is in
    let size : c.profile-row.result.slots ≡ length (slots insn) =
    ap (λ row. row.slots) c.profile-row.ensures ∙ profile_slots insn in
    let more = some_slots insn in
    let inside : (k : ℕ) → slot < k → k < slot + length (slots insn) → begins_at code k ≡ None =
    λ k after before. none_begins_inside code slot insn begins k after before in
    let instructions =
    arrives_here slot _ _ _ _ (old.instructions slot (omega arith) within) c.join.ensures.instructions in
    let calls = arrives_here slot _ _ _ _ (old.calls slot (omega arith) within) c.join.ensures.calls in
    let added = c.in_default.ensures.added in
    record {
      begins = subst (Adjoins code) (ap (λ (n : ℕ). slot + n) (sym size)) (adjoins_after code slot insn begins);
      long = c.check_and_add.auto.jumping ∙ old.long;
      instructions = λ i above lt.
          let after : slot < i = omega arith in
          let was = arrives_later slot i _ _ _ after (old.instructions i (omega arith) lt) in
          ap (λ (n : ℕ). arriving (λ k. k.instructions) (slot + n) c.check_and_add.new.paths.here c.check_and_add.new.jumping i) size
          ∙ carried one code slot (length (slots insn)) i _ _ _ insn begins more inside instructions
          was (added.instructions i after)
          ∙ ap (λ (n : ℕ). most_from one code i (slot + n)) (sym size);
      calls = λ i above lt.
          let after : slot < i = omega arith in
          let was = arrives_later slot i _ _ _ after (old.calls i (omega arith) lt) in
          ap (λ (n : ℕ). arriving (λ k. k.calls) (slot + n) c.check_and_add.new.paths.here c.check_and_add.new.jumping i) size
          ∙ carried one_if_call code slot (length (slots insn)) i _ _ _ insn begins more inside
          calls was (added.calls i after)
          ∙ ap (λ (n : ℕ). most_from one_if_call code i (slot + n)) (sym size);
      ended_instructions =
          ended_carried one code slot (length (slots insn)) _ _ _ insn begins more inside
          instructions
          (ap (λ (k : Counts). k.instructions) c.join.ensures.ended ∙ old.ended_instructions)
          added.ended_instructions
          ∙ ap (λ (n : ℕ). most_ended one code (slot + n)) (sym size);
      ended_calls =
          ended_carried one_if_call code slot (length (slots insn)) _ _ _ insn begins more inside
          calls
          (ap (λ (k : Counts). k.calls) c.join.ensures.ended ∙ old.ended_calls)
          added.ended_calls
          ∙ ap (λ (n : ℕ). most_ended one_if_call code (slot + n)) (sym size);
      none_below = λ n lt.
          elim (cases_lt n slot) [
            | inl below ↦ old.none_below n below
            | inr past ↦
                elim (cases_eq n slot) [
                  | inl same ↦ ap (structure_fault code named) same
                      ∙ shape_is code named slot (Some insn) None (sym begins) (sym c.in_default.ensures.fine)
                  | inr other ↦ shape_is code named n None None (sym (inside n (omega arith) (omega arith))) refl
                ]
          ];
    }

sound : (c : goal.After-cost) (n : ℕ) → structure_fault c.args.program.now c.args.named.now n ≡ None
sound c n =
    elim (cases_lt n (slot_count c.args.program.now)) [
      | inl lt ↦ c.loop-slot.invariant.none_below n (omega (arith, c.loop-slot-test.false, c.slots-slots.ensures.count))
      | inr past ↦ shape_is c.args.program.now c.args.named.now n None None
          (sym (none_begins_past c.args.program.now n past)) refl
    ]

pub returns-clause-sound : goal.returns-clause-sound
returns-clause-sound c = sound c

pub returns-clause-lands : goal.returns-clause-lands
returns-clause-lands c = each_lands c.args.program.now c.args.named.now (sound c)

pub returns-clause-cost : goal.returns-clause-cost
returns-clause-cost c =
    let code = c.args.program.now in
    let some : 0 < slot_count code = omega (arith, c.slots-slots.ensures.count, c.slots-slots.ensures.some) in
    let past : slot_count code ≤ c.loop-slot.slot =
    omega (arith, c.loop-slot-test.false, c.slots-slots.ensures.count) in
    let end : c.loop-slot.slot ≡ slot_count code = at_end_of code c.loop-slot.slot c.loop-slot.invariant.begins past in
    let instructions =
    c.cost.ensures.instructions ∙ c.loop-slot.invariant.ended_instructions ∙ ap (most_ended one code) end in
    let calls = c.cost.ensures.calls ∙ c.loop-slot.invariant.ended_calls ∙ ap (most_ended one_if_call code) end in
    cost_is c.cost.result code
    (subst (IsMostOf (total one) code) (sym instructions) (is_most one code c.args.named.now (sound c) some))
    (subst (IsMostOf (total one_if_call) code) (sym calls) (is_most one_if_call code c.args.named.now (sound c) some))
