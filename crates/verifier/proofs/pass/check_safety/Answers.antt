-- `check_safety`: by induction over the instructions. By the contract of `step`, and since joins commute and associate, the pass has the facts
-- before each slot; so its error is the first fault of safety, and without an error no slot has one. The watcher receives those facts in
-- order. The targets of jumps are slots of the program, as required, and so meet the precondition of `step`.
use Rattle.std.proofs.Common.{◌≡◌, ℕ, ◌+◌, ◌<◌, ◌≤◌, zero, suc, List, length, Option, Some, None, sym, subst, ap, ◌∙◌, inl, inr, arith}
use Rattle.std.specs.Prelude.{IfSome}
use Rattle.std.proofs.lemmas.Bool.{cases_lt, cases_eq}
use Rattle.std.proofs.lemmas.Result.{err_from_is_err_and}
use Rattle.insn_set.specs.BeginLaws.{none_begins_past, none_begins_inside, adjoins_after, some_slots}
use Rattle.insn_set.specs.declared.insn.Insn.{Insn}
use Rattle.insn_set.specs.Spelling.{slots}
use Rattle.insn_set.specs.Program.{begins_at, slot_count, Adjoins}
use Rattle.tagged_model.specs.Named.{shapes_named}
use Rattle.insn_set.specs.Flow.{jump_target}
use Rattle.verifier.specs.Verdict.{safety_fault}
use Rattle.verifier.proofs.Reached.{begins_first, begun_there}
use Rattle.verifier.proofs.Inflow.{IsBefore, at_start, here_is, after_insn, after_none, safety_is, safe_none, first_at}
use Rattle.verifier.specs.Seen.{SeesBelow}
use Rattle.verifier.proofs.Watching.{seen_first, seen_next, seen_past, seen_or_not}
use Rattle.verifier.proofs.pass.check_safety.Goals as goal

pub loop-slot-init : goal.loop-slot-init
loop-slot-init g c =
    let code = c.args.program.now in
    let count = c.slots-slots.ensures.count in
    let some : 1 ≤ slot_count code = subst (λ (n : ℕ). 1 ≤ n) count c.slots-slots.ensures.some in
    record {
      begins = begins_first code (omega (arith, some));
      known = at_start (shapes_named c.args.named.now) code _ some c.begin.ensures.falling c.begin.ensures.entries;
      none_below = λ n lt. absurd (omega arith);
      seen = seen_first (shapes_named c.args.named.now) code _;
    }

-- a property of the slot after the first one of an instruction, passed on by each of its later slots, is one of the slot after all of them
across : (P : ℕ → Type 0) (slot size : ℕ)
    → 1 ≤ size → ((k : ℕ) → slot < k → k < slot + size → P k → P (k + 1))
    → P (slot + 1) → P (slot + size)
across P slot zero some next first = absurd (omega arith)
across P slot (suc zero) some next first = first
across P slot (suc (suc m)) some next first =
    let before = across P slot (suc m) (omega arith) (λ k after within. next k after (omega arith)) first in
    let same : slot + suc m + 1 ≡ slot + suc (suc m) = omega arith in
    subst P same (next (slot + suc m) (omega arith) (omega arith) before)

-- the end of an instruction is not past the end of the program
not_past : (code : List Insn) (n : ℕ) → Adjoins code n → n ≤ slot_count code
not_past code n (inl end) = omega (arith, end)
not_past code n (inr begins) = omega (arith, begins.0)

at_end_of : (code : List Insn) (n : ℕ) → Adjoins code n → slot_count code ≤ n → n ≡ slot_count code
at_end_of code n (inl end) past = end
at_end_of code n (inr within) past = absurd (omega (arith, within.0))

-- a target within the program is within all programs
within : (target : Option ℕ) (n : ℕ) → n ≤ 4096 → IfSome target (λ to. to < n) → IfSome target (λ to. to < 4096)
within None n most h = tt
within (Some to) n most h = omega (arith, most, h)

pub step-requires-clause-lands : goal.step-requires-clause-lands
step-requires-clause-lands g c =
    let code = c.args.program.now in
    let slot = c.loop-slot.slot in
    let insn = c.index-code-slot.result in
    let lt : slot < slot_count code = omega (arith, c.loop-slot-test.true, c.slots-slots.ensures.count) in
    let begins =
    begun_there code c.code-code.result.now slot insn c.loop-slot.invariant.begins lt
    c.code-code.ensures.insns c.index-code-slot.is in
    let most : slot_count code ≤ 4096 = omega (arith, c.slots-slots.ensures.count, c.slots-slots.ensures.room) in
    within (jump_target insn slot) (slot_count code) most (c.requires slot insn begins)

pub step-requires-clause-absorb : goal.step-requires-clause-absorb
step-requires-clause-absorb g c = c.slots_absorb.ensures

pub step-requires-clause-numbered : goal.step-requires-clause-numbered
step-requires-clause-numbered g c = c.loop-slot.invariant.known.numbered

pub returns-in_err-step-clause-refused : goal.returns-in_err-step-clause-refused
returns-in_err-step-clause-refused g c =
    let p = err_from_is_err_and c.from_residual.result c.from_residual.ensures.1 in
    let code = c.args.program.now in
    let slot = c.loop-slot.slot in
    let insn = c.index-code-slot.result in
    let lt : slot < slot_count code = omega (arith, c.loop-slot-test.true, c.slots-slots.ensures.count) in
    let begins =
    begun_there code c.code-code.result.now slot insn c.loop-slot.invariant.begins lt
    c.code-code.ensures.insns c.index-code-slot.is in
    let known = c.loop-slot.invariant.known in
    let here = here_is _ known begins lt in
    let old = g.W.Watcher.seen c.args.watcher.now in
    let mid = g.W.Watcher.seen c.loop-slot.watcher in
    let new = g.W.Watcher.seen c.step.new.watcher in
    rw (p.1, p.2)
    (elim c.in_err-step.ensures.refused [
      | inl memory ↦
          let (n, part) =
          seen_or_not (shapes_named c.args.named.now) code slot insn _ old mid new
          begins here c.loop-slot.invariant.seen memory.1 in
          inl (memory.0, n, part)
      | inr seen ↦
          inr (
            first_at (shapes_named c.args.named.now)
                (safety_fault (shapes_named c.args.named.now) code)
                c.in_err-step.field-0.0.slot slot c.in_err-step.field-0.0.reason
                seen.0.0
                (safety_is _ code slot here begins seen.0.1)
                c.loop-slot.invariant.none_below,
            subst (λ (n : ℕ). SeesBelow (n + 1) (shapes_named c.args.named.now) code old new) (sym seen.0.0)
                (seen_next (shapes_named c.args.named.now) code slot insn _ old mid
                new begins here c.loop-slot.invariant.seen seen.1),
          )
    ])

pub loop-slot-preserved : goal.loop-slot-preserved
loop-slot-preserved g c =
    let shapes = shapes_named c.args.named.now in
    let code = c.args.program.now in
    let slot = c.loop-slot.slot in
    let insn = c.index-code-slot.result in
    let lt : slot < slot_count code = omega (arith, c.loop-slot-test.true, c.slots-slots.ensures.count) in
    let begins =
    begun_there code c.code-code.result.now slot insn c.loop-slot.invariant.begins lt
    c.code-code.ensures.insns c.index-code-slot.is in
    let known = c.loop-slot.invariant.known in
    let here = here_is _ known begins lt in
    let sent = c.in_ok-step.ensures in
    let size : length (slots insn) ≡ c.slots-slot.result = sym c.slots-slot.ensures.count in
    let some = some_slots insn in
    let after = adjoins_after code slot insn begins in
    let end : slot + length (slots insn) ≤ slot_count code = not_past code (slot + length (slots insn)) after in
    let inside : (k : ℕ) → slot < k → k < slot + length (slots insn) → begins_at code k ≡ None =
    λ k above below. none_begins_inside code slot insn begins k above below in
    let grown : slot + length (slots insn) ≡ slot + c.slots-slot.result = ap (λ n. slot + n) size in
    record {
      begins = subst (Adjoins code) grown after;
      known =
          subst (λ n. IsBefore shapes code n c.step.new.self) grown
          (across (λ n. IsBefore shapes code n c.step.new.self) slot (length (slots insn)) some
          (λ k above below b. after_none _ b (inside k above below) (omega (arith, end)))
          (after_insn _ c.joins_commute.ensures.facts c.joins_associate.ensures.facts _ known
          begins lt sent.falling sent.sent sent.numbered));
      none_below = λ n below.
          elim (cases_lt n slot) [
            | inl earlier ↦ c.loop-slot.invariant.none_below n earlier
            | inr later ↦
                elim (cases_eq n slot) [
                  | inl same ↦ ap (safety_fault shapes code) same ∙ safety_is _ code slot here begins sent.ok
                  | inr other ↦ safe_none shapes code n (inside n (omega arith) (omega (arith, size)))
                ]
          ];
      seen =
          subst (λ n. SeesBelow n shapes code (g.W.Watcher.seen c.args.watcher.now) (g.W.Watcher.seen c.step.new.watcher))
          grown
          (across (λ n. SeesBelow n shapes code (g.W.Watcher.seen c.args.watcher.now) (g.W.Watcher.seen c.step.new.watcher))
          slot (length (slots insn)) some
          (λ k above below s. seen_past shapes code k _ _ (inside k above below) s)
          (seen_next shapes code slot insn _ _ _ _ begins here c.loop-slot.invariant.seen sent.seen));
    }

pub returns-clause-sound : goal.returns-clause-sound
returns-clause-sound g c = λ n.
    elim (cases_lt n (slot_count c.args.program.now)) [
      | inl lt ↦ c.loop-slot.invariant.none_below n (omega (arith, c.loop-slot-test.false, c.slots-slots.ensures.count))
      | inr past ↦ safe_none (shapes_named c.args.named.now) c.args.program.now n
          (none_begins_past c.args.program.now n past)
    ]

pub returns-clause-seen : goal.returns-clause-seen
returns-clause-seen g c =
    let past : slot_count c.args.program.now ≤ c.loop-slot.slot =
    omega (arith, c.loop-slot-test.false, c.slots-slots.ensures.count) in
    let end = at_end_of c.args.program.now c.loop-slot.slot c.loop-slot.invariant.begins past in
    let old = g.W.Watcher.seen c.args.watcher.now in
    let new = g.W.Watcher.seen c.loop-slot.watcher in
    subst (λ (n : ℕ). SeesBelow n (shapes_named c.args.named.now) c.args.program.now old new) end
    c.loop-slot.invariant.seen
