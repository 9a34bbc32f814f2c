-- Each instruction is covered: its step exists, and the facts on the edge that it takes admit the next state.
use Rattle.std.proofs.Common.{◌≡◌, ℕ, length, ◌+◌, ◌<◌, ◌≤ℤ◌, ℤ, pos, ◌+ℤ◌, Bool, true, false, Option}
use Rattle.std.proofs.Common.{Some, None, Result, Ok, Err, if◌then◌else◌, refl, sym, ap, subst, ◌∙◌, arith}
use Rattle.std.specs.Option.{IsSome, unwrap_or}
use Rattle.std.proofs.lemmas.Int.{ints}
use Rattle.words.specs.declared.operator.Operator.{Operator}
use Rattle.words.specs.Operate.{operate}
use Rattle.words.specs.declared.operator.AluOp.{AluOp}
use Rattle.words.specs.declared.operator.Condition.{Condition}
use Rattle.insn_set.specs.declared.insn.Operand.{Operand}
use Rattle.insn_set.specs.declared.insn.Insn.{Insn}
use Rattle.insn_set.specs.View.{View, Access, WideValue, binary, unary, jump, branch, access, wide_load, call}
use Rattle.insn_set.specs.View.{exit, loads, stores, changes, immediate, map_ref, value_ref, view, WideLoadFitsWord}
use Rattle.insn_set.specs.ViewLaws.{profile_slots, view_is}
use Rattle.insn_set.specs.Profile.{profile_of}
use Rattle.insn_set.specs.Spelling.{slots, IsInsn}
use Rattle.reg_kinds.specs.declared.kind.Kind.{Kind}
use Rattle.reg_kinds.specs.declared.kind.Kind.TheVariants as kind
use Rattle.reg_kinds.specs.declared.facts.Facts.{Facts}
use Rattle.reg_kinds.specs.declared.reason.Reason.{Reason}
use Rattle.reg_kinds.specs.declared.reason.Reason.TheVariants.{NoDirectValue}
use Rattle.reg_kinds.specs.Reason.{and_then_ok}
use Rattle.reg_kinds.specs.Pointers.{value_span}
use Rattle.reg_kinds.specs.Kinds.{kind_at, slot_at, with_kind}
use Rattle.abstraction.specs.Admits.{IsKindBelow, IsSlotBelow, AreBelow, objects_of, witness_at}
use Rattle.tagged_model.specs.declared.helper.Helper.{Helper}
use Rattle.tagged_model.specs.declared.shape.MapShape.{MapShape}
use Rattle.tagged_model.specs.Helpers.{helper_of, called}
use Rattle.reg_kinds.specs.declared.kind.Slot.{Slot}
use Rattle.reg_kinds.specs.declared.kind.Slot.TheVariants.{Bytes, Spill}
use Rattle.tagged_model.specs.declared.value.Tagged.{Tagged}
use Rattle.tagged_model.specs.declared.value.Object.TheVariants as object
use Rattle.tagged_model.specs.declared.value.Tagged.TheVariants.{Scalar, Map, Pointer}
use Rattle.tagged_model.specs.Table.{has_direct_value, direct_object}
use Rattle.words.specs.Widths.{width}
use Rattle.insn_set.specs.Atomic.{access_size}
use Rattle.tagged_model.specs.Cells.{and_then}
use Rattle.abstraction.specs.Laws.{MapCallsKeep, SiteAdmits}
use Rattle.tagged_model.specs.Values.{arithmetic, first_operand, of_number, compared}
use Rattle.tagged_model.specs.State.{RunState, load, store}
use Rattle.tagged_model.specs.Step.{Step, goes, or_fault, operand_value, advanced, assigned, changed, branched, ended, accessed, act_of, act}
use Rattle.insn_set.specs.Flow.{slot_of_integer, offset_by, jumps_to}
use Rattle.transfer.specs.Arithmetic.{check_readable, arithmetic_kind, of_scalar}
use Rattle.transfer.specs.Branches.{Edges, falls, branch_edges}
use Rattle.transfer.specs.Effects.{source_kind, assigns, load_kind, store_facts, atomic_facts}
use Rattle.transfer.specs.Effects.{map_of, value_of, known, exits_with, access_edges, effect_of, effect}
use Rattle.transfer.specs.Calls.{call_facts}
use Rattle.transfer.specs.Sound.{IsKindAt, IsSlotAt, jumps_in, TakenEdgeAdmits, CoversStep, CallIsAdmitted, CallsAreSound, TransferIsSound}
use Rattle.transfer.proofs.Parts.{by_law, Here, Gives, IsKindOf, IsFound, IsKnown, OnFalling, IsCoveredIf, still_of, still_at, then_covered, ok_is}
use Rattle.transfer.proofs.States.{constant_of, register_found, source_found, first_found, goes_to, assigned_covered}
use Rattle.transfer.proofs.Values.{Results, by_number, number_agrees, arithmetic_agrees}
use Rattle.transfer.proofs.Memory.{Accesses, IsStored, load_agrees, store_agrees, changed_agrees}
use Rattle.transfer.proofs.Jumps.{Comparisons, jump_covered, branch_covered}

-- the premises of the steps
pub record Laws : Type 0 where
  -- results of operators on members of ranges are members of the range that the facts have
  pub results : Results
  -- comparisons keep operands in the ranges on the edge that is taken, and null tests settle their look-up soundly
  pub comparisons : Comparisons
  -- loads and stores that the facts allow are sound
  pub accesses : Accesses
  -- calls that the facts allow are sound
  pub calls : CallsAreSound
  -- the calls of a map keep its shape and its objects, and a look-up gives one of its objects
  pub map_calls : MapCallsKeep
  -- for a site that no fact mentions, the witness may record what the look-up there gave
  pub site : SiteAdmits

module _ (laws : Laws) (here : Here) (f : Facts) (s : RunState) (is_known : IsKnown here f s)
    (below : AreBelow s.at f) where
  -- the target slot of a jump
  abbrev target_of : View → Option ℕ
  target_of v = slot_of_integer (pos (s.at + 1) +ℤ offset_by (profile_of v).successors)

  -- the edge that an instruction of this many slots takes: the jump's, or the one to the next instruction
  abbrev OnTaken : View → ℕ → Bool → Edges → RunState → Type 0
  OnTaken v slots jumps = TakenEdgeAdmits jumps here.shapes (s.at + slots) (target_of v)

  -- if the facts permit the instruction, it is covered
  abbrev CoveredBy : View → ℕ → Type 0
  CoveredBy v slots = IsCoveredIf (OnTaken v slots (jumps_in v s)) (effect_of here.shapes s.at v f) (act_of v s)

  abbrev Covered : View → Type 0
  Covered v = CoveredBy v (profile_of v).slots

  -- the edge to the next slot
  abbrev Next : Edges → RunState → Type 0
  Next = OnFalling here (s.at + 1)

  -- ---- operands that are read

  register_covered : (On : Edges → RunState → Type 0) (r : ℕ) (go : Kind → Result Edges Reason)
      (on : Tagged → Step)
      → ((k : Kind) (v : Tagged) → IsFound here (s.registers r) k v → IsCoveredIf On (go k) (on v))
      → IsCoveredIf On (and_then_ok (check_readable (kind_at f r)) go) (or_fault (s.registers r) on)
  register_covered On r go on next =
      then_covered On (IsFound here (s.registers r)) _ _ go on (register_found here is_known r) next

  operand_covered : (On : Edges → RunState → Type 0) (wide : Bool) (src : Operand)
      (go : Kind → Result Edges Reason) (on : Tagged → Step)
      → ((k : Kind) (v : Tagged) → IsFound here (operand_value s wide src) k v → IsCoveredIf On (go k) (on v))
      → IsCoveredIf On
      (and_then_ok (check_readable (source_kind f wide src)) go)
      (or_fault (operand_value s wide src) on)
  operand_covered On wide src go on next =
      then_covered On (IsFound here (operand_value s wide src)) _ _ go on (source_found here is_known wide src) next

  -- ---- results in a register

  -- from an operand to its value, and then to a register
  left_in : (dst : ℕ) (r : Result Kind Reason) (o : Option Tagged)
      → Gives here r o → IsCoveredIf Next (assigns f dst r) (or_fault o (assigned 1 s dst))
  left_in dst r o h =
      then_covered Next (IsKindOf here) r o (λ k. falls (with_kind f dst k)) (assigned 1 s dst) h
      (λ k v is. assigned_covered here 1 dst is_known is)

  binary_covered : (wide : Bool) (op : AluOp) (dst : ℕ) (src : Operand) → Covered (binary wide op dst src)
  binary_covered wide op dst src =
      then_covered Next (IsFound here (first_operand op (s.registers dst))) _ _ _ _ (first_found here is_known op dst)
      (λ k v h. operand_covered Next wide src _ _
      (λ l w g.
      left_in dst (arithmetic_kind wide op k l) (arithmetic wide op v w)
      (arithmetic_agrees here laws.results wide op k l v w h.kind g.kind)))

  unary_covered : (wide : Bool) (op : Operator) (dst src : ℕ) → Covered (unary wide op dst src)
  unary_covered wide op dst src =
      register_covered Next src _ _
      (λ k v h.
      left_in dst (of_scalar wide op k) (of_number (λ n. operate (width wide) op n n) v)
      (number_agrees here laws.results wide op _ (λ n. refl) k v h.kind))

  -- ---- memory

  stored_covered : (g : Facts) (t : RunState) → IsStored here s g t → IsCoveredIf Next (falls g) (goes (advanced 1 t))
  stored_covered g t h =
      subst (λ n. IsCoveredIf (OnFalling here (n + 1)) (falls g) (goes (advanced 1 t))) h.at
      (goes_to here (t.at + 1) h.known)

  access_covered : (what : Access) (off : ℤ) (k : Kind) (p : Tagged)
      → IsKindOf here k p
      → IsCoveredIf Next (access_edges here.shapes f what off k) (accessed s what p off)
  access_covered (loads size signed dst) off k p is =
      left_in dst (load_kind here.shapes f size signed off k) (load s size signed p off)
      (load_agrees is_known laws.accesses size signed off k p is)
  access_covered (stores size src) off k p is =
      operand_covered Next true src _ _
      (λ l v g.
      then_covered Next (IsStored here s) (store_facts here.shapes f size off k l)
      (store s size p off v) falls (λ t. goes (advanced 1 t))
      (store_agrees is_known laws.accesses size off k l p v is g.kind g.readable)
      stored_covered)
  access_covered (changes size op src) off k p is =
      register_covered Next src _ _
      (λ l v g.
      then_covered Next (IsStored here s)
      (atomic_facts here.shapes f (access_size size) off k l)
      (changed s size op p off v) falls (λ t. goes (advanced 1 t))
      (changed_agrees is_known laws.accesses laws.results size op off k l p v is g.kind)
      stored_covered)

  -- ---- jumps, and the end

  -- a conditional jump is taken if its comparison of the values holds
  jumps_if_compared : (wide : Bool) (cond : Condition) (dst : ℕ) (src : Operand) (off : ℤ) (v w : Tagged)
      → s.registers dst ≡ Some v → operand_value s wide src ≡ Some w
      → jumps_in (branch wide cond dst src off) s ≡ unwrap_or (compared wide cond src v w) false
  jumps_if_compared wide cond dst src off v w first second =
      ap (λ o. unwrap_or (and_then o (λ a. and_then (operand_value s wide src) (compared wide cond src a))) false) first
      ∙ ap (λ o. unwrap_or (and_then o (compared wide cond src v)) false) second

  branches_covered : (wide : Bool) (cond : Condition) (dst : ℕ) (src : Operand) (off : ℤ)
      → IsSome (slot_of_integer (pos (s.at + 1) +ℤ off)) → Covered (branch wide cond dst src off)
  branches_covered wide cond dst src off there =
      let i = branch wide cond dst src off in
      register_covered (OnTaken i 1 (jumps_in i s)) dst _ _
      (λ k v h. operand_covered (OnTaken i 1 (jumps_in i s)) wide src _ _
      (λ l w g.
      subst (λ jumps.
      IsCoveredIf (OnTaken i 1 jumps) (branch_edges wide cond f dst src k l)
      (or_fault (compared wide cond src v w) (branched s off)))
      (sym (jumps_if_compared wide cond dst src off v w h.from g.from))
      (branch_covered laws.comparisons is_known off there wide cond dst src k l v w h g)))

  ended_covered : (k : Kind) (v : Tagged) → IsKindOf here k v → IsCoveredIf Next (exits_with k) (ended v)
  ended_covered (kind.Scalar r) v h =
      by_number here r v (λ v. IsCoveredIf Next (exits_with (kind.Scalar r)) (ended v)) h.is (λ n m. omega arith)
  ended_covered k v h = tt

  exit_covered : Covered exit
  exit_covered =
      register_covered Next 0 _ _
      (λ k v h. ended_covered k v h.kind)

  -- ---- maps, and calls

  map_covered : (dst m : ℕ) (o : Option MapShape)
      → here.shapes m ≡ o
      → IsCoveredIf (OnFalling here (s.at + 2)) (assigns f dst (map_of m o))
      (or_fault (s.maps m) (λ t. assigned 2 s dst (Map m)))
  map_covered dst m None e = tt
  map_covered dst m (Some shape) e =
      let h = is_known.maps m shape e in
      subst (λ o.
      IsCoveredIf (OnFalling here (s.at + 2)) (assigns f dst (Ok (kind.MapRef m)))
      (or_fault o (λ t. assigned 2 s dst (Map m))))
      (sym h.1)
      (assigned_covered here {k = kind.MapRef m} {v = Map m} 2 dst is_known (record { is = refl; words = tt }))

  -- a load of a direct value, if the witness has the number of objects of each map
  value_covered : (dst m offset : ℕ) (o : Option MapShape)
      → here.shapes m ≡ o
      → IsCoveredIf (OnFalling here (s.at + 2)) (assigns f dst (value_of m offset o))
      (or_fault (s.maps m)
      (λ t.
      or_fault (direct_object t.table offset)
      (λ number. assigned 2 s dst (Pointer (object.Value m number) (pos offset)))))
  unfolding value_of
  value_covered dst m offset None e = tt
  value_covered dst m offset (Some shape) e = by (has_direct_value shape offset) refl
    where
      by : (b : Bool)
          → has_direct_value shape offset ≡ b
          → IsCoveredIf (OnFalling here (s.at + 2))
          (assigns f dst (if b then Ok (kind.Value (value_span m (pos offset) (pos offset))) else Err NoDirectValue))
          (or_fault (s.maps m)
          (λ t.
          or_fault (direct_object t.table offset)
          (λ number. assigned 2 s dst (Pointer (object.Value m number) (pos offset)))))
      by false g = tt
      by true g =
          let p = value_span m (pos offset) (pos offset) in
          let h = is_known.maps m shape e in
          let there = laws.map_calls.direct shape h.0 offset h.2 g in
          let after : Here = record {
            shapes = here.shapes;
            witness = witness_at here.witness s s.at (Scalar 0);
            slot = here.slot;
          } in
          let still = laws.site here.witness f here.shapes s s.at (Scalar 0) below (still_of is_known) in
          let owned : there.0 < after.witness.objects m = subst (λ o. there.0 < objects_of o) (sym h.1) there.2 in
          let low : pos offset ≤ℤ pos offset = omega (arith, ints) in
          subst (λ o.
          IsCoveredIf (OnFalling here (s.at + 2)) (assigns f dst (Ok (kind.Value p)))
          (or_fault o
          (λ t.
          or_fault (direct_object t.table offset)
          (λ number. assigned 2 s dst (Pointer (object.Value m number) (pos offset))))))
          (sym h.1)
          (subst (λ o.
          IsCoveredIf (OnFalling here (s.at + 2)) (assigns f dst (Ok (kind.Value p)))
          (or_fault o (λ number. assigned 2 s dst (Pointer (object.Value m number) (pos offset)))))
          (sym there.1)
          (assigned_covered after {f = f} {s = s} {k = kind.Value p}
          {v = Pointer (object.Value m there.0) (pos offset)}
          2 dst
          (record { admits = still.admits; words = is_known.words; proper = still.proper; maps = still.maps })
          (record { is = (there.0, pos offset, refl, low, p.ordered, owned); words = tt })))

  called_covered : (h : Helper)
      → IsCoveredIf Next
      (and_then_ok (call_facts here.shapes s.at h f) falls)
      (or_fault (called h s) (λ t. goes (advanced 1 t)))
  called_covered h =
      then_covered Next (λ g u. CallIsAdmitted g here.shapes s u) _ _ falls
      (λ t. goes (advanced 1 t))
      (by_law _ _ _ (λ g ok. laws.calls here.witness here.shapes h f g s below (still_of is_known) ok))
      (λ g u is. (ap (λ (n : ℕ). Some (n + 1)) (sym is.at), is.witness, still_at is.still (u.at + 1)))

  helper_covered : (o : Option Helper)
      → IsCoveredIf Next
      (and_then_ok (known o) (λ h. and_then_ok (call_facts here.shapes s.at h f) falls))
      (or_fault o (λ h. or_fault (called h s) (λ t. goes (advanced 1 t))))
  helper_covered None = tt
  helper_covered (Some h) = called_covered h

  -- ---- all instructions

  wide_covered : (dst : ℕ) (value : WideValue) → WideLoadFitsWord (wide_load dst value) → Covered (wide_load dst value)
  wide_covered dst (immediate n) is = assigned_covered here 2 dst is_known (constant_of here n is)
  wide_covered dst (map_ref m) is = map_covered dst m (here.shapes m) refl
  wide_covered dst (value_ref m off) is = value_covered dst m off (here.shapes m) refl

  view_covered : (v : View) → WideLoadFitsWord v → IsSome (target_of v) → Covered v
  view_covered (binary wide op dst src) is there = binary_covered wide op dst src
  view_covered (unary wide op dst src) is there = unary_covered wide op dst src
  view_covered (jump off) is there =
      jump_covered here (slot_of_integer (pos (s.at + 1) +ℤ off)) (record { falling = None; jumping = Some f }) s there is_known
  view_covered (branch wide cond dst src off) is there = branches_covered wide cond dst src off there
  view_covered (access what base off) is there =
      register_covered Next base _ _ (λ k p h. access_covered what off k p h.kind)
  view_covered (wide_load dst value) is there = wide_covered dst value is
  view_covered (call id) is there = helper_covered (helper_of id)
  view_covered exit is there = exit_covered

  insn_covered : (i : Insn) → IsInsn i → IsSome (jumps_to i s.at) → CoveredBy (view i) (length (slots i))
  insn_covered i is there = subst (CoveredBy (view i)) (profile_slots i) (view_covered (view i) (view_is i is) there)

-- the sites of facts before a slot are below it
kind_below : (n : ℕ) (k : Kind) → IsKindAt n k → IsKindBelow n k
kind_below n (kind.MaybeValue m site) h = h
kind_below n k h = tt

slot_below : (n : ℕ) (t : Slot) → IsSlotAt n t → IsSlotBelow n t
slot_below n (Bytes mask) h = tt
slot_below n (Spill k) h = kind_below n k h

-- by these laws the transfer function is sound
pub effects_covered : Laws → TransferIsSound
effects_covered laws witness shapes i f s edges is there words still e =
    let here : Here = record { shapes = shapes; witness = witness; slot = s.at } in
    let below : AreBelow s.at f = record {
      registers = λ r. kind_below s.at (kind_at f r) (words.registers r);
      slots = λ j. slot_below s.at (slot_at f j) (words.slots j);
    } in
    ok_is (λ e. CoversStep shapes i s e (act i s)) (effect shapes s.at i f) edges
    (insn_covered laws here f s
    (record { admits = still.admits; words = words; proper = still.proper; maps = still.maps })
    below i is there)
    e
