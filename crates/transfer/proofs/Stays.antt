-- The facts after an instruction are well formed at each later slot.
use Rattle.std.proofs.Common.{ℕ, ◌<◌, ◌^◌, ℤ, pos, ◌+ℤ◌, Bool, true, false, not, Option, Result, Some, None, Ok, Err, arith}
use Rattle.std.specs.Prelude.{◌||◌}
use Rattle.std.specs.Option.{option_map}
use Rattle.std.proofs.lemmas.Bool.{cond_both}
use Rattle.interval.specs.declared.range.Range.{Range}
use Rattle.words.specs.declared.operator.Operator.{Operator}
use Rattle.words.specs.declared.stack.AccessSize.{AccessSize}
use Rattle.words.specs.declared.stack.AccessSize.TheVariants.{Word}
use Rattle.interval.specs.Ranges.{is_constant, full}
use Rattle.interval.specs.Refine.{RangePair, refined}
use Rattle.interval.specs.Laws.{ResultsAreWords, EdgesAreWords, IsPairOfWords}
use Rattle.words.specs.declared.operator.AluOp.{AluOp}
use Rattle.words.specs.declared.operator.AluOp.TheVariants as alu
use Rattle.words.specs.declared.operator.Condition.{Condition}
use Rattle.words.specs.declared.stack.AccessSize.{AccessSize}
use Rattle.insn_set.specs.declared.insn.Operand.{Operand}
use Rattle.insn_set.specs.declared.insn.Operand.TheVariants.{Imm, Reg}
use Rattle.insn_set.specs.View.{View, Access, WideValue, binary, unary, jump, branch, access, wide_load, call}
use Rattle.insn_set.specs.View.{exit, loads, stores, changes, immediate, map_ref, value_ref, view, WideLoadFitsWord}
use Rattle.insn_set.specs.ViewLaws.{view_is}
use Rattle.reg_kinds.specs.declared.kind.Kind.{Kind}
use Rattle.reg_kinds.specs.declared.kind.Kind.TheVariants as kind
use Rattle.reg_kinds.specs.declared.facts.Facts.{Facts}
use Rattle.reg_kinds.specs.declared.reason.Reason.{Reason}
use Rattle.reg_kinds.specs.declared.reason.Reason.TheVariants.{NoDirectValue, PointerArithmetic, PartOfSpill, MaybeNull}
use Rattle.reg_kinds.specs.declared.reason.Reason.TheVariants.{ContextAccess, PointerComparison, PointerStored, UnalignedAtomic}
use Rattle.reg_kinds.specs.Reason.{and_then_ok}
use Rattle.reg_kinds.specs.Pointers.{value_span}
use Rattle.reg_kinds.specs.Kinds.{is_pointer, kind_at, with_kind}
use Rattle.reg_kinds.specs.Stack.{stack_read}
use Rattle.words.specs.Stack.{bytes_of}
use Rattle.tagged_model.specs.declared.helper.Helper.{Helper}
use Rattle.tagged_model.specs.declared.helper.Helper.TheVariants.{LookUp, Update, Delete, LoadBytes}
use Rattle.tagged_model.specs.declared.shape.MapShape.{MapShape}
use Rattle.tagged_model.specs.Named.{Shapes}
use Rattle.transfer.specs.declared.calls.ShapedMap.{ShapedMap}
use Rattle.tagged_model.specs.Table.{has_direct_value}
use Rattle.tagged_model.specs.Helpers.{helper_of}
use Rattle.words.specs.declared.operator.Operator.TheVariants.{Binary}
use Rattle.words.specs.Widths.{width}
use Rattle.insn_set.specs.Atomic.{access_size}
use Rattle.tagged_model.specs.Values.{is_null_test, holds_of_pointers}
use Rattle.tagged_model.specs.Cells.{and_then}
use Rattle.transfer.specs.declared.arithmetic.Direction.{Direction}
use Rattle.transfer.specs.declared.arithmetic.Direction.TheVariants.{Forwards, Backwards}
use Rattle.transfer.specs.Arithmetic.{check_readable, or_too_large, stack_moved, value_by, distance, moved_offset, pointer_moved}
use Rattle.transfer.specs.Arithmetic.{is_maybe_value, of_scalars, of_scalar, sum_kind, difference_kind, unless_maybe, arithmetic_kind}
use Rattle.transfer.specs.Branches.{Edges, falls, with_source, with_pair, is_same, number_edges, null_edges, pointer_edges, branch_edges}
use Rattle.transfer.specs.Effects.{source_kind, first_operand_kind, assigns, is_word, context_read, load_kind, store_facts, number_or}
use Rattle.transfer.specs.Effects.{is_known_multiple, atomic_facts, map_of, value_of, known, exits_with, access_edges, wide_kind, effect_of, effect}
use Rattle.transfer.specs.Calls.{argument_map, check_in_value, input_kind, output_facts, number_range, length_range}
use Rattle.transfer.specs.Calls.{context_kind, readable_two, readable_four, any_number, call_facts}
use Rattle.transfer.specs.Sound.{IsKindAt, AreWellFormedAt, AreWellFormedOn, TransferKeepsWellFormed}
use Rattle.transfer.specs.FactLaws.{facts_of_later_slots}
use Rattle.transfer.proofs.Parts.{AtBothWidths, at_width, OkIs, then_ok, ok_is}
use Rattle.transfer.proofs.Words.{kind_words, loaded_words, read_words, written_words, settled_words, filled_words, called_words}
use Rattle.transfer.proofs.States.{word_of}

-- the laws of results of operators, and of edges of comparisons
pub record WordLaws : Type 0 where
  -- the range of the results of an operator on ranges of words is a range of words
  pub results : AtBothWidths ResultsAreWords
  -- the ranges on both edges of a comparison of ranges of words are ranges of words
  pub edges : AtBothWidths EdgesAreWords

-- `bound` is above the slot of the instruction
module _ (bound : ℕ) (shapes : Shapes) (at : ℕ) (lt : at < bound) where
  abbrev AreFactsBoth : Edges → Type 0
  AreFactsBoth e = AreWellFormedOn bound e.falling × AreWellFormedOn bound e.jumping

  -- ---- operands

  readable_words : (k : Kind) → IsKindAt bound k → OkIs (IsKindAt bound) (check_readable k)
  readable_words kind.Unreadable h = tt
  readable_words k h = h

  source_words : (f : Facts) (wide : Bool) (src : Operand)
      → AreWellFormedAt bound f → IsKindAt bound (source_kind f wide src)
  source_words f wide (Imm z) h = word_of wide z
  source_words f wide (Reg r) h = h.registers r

  first_words : (op : AluOp) (k : Kind) → IsKindAt bound k → OkIs (IsKindAt bound) (first_operand_kind op k)
  first_words alu.Mov k h = omega arith
  first_words op k h = readable_words k h

  -- ---- operators: a pointer that is moved has no range

  any_ok : {A : Type 0} (r : Result A Reason) → OkIs (λ x. Unit {0}) r
  any_ok (Err e) = tt
  any_ok (Ok x) = tt

  past : {A B : Type 0} (Q : B → Type 0) (r : Result A Reason) (go : A → Result B Reason)
      → ((x : A) → OkIs Q (go x)) → OkIs Q (and_then_ok r go)
  past Q r go next = then_ok (λ x. Unit {0}) Q r go (any_ok r) (λ x _. next x)

  moved_words : (way : Direction) (k : Kind) (r : Range) → OkIs (IsKindAt bound) (pointer_moved way k r)
  moved_words way (kind.Stack x) r =
      cond_both (is_constant r) (stack_moved way x r) (Err PointerArithmetic) (OkIs (IsKindAt bound))
      (λ _. past _ (or_too_large (and_then (distance r) (λ d. moved_offset way x d.0))) (λ y. Ok (kind.Stack y)) (λ y. tt))
      (λ _. tt)
  moved_words way (kind.Value p) r =
      past _ (or_too_large (and_then (distance r) (value_by way p))) (λ q. Ok (kind.Value q)) (λ q. tt)
  moved_words way k r = tt

  module _ (laws : WordLaws) where
    numbers_words : (wide : Bool) (op : Operator) (k l : Kind)
        → IsKindAt bound k → IsKindAt bound l
        → OkIs (IsKindAt bound) (of_scalars wide op k l)
    numbers_words wide op (kind.Scalar a) (kind.Scalar b) h g = at_width laws.results wide op a b h g
    numbers_words wide op k l h g = tt

    sum_words : (k l : Kind) → IsKindAt bound k → IsKindAt bound l → OkIs (IsKindAt bound) (sum_kind k l)
    sum_words (kind.Scalar a) (kind.Scalar b) h g =
        numbers_words true (Binary alu.Add) (kind.Scalar a) (kind.Scalar b) h g
    sum_words (kind.Scalar a) l h g = moved_words Forwards l a
    sum_words k (kind.Scalar b) h g = moved_words Forwards k b
    sum_words k l h g = tt

    difference_words : (k l : Kind) → IsKindAt bound k → IsKindAt bound l → OkIs (IsKindAt bound) (difference_kind k l)
    difference_words (kind.Scalar a) (kind.Scalar b) h g =
        numbers_words true (Binary alu.Sub) (kind.Scalar a) (kind.Scalar b) h g
    difference_words (kind.Scalar a) l h g = tt
    difference_words k (kind.Scalar b) h g = moved_words Backwards k b
    difference_words k l h g = tt

    unless_words : (k l : Kind) (r : Result Kind Reason)
        → OkIs (IsKindAt bound) r → OkIs (IsKindAt bound) (unless_maybe k l r)
    unless_words k l r h =
        cond_both (is_maybe_value k || is_maybe_value l) (Err MaybeNull) r (OkIs (IsKindAt bound)) (λ _. tt) (λ _. h)

    arithmetic_words : (wide : Bool) (op : AluOp) (k l : Kind)
        → IsKindAt bound k → IsKindAt bound l
        → OkIs (IsKindAt bound) (arithmetic_kind wide op k l)
    arithmetic_words true alu.Mov k l h g = g
    arithmetic_words true alu.Add k l h g = unless_words k l (sum_kind k l) (sum_words k l h g)
    arithmetic_words true alu.Sub k l h g = unless_words k l (difference_kind k l) (difference_words k l h g)
    arithmetic_words wide op k l h g = numbers_words wide (Binary op) k l h g

  -- ---- memory

  number_words_any : IsKindAt bound any_number
  number_words_any = omega arith

  context_words : (y : ℤ) (size : AccessSize) (signed : Bool) → OkIs (IsKindAt bound) (context_read y size signed)
  context_words y Word false =
      cond_both (is_word y) (Ok (kind.Scalar (full 32))) (Err ContextAccess) (OkIs (IsKindAt bound))
      (λ _. omega arith) (λ _. tt)
  context_words y size signed = tt

  load_words : (f : Facts) (size : AccessSize) (signed : Bool) (off : ℤ) (k : Kind)
      → AreWellFormedAt bound f → OkIs (IsKindAt bound) (load_kind shapes f size signed off k)
  load_words f size signed off (kind.Stack x) h = read_words bound f (x +ℤ off) size signed h
  load_words f size signed off kind.Ctx h = context_words off size signed
  load_words f size signed off (kind.Value p) h =
      past _ (check_in_value p off (bytes_of size) (shapes p.map)) _ (λ _. loaded_words bound size signed)
  load_words f size signed off k h = tt

  store_words : (f : Facts) (size : AccessSize) (off : ℤ) (k v : Kind)
      → AreWellFormedAt bound f → IsKindAt bound v
      → OkIs (AreWellFormedAt bound) (store_facts shapes f size off k v)
  store_words f size off (kind.Stack x) v h g = written_words bound f (x +ℤ off) size v h g
  store_words f size off (kind.Value p) v h g =
      past _ (check_in_value p off (bytes_of size) (shapes p.map)) _
      (λ _. cond_both (is_pointer v) (Err PointerStored) (Ok f) (OkIs (AreWellFormedAt bound)) (λ _. tt) (λ _. h))
  store_words f size off k v h g = tt

  changed_words : (f : Facts) (size : AccessSize) (off : ℤ) (k v : Kind)
      → AreWellFormedAt bound f → OkIs (AreWellFormedAt bound) (atomic_facts shapes f size off k v)
  changed_words f size off (kind.Stack x) v h =
      past _ (number_or PointerArithmetic v) _
      (λ _. past _ (stack_read f (x +ℤ off) size false) _
      (λ k.
      past _ (number_or PartOfSpill k) _ (λ _. written_words bound f (x +ℤ off) size any_number h number_words_any)))
  changed_words f size off (kind.Value p) v h =
      past _ (number_or PointerArithmetic v) _
      (λ _. past _ (check_in_value p off (bytes_of size) (shapes p.map)) _
      (λ _.
      cond_both (is_known_multiple p off size) (Ok f) (Err UnalignedAtomic)
      (OkIs (AreWellFormedAt bound)) (λ _. h) (λ _. tt)))
  changed_words f size off k v h = tt

  -- ---- calls

  output_words : (f : Facts) (r : Range) (k : Kind)
      → AreWellFormedAt bound f → OkIs (AreWellFormedAt bound) (output_facts shapes f r k)
  output_words f r (kind.Stack x) h = filled_words bound f x r.lo r.hi h
  output_words f r (kind.Value p) h = past _ (check_in_value p (pos 0) r.hi (shapes p.map)) _ (λ _. h)
  output_words f r k h = tt

  two_words : (f : Facts) (go : Kind → Kind → Result Facts Reason)
      → ((a b : Kind) → OkIs (AreWellFormedAt bound) (go a b))
      → OkIs (AreWellFormedAt bound) (readable_two f go)
  two_words f go next = past _ (check_readable (kind_at f 1)) _ (λ a. past _ (check_readable (kind_at f 2)) _ (next a))

  four_words : (f : Facts) (go : Kind → Kind → Kind → Kind → Result Facts Reason)
      → ((a b c d : Kind) → OkIs (AreWellFormedAt bound) (go a b c d))
      → OkIs (AreWellFormedAt bound) (readable_four f go)
  four_words f go next =
      two_words f _
      (λ a b. past _ (check_readable (kind_at f 3)) _ (λ c. past _ (check_readable (kind_at f 4)) _ (next a b c)))

  -- a map and one of its keys
  key_words : (f : Facts) (a b : Kind) (go : ShapedMap → Result Facts Reason)
      → ((m : ShapedMap) → OkIs (AreWellFormedAt bound) (go m))
      → OkIs (AreWellFormedAt bound)
      (and_then_ok (argument_map shapes a) (λ m. and_then_ok (input_kind shapes f m.shape.key_size b) (λ _. go m)))
  key_words f a b go next =
      past _ (argument_map shapes a) _ (λ m. past _ (input_kind shapes f m.shape.key_size b) _ (λ _. next m))

  call_words : (h : Helper) (f : Facts)
      → AreWellFormedAt bound f → OkIs (AreWellFormedAt bound) (call_facts shapes at h f)
  call_words LookUp f is =
      two_words f _ (λ a b. key_words f a b _ (λ m. called_words bound f (kind.MaybeValue m.descriptor at) is lt))
  call_words Update f is =
      four_words f _ (λ a b c d. key_words f a b _ (λ m. past _ (input_kind shapes f m.shape.value_size c) _
      (λ _. past _ (number_range d) _ (λ _. called_words bound f any_number is number_words_any))))
  call_words Delete f is =
      two_words f _ (λ a b. key_words f a b _ (λ m. called_words bound f any_number is number_words_any))
  call_words LoadBytes f is =
      four_words f _ (λ a b c d. past _ (context_kind a) _ (λ _. past _ (number_range b) _
      (λ _. past _ (length_range d) _
      (λ r. then_ok _ _ _ _ (output_words f r c is)
      (λ g too. called_words bound g any_number too number_words_any)))))

  map_words : (m : ℕ) (o : Option MapShape) → OkIs (IsKindAt bound) (map_of m o)
  map_words m None = tt
  map_words m (Some shape) = tt

  value_words : (m offset : ℕ) (o : Option MapShape) → OkIs (IsKindAt bound) (value_of m offset o)
  unfolding value_of
  value_words m offset None = tt
  value_words m offset (Some shape) =
      cond_both (has_direct_value shape offset)
      (Ok (kind.Value (value_span m (pos offset) (pos offset))))
      (Err NoDirectValue) (OkIs (IsKindAt bound)) (λ _. tt)
      (λ _. tt)

  -- ---- the edges of comparisons

  null_words : (jumps : Bool) (null value : Option Facts)
      → AreWellFormedOn bound null → AreWellFormedOn bound value
      → AreFactsBoth (null_edges jumps null value)
  null_words true null value h g = (g, h)
  null_words false null value h g = (h, g)

  module _ (laws : WordLaws) (f : Facts) (h : AreWellFormedAt bound f) where
    with_source_words : (g : Facts) (src : Operand) (r : Range)
        → AreWellFormedAt bound g → r.hi < 2 ^ 64
        → AreWellFormedAt bound (with_source g src r)
    with_source_words g (Imm z) r is small = is
    with_source_words g (Reg n) r is small = kind_words bound g n (kind.Scalar r) is small

    pair_words : (dst : ℕ) (src : Operand) (o : Option RangePair)
        → IsPairOfWords o → AreWellFormedOn bound (option_map (with_pair f dst src) o)
    pair_words dst src None is = tt
    pair_words dst src (Some p) is =
        with_source_words (with_kind f dst (kind.Scalar p.0)) src p.1
        (kind_words bound f dst (kind.Scalar p.0) h is.0) is.1

    number_words : (wide : Bool) (cond : Condition) (dst : ℕ) (src : Operand) (a b : Range)
        → a.hi < 2 ^ 64 → b.hi < 2 ^ 64
        → AreFactsBoth (number_edges wide cond f dst src a b)
    number_words wide cond dst src a b small too =
        let edges = refined (width wide) cond a b in
        let are = at_width laws.edges wide cond a b small too in
        let both : Edges = record { falling = Some f; jumping = Some f } in
        let each : Edges = record {
          falling = option_map (with_pair f dst src) edges.1;
          jumping = option_map (with_pair f dst src) edges.0;
        } in
        cond_both (is_same dst src) both each AreFactsBoth (λ _. (h, h))
        (λ _. (pair_words dst src edges.1 are.1, pair_words dst src edges.0 are.0))

    pointer_words : (cond : Condition) (k : Kind) → AreFactsBoth (pointer_edges cond f k)
    pointer_words cond (kind.MaybeValue m site) =
        null_words (not (holds_of_pointers cond)) _ _ (settled_words bound f site true h)
        (settled_words bound f site false h)
    pointer_words cond k = null_words (not (holds_of_pointers cond)) None (Some f) tt h

    branch_words : (wide : Bool) (cond : Condition) (dst : ℕ) (src : Operand) (k l : Kind)
        → IsKindAt bound k → IsKindAt bound l
        → OkIs AreFactsBoth (branch_edges wide cond f dst src k l)
    branch_words wide cond dst src (kind.Scalar a) (kind.Scalar b) small too =
        number_words wide cond dst src a b small too
    branch_words wide cond dst src (kind.Scalar a) l small too = tt
    branch_words wide cond dst src k l small too =
        cond_both (is_null_test wide cond src) (Ok (pointer_edges cond f k)) (Err PointerComparison)
        (OkIs AreFactsBoth) (λ _. pointer_words cond k) (λ _. tt)

    -- ---- each instruction

    falls_words : (g : Facts) → AreWellFormedAt bound g → OkIs AreFactsBoth (falls g)
    falls_words g is = (is, tt)

    assigns_words : (dst : ℕ) (r : Result Kind Reason) → OkIs (IsKindAt bound) r → OkIs AreFactsBoth (assigns f dst r)
    assigns_words dst r is =
        then_ok _ _ _ _ is (λ k small. falls_words (with_kind f dst k) (kind_words bound f dst k h small))

    -- from the kind of a readable register
    register_words : (r : ℕ) (go : Kind → Result Edges Reason)
        → ((k : Kind) → IsKindAt bound k → OkIs AreFactsBoth (go k))
        → OkIs AreFactsBoth (and_then_ok (check_readable (kind_at f r)) go)
    register_words r go next = then_ok _ _ _ _ (readable_words (kind_at f r) (h.registers r)) next

    operand_words : (wide : Bool) (src : Operand) (go : Kind → Result Edges Reason)
        → ((k : Kind) → IsKindAt bound k → OkIs AreFactsBoth (go k))
        → OkIs AreFactsBoth (and_then_ok (check_readable (source_kind f wide src)) go)
    operand_words wide src go next =
        then_ok _ _ _ _ (readable_words (source_kind f wide src) (source_words f wide src h)) next

    ends_words : (k : Kind) → OkIs AreFactsBoth (exits_with k)
    ends_words (kind.Scalar r) = (tt, tt)
    ends_words k = tt

    binary_words : (wide : Bool) (op : AluOp) (dst : ℕ) (src : Operand)
        → OkIs AreFactsBoth (effect_of shapes at (binary wide op dst src) f)
    binary_words wide op dst src =
        then_ok _ _ _ _ (first_words op (kind_at f dst) (h.registers dst))
        (λ a small. operand_words wide src _
        (λ b too. assigns_words dst (arithmetic_kind wide op a b) (arithmetic_words laws wide op a b small too)))

    branches_words : (wide : Bool) (cond : Condition) (dst : ℕ) (src : Operand) (off : ℤ)
        → OkIs AreFactsBoth (effect_of shapes at (branch wide cond dst src off) f)
    branches_words wide cond dst src off =
        register_words dst _
        (λ a small. operand_words wide src _ (λ b too. branch_words wide cond dst src a b small too))

    access_words : (what : Access) (off : ℤ) (k : Kind) → OkIs AreFactsBoth (access_edges shapes f what off k)
    access_words (loads size signed dst) off k =
        assigns_words dst (load_kind shapes f size signed off k) (load_words f size signed off k h)
    access_words (stores size src) off k =
        operand_words true src _ (λ v small. then_ok _ _ _ _ (store_words f size off k v h small) falls_words)
    access_words (changes size op src) off k =
        register_words src _ (λ v _. then_ok _ _ _ _ (changed_words f (access_size size) off k v h) falls_words)

    wide_words : (dst : ℕ) (value : WideValue)
        → WideLoadFitsWord (wide_load dst value) → OkIs (IsKindAt bound) (wide_kind shapes value)
    wide_words dst (immediate n) is = is
    wide_words dst (map_ref m) is = map_words m (shapes m)
    wide_words dst (value_ref m off) is = value_words m off (shapes m)

    view_words : (v : View) → WideLoadFitsWord v → OkIs AreFactsBoth (effect_of shapes at v f)
    view_words (binary wide op dst src) is = binary_words wide op dst src
    view_words (unary wide op dst src) is =
        register_words src _
        (λ k small. assigns_words dst (of_scalar wide op k) (numbers_words laws wide op k k small small))
    view_words (jump off) is = (tt, h)
    view_words (branch wide cond dst src off) is = branches_words wide cond dst src off
    view_words (access what base off) is = register_words base _ (λ k _. access_words what off k)
    view_words (wide_load dst value) is = assigns_words dst (wide_kind shapes value) (wide_words dst value is)
    view_words (call id) is = past _ (known (helper_of id)) _ (λ w. then_ok _ _ _ _ (call_words w f h) falls_words)
    view_words exit is = register_words 0 exits_with (λ k _. ends_words k)

-- ---- all instructions

pub transfer_keeps_well_formed : WordLaws → TransferKeepsWellFormed
transfer_keeps_well_formed laws shapes at n i f edges is h lt e =
    ok_is (λ (e : Edges). AreWellFormedOn n e.falling × AreWellFormedOn n e.jumping)
    (effect shapes at i f) edges
    (view_words n shapes at lt laws f (facts_of_later_slots at n f lt h) (view i) (view_is i is))
    e
