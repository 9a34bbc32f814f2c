-- The reasons for which an instruction may be rejected.
use Rattle.std.proofs.Common.{◌≡◌, ◌≢◌, ℕ, ◌==◌, ℤ, ◌+ℤ◌, Bool, true, false, not, Option, Some, None, Result, Ok, Err, refl, subst}
use Rattle.std.specs.Prelude.{◌||◌, ◌&&◌, pos, int_le, nat_le, bit_and}
use Rattle.std.proofs.lemmas.Bool.{cond_both}
use Rattle.interval.specs.declared.range.Range.{Range}
use Rattle.words.specs.declared.operator.Operator.{Operator}
use Rattle.words.specs.declared.stack.AccessSize.{AccessSize}
use Rattle.words.specs.declared.stack.AccessSize.TheVariants.{Word}
use Rattle.interval.specs.Ranges.{is_constant, full}
use Rattle.words.specs.declared.operator.AluOp.{AluOp}
use Rattle.words.specs.declared.operator.AluOp.TheVariants as alu
use Rattle.words.specs.declared.operator.Condition.{Condition}
use Rattle.insn_set.specs.declared.insn.Operand.{Operand}
use Rattle.insn_set.specs.declared.insn.Insn.{Insn}
use Rattle.insn_set.specs.View.{View, Access, WideValue, binary, unary, jump, branch, access, wide_load}
use Rattle.insn_set.specs.View.{call, exit, loads, stores, changes, immediate, map_ref, value_ref, view}
use Rattle.reg_kinds.specs.declared.kind.Kind.{Kind}
use Rattle.reg_kinds.specs.declared.kind.Kind.TheVariants as kind
use Rattle.reg_kinds.specs.declared.kind.Slot.{Slot}
use Rattle.reg_kinds.specs.declared.kind.Slot.TheVariants.{Bytes, Spill}
use Rattle.reg_kinds.specs.declared.facts.Facts.{Facts}
use Rattle.reg_kinds.specs.declared.reason.Reason.{Reason}
use Rattle.reg_kinds.specs.declared.reason.Reason.TheVariants.{UnknownHelper, DescriptorNotMap, NoDirectValue, PointerArithmetic, MaybeNull}
use Rattle.reg_kinds.specs.declared.reason.Reason.TheVariants.{ContextAccess, PointerComparison, OutsideStack, UnwrittenStack, PartOfSpill}
use Rattle.reg_kinds.specs.declared.reason.Reason.TheVariants.{OutsideValue, PointerStored, LengthUnbounded, UnalignedAtomic, Memory}
use Rattle.reg_kinds.specs.Reason.{and_then_ok}
use Rattle.reg_kinds.specs.Pointers.{value_span}
use Rattle.reg_kinds.specs.Kinds.{is_pointer, kind_at, slot_at}
use Rattle.reg_kinds.specs.Stack.{touched, loaded, read_slot, stack_read, slot_written, facts_written, stack_write}
use Rattle.words.specs.declared.operator.Operator.TheVariants.{Binary}
use Rattle.insn_set.specs.Atomic.{access_size}
use Rattle.tagged_model.specs.Values.{is_null_test}
use Rattle.tagged_model.specs.Cells.{and_then}
use Rattle.transfer.specs.declared.arithmetic.Direction.{Direction}
use Rattle.transfer.specs.declared.arithmetic.Direction.TheVariants.{Forwards, Backwards}
use Rattle.transfer.specs.Arithmetic.{check_readable, or_too_large, stack_moved, value_by, distance, moved_offset, pointer_moved}
use Rattle.transfer.specs.Arithmetic.{is_maybe_value, of_scalars, of_scalar, sum_kind, difference_kind, unless_maybe, arithmetic_kind}
use Rattle.transfer.specs.Branches.{Edges, falls, pointer_edges, branch_edges}
use Rattle.transfer.specs.Effects.{source_kind, first_operand_kind, assigns, is_word, context_read, load_kind, store_facts, number_or}
use Rattle.transfer.specs.Effects.{is_known_multiple, atomic_facts, map_of, value_of, known, exits_with, access_edges, wide_kind, effect_of, effect}
use Rattle.transfer.specs.Reasons.{IsSafetyReason, IsReasonFor, IsReasonOf, TransferReasons}
use Rattle.transfer.specs.Calls.{shaped, argument_map, check_in_value, input_kind, output_facts, number_range, lengths_end}
use Rattle.transfer.specs.Calls.{length_range, context_kind, readable_two, readable_four, any_number, call_facts}
use Rattle.words.specs.Stack.{bytes_of, is_double, is_in_stack, byte_index, is_aligned}
use Rattle.reg_kinds.specs.declared.kind.ValuePointer.{ValuePointer}
use Rattle.reg_kinds.specs.Many.{touches_spill, has_unwritten_byte, stack_input, filled}
use Rattle.tagged_model.specs.declared.helper.Helper.{Helper}
use Rattle.tagged_model.specs.declared.helper.Helper.TheVariants.{LookUp, Update, Delete, LoadBytes}
use Rattle.tagged_model.specs.declared.shape.MapShape.{MapShape}
use Rattle.tagged_model.specs.Named.{Shapes}
use Rattle.transfer.specs.declared.calls.ShapedMap.{ShapedMap}
use Rattle.tagged_model.specs.Table.{has_direct_value}
use Rattle.tagged_model.specs.Helpers.{helper_of}

-- the reason of a rejection is one of safety
abbrev ByRule : {A : Type 0} → Result A Reason → Type 0
ByRule (Ok x) = Unit {0}
ByRule (Err reason) = IsSafetyReason reason

then_rule : {A B : Type 0} (r : Result A Reason) (go : A → Result B Reason)
    → ByRule r → ((x : A) → ByRule (go x)) → ByRule (and_then_ok r go)
then_rule (Ok x) go h next = next x
then_rule (Err reason) go h next = h

-- ---- operands

readable_rule : (k : Kind) → ByRule (check_readable k)
readable_rule kind.Unreadable = tt
readable_rule k = tt

register_rule : {A : Type 0} (f : Facts) (r : ℕ) (go : Kind → Result A Reason)
    → ((k : Kind) → ByRule (go k)) → ByRule (and_then_ok (check_readable (kind_at f r)) go)
register_rule f r go next = then_rule _ _ (readable_rule (kind_at f r)) next

first_rule : (op : AluOp) (k : Kind) → ByRule (first_operand_kind op k)
first_rule alu.Mov k = tt
first_rule op k = readable_rule k

-- ---- operators

near_rule : {A : Type 0} (o : Option A) → ByRule (or_too_large o)
near_rule None = tt
near_rule (Some x) = tt

stack_moved_rule : (way : Direction) (x : ℤ) (r : Range) → ByRule (stack_moved way x r)
stack_moved_rule way x r =
    then_rule (or_too_large (and_then (distance r) (λ d. moved_offset way x d.0))) _ (near_rule _) (λ y. tt)

moved_rule : (way : Direction) (k : Kind) (r : Range) → ByRule (pointer_moved way k r)
moved_rule way (kind.Stack x) r =
    cond_both (is_constant r) (stack_moved way x r) (Err PointerArithmetic) ByRule
    (λ _. stack_moved_rule way x r) (λ _. tt)
moved_rule way (kind.Value p) r = then_rule (or_too_large (and_then (distance r) (value_by way p))) _ (near_rule _) (λ q. tt)
moved_rule way k r = tt

numbers_rule : (wide : Bool) (op : Operator) (k l : Kind) → ByRule (of_scalars wide op k l)
numbers_rule wide op (kind.Scalar a) (kind.Scalar b) = tt
numbers_rule wide op k l = tt

sum_rule : (k l : Kind) → ByRule (sum_kind k l)
sum_rule (kind.Scalar a) (kind.Scalar b) = tt
sum_rule (kind.Scalar a) l = moved_rule Forwards l a
sum_rule k (kind.Scalar b) = moved_rule Forwards k b
sum_rule k l = tt

difference_rule : (k l : Kind) → ByRule (difference_kind k l)
difference_rule (kind.Scalar a) (kind.Scalar b) = tt
difference_rule (kind.Scalar a) l = tt
difference_rule k (kind.Scalar b) = moved_rule Backwards k b
difference_rule k l = tt

unless_rule : (k l : Kind) (r : Result Kind Reason) → ByRule r → ByRule (unless_maybe k l r)
unless_rule k l r h = cond_both (is_maybe_value k || is_maybe_value l) (Err MaybeNull) r ByRule (λ _. tt) (λ _. h)

arithmetic_rule : (wide : Bool) (op : AluOp) (k l : Kind) → ByRule (arithmetic_kind wide op k l)
arithmetic_rule true alu.Mov k l = tt
arithmetic_rule true alu.Add k l = unless_rule k l (sum_kind k l) (sum_rule k l)
arithmetic_rule true alu.Sub k l = unless_rule k l (difference_kind k l) (difference_rule k l)
arithmetic_rule wide op k l = numbers_rule wide (Binary op) k l

-- ---- memory

context_rule : (y : ℤ) (size : AccessSize) (signed : Bool) → ByRule (context_read y size signed)
context_rule y Word false =
    cond_both (is_word y) (Ok (kind.Scalar (full 32))) (Err ContextAccess) ByRule (λ _. tt) (λ _. tt)
context_rule y size signed = tt

touched_rule : (offset : ℤ) (size : AccessSize) → ByRule (touched offset size)
touched_rule offset size =
    cond_both (not (is_in_stack offset (bytes_of size))) _ _ ByRule (λ _. tt)
    (λ _. cond_both (not (is_aligned offset (bytes_of size))) _ _ ByRule (λ _. tt) (λ _. tt))

read_slot_rule : (s : Slot) (bits : ℕ) (size : AccessSize) (signed : Bool) → ByRule (read_slot s bits size signed)
read_slot_rule (Spill k) bits size signed =
    cond_both (is_double size) (Ok k) (Err PartOfSpill) ByRule (λ _. tt) (λ _. tt)
read_slot_rule (Bytes mask) bits size signed =
    cond_both (bit_and mask bits == bits) (Ok (loaded size signed)) (Err UnwrittenStack) ByRule (λ _. tt) (λ _. tt)

read_rule : (f : Facts) (offset : ℤ) (size : AccessSize) (signed : Bool) → ByRule (stack_read f offset size signed)
read_rule f offset size signed =
    then_rule _ _ (touched_rule offset size) (λ t. read_slot_rule (slot_at f t.0) t.1 size signed)

room_rule : (p : ValuePointer) (off : ℤ) (n : ℕ) (o : Option MapShape) → ByRule (check_in_value p off n o)
room_rule p off n None = tt
room_rule p off n (Some shape) =
    cond_both (int_le (pos 0) (p.lo +ℤ off) && int_le ((p.hi +ℤ off) +ℤ pos n) (pos shape.value_size))
    (Ok tt) (Err OutsideValue) ByRule (λ _. tt) (λ _. tt)

load_rule : (shapes : Shapes) (f : Facts) (size : AccessSize) (signed : Bool) (off : ℤ) (k : Kind)
    → ByRule (load_kind shapes f size signed off k)
load_rule shapes f size signed off (kind.Stack x) = read_rule f (x +ℤ off) size signed
load_rule shapes f size signed off kind.Ctx = context_rule off size signed
load_rule shapes f size signed off (kind.Value p) =
    then_rule _ _ (room_rule p off (bytes_of size) (shapes p.map)) (λ _. tt)
load_rule shapes f size signed off k = tt

slot_rule : (s : Slot) (bits : ℕ) (size : AccessSize) (k : Kind) → ByRule (slot_written s bits size k)
slot_rule s bits size k =
    cond_both (is_pointer k) _ _ ByRule
    (λ _. cond_both (is_double size) (Ok (Spill k)) (Err PartOfSpill) ByRule (λ _. tt) (λ _. tt))
    (λ _. tt)

facts_rule : (f : Facts) (size : AccessSize) (k : Kind) (t : ℕ × ℕ) → ByRule (facts_written f size k t)
facts_rule f size k t = then_rule _ _ (slot_rule (slot_at f t.0) t.1 size k) (λ s. tt)

write_rule : (f : Facts) (offset : ℤ) (size : AccessSize) (k : Kind) → ByRule (stack_write f offset size k)
write_rule f offset size kind.Unreadable = tt
write_rule f offset size k = then_rule _ _ (touched_rule offset size) (facts_rule f size k)

store_rule : (shapes : Shapes) (f : Facts) (size : AccessSize) (off : ℤ) (k v : Kind)
    → ByRule (store_facts shapes f size off k v)
store_rule shapes f size off (kind.Stack x) v = write_rule f (x +ℤ off) size v
store_rule shapes f size off (kind.Value p) v =
    then_rule _ _ (room_rule p off (bytes_of size) (shapes p.map))
    (λ _. cond_both (is_pointer v) (Err PointerStored) (Ok f) ByRule (λ _. tt) (λ _. tt))
store_rule shapes f size off k v = tt

number_or_rule : (reason : Reason) (v : Kind) → IsSafetyReason reason → ByRule (number_or reason v)
number_or_rule reason (kind.Scalar r) h = tt
number_or_rule reason v h = h

changed_rule : (shapes : Shapes) (f : Facts) (size : AccessSize) (off : ℤ) (k v : Kind)
    → ByRule (atomic_facts shapes f size off k v)
changed_rule shapes f size off (kind.Stack x) v =
    then_rule _ _ (number_or_rule PointerArithmetic v tt)
    (λ _. then_rule _ _ (read_rule f (x +ℤ off) size false)
    (λ k. then_rule _ _ (number_or_rule PartOfSpill k tt) (λ _. write_rule f (x +ℤ off) size any_number)))
changed_rule shapes f size off (kind.Value p) v =
    then_rule _ _ (number_or_rule PointerArithmetic v tt)
    (λ _. then_rule _ _ (room_rule p off (bytes_of size) (shapes p.map))
    (λ _. cond_both (is_known_multiple p off size) (Ok f) (Err UnalignedAtomic) ByRule (λ _. tt) (λ _. tt)))
changed_rule shapes f size off k v = tt

-- ---- maps, and calls

shaped_rule : (m : ℕ) (o : Option MapShape) → ByRule (shaped m o)
shaped_rule m None = tt
shaped_rule m (Some shape) = tt

map_kind_rule : (shapes : Shapes) (k : Kind) → ByRule (argument_map shapes k)
map_kind_rule shapes (kind.MapRef m) = shaped_rule m (shapes m)
map_kind_rule shapes k = tt

stack_input_rule : (f : Facts) (x : ℤ) (n : ℕ) → ByRule (stack_input f x n)
stack_input_rule f x n =
    cond_both (not (is_in_stack x n)) _ _ ByRule (λ _. tt)
    (λ _.
    cond_both (touches_spill f (byte_index x) n) _ _ ByRule (λ _. tt)
    (λ _.
    cond_both (has_unwritten_byte f (byte_index x) n)
    (Err UnwrittenStack) (Ok tt) ByRule (λ _. tt) (λ _. tt)))

input_rule : (shapes : Shapes) (f : Facts) (n : ℕ) (k : Kind) → ByRule (input_kind shapes f n k)
input_rule shapes f n (kind.Stack x) = stack_input_rule f x n
input_rule shapes f n (kind.Value p) = room_rule p (pos 0) n (shapes p.map)
input_rule shapes f n k = tt

output_rule : (shapes : Shapes) (f : Facts) (r : Range) (k : Kind) → ByRule (output_facts shapes f r k)
output_rule shapes f r (kind.Stack x) =
    cond_both (is_in_stack x r.hi) (Ok (filled f x r.lo r.hi)) (Err OutsideStack) ByRule (λ _. tt) (λ _. tt)
output_rule shapes f r (kind.Value p) = then_rule _ _ (room_rule p (pos 0) r.hi (shapes p.map)) (λ _. tt)
output_rule shapes f r k = tt

number_rule : (k : Kind) → ByRule (number_range k)
number_rule (kind.Scalar r) = tt
number_rule k = tt

length_rule : (k : Kind) → ByRule (length_range k)
length_rule (kind.Scalar r) =
    cond_both (r.lo == 0 || nat_le lengths_end r.hi) (Err LengthUnbounded) (Ok r) ByRule (λ _. tt) (λ _. tt)
length_rule k = tt

context_kind_rule : (k : Kind) → ByRule (context_kind k)
context_kind_rule kind.Ctx = tt
context_kind_rule k = tt

two_rule : (f : Facts) (go : Kind → Kind → Result Facts Reason)
    → ((a b : Kind) → ByRule (go a b)) → ByRule (readable_two f go)
two_rule f go next = register_rule f 1 _ (λ a. register_rule f 2 _ (next a))

four_rule : (f : Facts) (go : Kind → Kind → Kind → Kind → Result Facts Reason)
    → ((a b c d : Kind) → ByRule (go a b c d)) → ByRule (readable_four f go)
four_rule f go next = two_rule f _ (λ a b. register_rule f 3 _ (λ c. register_rule f 4 _ (next a b c)))

-- a map and one of its keys
key_rule : (shapes : Shapes) (f : Facts) (a b : Kind) (go : ShapedMap → Result Facts Reason)
    → ((m : ShapedMap) → ByRule (go m))
    → ByRule (and_then_ok (argument_map shapes a) (λ m. and_then_ok (input_kind shapes f m.shape.key_size b) (λ _. go m)))
key_rule shapes f a b go next =
    then_rule _ _ (map_kind_rule shapes a)
    (λ m. then_rule _ _ (input_rule shapes f m.shape.key_size b) (λ _. next m))

call_rule : (shapes : Shapes) (at : ℕ) (h : Helper) (f : Facts) → ByRule (call_facts shapes at h f)
call_rule shapes at LookUp f = two_rule f _ (λ a b. key_rule shapes f a b _ (λ m. tt))
call_rule shapes at Update f =
    four_rule f _ (λ a b c d. key_rule shapes f a b _
    (λ m. then_rule _ _ (input_rule shapes f m.shape.value_size c) (λ _. then_rule _ _ (number_rule d) (λ _. tt))))
call_rule shapes at Delete f = two_rule f _ (λ a b. key_rule shapes f a b _ (λ m. tt))
call_rule shapes at LoadBytes f =
    four_rule f _ (λ a b c d. then_rule _ _ (context_kind_rule a) (λ _. then_rule _ _ (number_rule b)
    (λ _. then_rule _ _ (length_rule d) (λ r. then_rule _ _ (output_rule shapes f r c) (λ _. tt)))))

-- ---- the edges of comparisons, and the end

branch_rule : (wide : Bool) (cond : Condition) (f : Facts) (dst : ℕ) (src : Operand) (k l : Kind)
    → ByRule (branch_edges wide cond f dst src k l)
branch_rule wide cond f dst src (kind.Scalar a) (kind.Scalar b) = tt
branch_rule wide cond f dst src (kind.Scalar a) l = tt
branch_rule wide cond f dst src k l =
    cond_both (is_null_test wide cond src) (Ok (pointer_edges cond f k)) (Err PointerComparison)
    ByRule (λ _. tt) (λ _. tt)

ends_rule : (k : Kind) → ByRule (exits_with k)
ends_rule (kind.Scalar r) = tt
ends_rule k = tt

-- ---- each instruction

module _ (shapes : Shapes) (at : ℕ) (f : Facts) where
  assigns_rule : (dst : ℕ) (r : Result Kind Reason) → ByRule r → ByRule (assigns f dst r)
  assigns_rule dst r h = then_rule _ _ h (λ k. tt)

  operand_rule : (wide : Bool) (src : Operand) (go : Kind → Result Edges Reason)
      → ((k : Kind) → ByRule (go k))
      → ByRule (and_then_ok (check_readable (source_kind f wide src)) go)
  operand_rule wide src go next = then_rule _ _ (readable_rule (source_kind f wide src)) next

  access_rule : (what : Access) (off : ℤ) (k : Kind) → ByRule (access_edges shapes f what off k)
  access_rule (loads size signed dst) off k =
      assigns_rule dst (load_kind shapes f size signed off k) (load_rule shapes f size signed off k)
  access_rule (stores size src) off k =
      operand_rule true src _ (λ v. then_rule _ _ (store_rule shapes f size off k v) (λ g. tt))
  access_rule (changes size op src) off k =
      register_rule f src _ (λ v. then_rule _ _ (changed_rule shapes f (access_size size) off k v) (λ g. tt))

  -- ---- the reasons of each instruction

  abbrev Tells : View → Result Edges Reason → Type 0
  Tells v (Ok edges) = Unit {0}
  Tells v (Err reason) = IsReasonFor shapes v reason

  of_operands : (v : View) (reason : Reason) → IsSafetyReason reason → IsReasonFor shapes v reason
  of_operands i UnknownHelper h = absurd h
  of_operands i DescriptorNotMap h = absurd h
  of_operands i NoDirectValue h = absurd h
  of_operands i reason h = h

  by_operands : (i : View) (r : Result Edges Reason) → ByRule r → Tells i r
  by_operands i (Ok edges) h = tt
  by_operands i (Err reason) h = of_operands i reason h

  call_tells : (id : ℤ) (o : Option Helper)
      → helper_of id ≡ o
      → Tells (call id) (and_then_ok (known o) (λ h. and_then_ok (call_facts shapes at h f) falls))
  call_tells id None e = e
  call_tells id (Some h) e =
      by_operands (call id) (and_then_ok (call_facts shapes at h f) falls)
      (then_rule _ _ (call_rule shapes at h f) (λ g. tt))

  wide_tells : (dst : ℕ) (value : WideValue) → Tells (wide_load dst value) (assigns f dst (wide_kind shapes value))
  unfolding value_of
  wide_tells dst (immediate n) = tt
  wide_tells dst (map_ref m) = map_tells (shapes m) refl
    where
      map_tells : (o : Option MapShape) → shapes m ≡ o → Tells (wide_load dst (map_ref m)) (assigns f dst (map_of m o))
      map_tells None e = e
      map_tells (Some shape) e = tt
  wide_tells dst (value_ref m off) = value_tells (shapes m) refl
    where
      value_tells : (o : Option MapShape)
          → shapes m ≡ o
          → Tells (wide_load dst (value_ref m off)) (assigns f dst (value_of m off o))
      value_tells None e = e
      value_tells (Some shape) e =
          cond_both (has_direct_value shape off)
          (Ok (kind.Value (value_span m (pos off) (pos off))))
          (Err NoDirectValue)
          (λ r. Tells (wide_load dst (value_ref m off)) (assigns f dst r))
          (λ _. tt) (λ none. (shape, e, none))

  view_tells : (v : View) → Tells v (effect_of shapes at v f)
  view_tells (binary wide op dst src) =
      by_operands (binary wide op dst src) _
      (then_rule _ _ (first_rule op (kind_at f dst))
      (λ a. operand_rule wide src _ (λ b. assigns_rule dst (arithmetic_kind wide op a b) (arithmetic_rule wide op a b))))
  view_tells (unary wide op dst src) =
      by_operands (unary wide op dst src) _
      (register_rule f src _ (λ k. assigns_rule dst (of_scalar wide op k) (numbers_rule wide op k k)))
  view_tells (jump off) = tt
  view_tells (branch wide cond dst src off) =
      by_operands (branch wide cond dst src off) _
      (register_rule f dst _ (λ a. operand_rule wide src _ (λ b. branch_rule wide cond f dst src a b)))
  view_tells (access what base off) =
      by_operands (access what base off) _ (register_rule f base _ (access_rule what off))
  view_tells (wide_load dst value) = wide_tells dst value
  view_tells (call id) = call_tells id (helper_of id) refl
  view_tells exit = by_operands exit _ (register_rule f 0 exits_with ends_rule)

  witness : (v : View) (r : Result Edges Reason) (reason : Reason)
      → Tells v r → r ≡ Err reason → IsReasonFor shapes v reason
  witness i (Ok edges) reason h e = absurd (let z : ⊥ = cc in z)
  witness i (Err other) reason h e = let same : other ≡ reason = cc in subst (IsReasonFor shapes i) same h

-- an instruction is rejected only for a reason that applies to it
pub reasons_seen : TransferReasons
reasons_seen shapes at i f reason e =
    witness shapes at f (view i) (effect shapes at i f) reason (view_tells shapes at f (view i)) e

-- no instruction is rejected because memory runs out
pub need_no_memory : TransferReasons
    → (shapes : Shapes) (at : ℕ) (i : Insn) (f : Facts) (reason : Reason)
    → effect shapes at i f ≡ Err reason
    → reason ≢ Memory
need_no_memory law shapes at i f reason e same = subst (IsReasonOf shapes i) same (law shapes at i f reason e)
