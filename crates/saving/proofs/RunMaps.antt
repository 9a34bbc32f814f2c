-- A run leaves exactly the maps that it was given, with the same shapes, and each is whole.
use Rattle.std.proofs.Common.{◌≡◌, ℕ, zero, suc, ◌+◌, ◌/◌, ◌%◌, Bool, true, false, List, [], ◌∷◌}
use Rattle.std.proofs.Common.{length, Option, Some, None, is_some, refl, sym, ap, subst, ◌∙◌, inl, inr}
use Rattle.std.specs.Prelude.{ℤ, ◌⊎◌, ◌==◌, pos, negsuc, ◌+ℤ◌, ◌<◌, nat_le, map, slice_index_or, option_map, if◌then◌else◌, Result, Ok, Err}
use Rattle.std.specs.List.{AllByRecursion}
use Rattle.std.specs.Map.{keys_of, values_of}
use Rattle.std.proofs.Common.{arith}
use Rattle.std.proofs.lemmas.Bool.{cases_eq, eq-eqb, ne_eqb, leb-true}
use Rattle.std.proofs.lemmas.Option.{none-some, same_Some}
use Rattle.insn_set.specs.declared.insn.Insn.{Insn}
use Rattle.insn_set.specs.View.{View, Access, WideValue, binary, unary, jump, branch, access, wide_load}
use Rattle.insn_set.specs.View.{call, exit, loads, stores, changes, immediate, map_ref, value_ref, view}
use Rattle.insn_set.specs.Program.{begins_at, slot_count}
use Rattle.words.specs.declared.stack.AccessSize.{AccessSize}
use Rattle.words.specs.Bytes.{low_bytes, written_at}
use Rattle.words.specs.Stack.{bytes_of}
use Rattle.tagged_model.specs.declared.value.Object.TheVariants as object
use Rattle.tagged_model.specs.declared.value.Tagged.{Tagged}
use Rattle.tagged_model.specs.declared.value.Tagged.TheVariants.{Scalar, Map, Pointer}
use Rattle.tagged_model.specs.Cells.{Cell, and_then, write_cell}
use Rattle.tagged_model.specs.Table.{Table, Verdict, Refused, Present, New, verdict, removal, direct_object}
use Rattle.tagged_model.specs.declared.fault.MapFault.{MapFault}
use Rattle.tagged_model.specs.StateInvariant.{KeysHaveObjects}
use Rattle.tagged_model.specs.StateLaws.{owns_more, owns_with, owns_without}
use Rattle.words.specs.ByteLaws.{length-written_at}
use Rattle.saving.specs.Restorable.{IsWholeTable, IsWholeMap}
use Rattle.saving.proofs.Wholes.{whole_with_new, whole_with_deleted, whole_after_run, whole_by_keys}
use Rattle.tagged_model.specs.Values.{of_numbers, first_operand, compared}
use Rattle.insn_set.specs.declared.atomic.AtomicSize.{AtomicSize}
use Rattle.insn_set.specs.declared.atomic.AtomicOp.{AtomicOp}
use Rattle.insn_set.specs.Atomic.{atomic_operator, is_wide_atomic, access_size}
use Rattle.insn_set.specs.Flow.{slot_of_integer}
use Rattle.tagged_model.specs.State.{RunState, RunMap, at_slot, with_cell, with_map, access_start, stack_store}
use Rattle.tagged_model.specs.State.{object_written, object_stored, value_written, with_value, store, load, is_aligned_at}
use Rattle.tagged_model.specs.Helpers.{called, helper_of, put, taken_out}
use Rattle.tagged_model.specs.HelperLaws.{MapAfterCall, unchanged, written, after_update, after_delete, NamedMapAfterCall, PermitsAfterCall, call_leaves}
use Rattle.tagged_model.specs.Step.{Step, goes, ends, faults, or_fault, assigned, operand_value, jumped, branched, ended, changed, accessed, loaded_wide}
use Rattle.tagged_model.specs.Step.{act_of, step, run, Ending, ending_after, run_with}
use Rattle.tagged_model.specs.Step.{MapsByDescriptor, start_of_run, numbered, map_at_start, map_after_run, left_of}

-- ---- a map of a run

-- the table is whole, each key has an object, and each object has the size of a value
pub record IsWholeRunMap (t : RunMap) : Type 0 where
  -- the table of keys is whole
  pub table : IsWholeTable t.table
  -- the object of each key is one of the map's objects
  pub owns : KeysHaveObjects t.count t.table.entries
  -- each of the map's objects has the size of a value
  pub sized : (number : ℕ) → number < t.count → length (t.values number) ≡ t.table.shape.value_size

-- the map has the same shape later, and is whole if it was whole before
pub record IsLater (t u : RunMap) : Type 0 where
  -- the shape is not changed
  pub shape : u.table.shape ≡ t.table.shape
  -- a map that was whole is whole later
  pub whole : IsWholeRunMap t → IsWholeRunMap u

-- both are absent, or the second is the first at a later time
abbrev pub IsSameMap : Option RunMap → Option RunMap → Type 0
IsSameMap None None = Unit {0}
IsSameMap None (Some u) = ⊥
IsSameMap (Some t) None = ⊥
IsSameMap (Some t) (Some u) = IsLater t u

later_self : (t : RunMap) → IsLater t t
later_self t = record { shape = refl; whole = λ h. h }

later_then : {a b c : RunMap} → IsLater a b → IsLater b c → IsLater a c
later_then h k = record { shape = k.shape ∙ h.shape; whole = λ whole. k.whole (h.whole whole) }

same_self : (o : Option RunMap) → IsSameMap o o
same_self None = tt
same_self (Some t) = later_self t

same_then : (a b c : Option RunMap) → IsSameMap a b → IsSameMap b c → IsSameMap a c
same_then None None None h k = tt
same_then None None (Some c) h k = k
same_then None (Some b) c h k = absurd h
same_then (Some a) None c h k = absurd h
same_then (Some a) (Some b) None h k = k
same_then (Some a) (Some b) (Some c) h k = later_then h k

-- ---- the same descriptors have maps

abbrev pub HasSame : RunState → RunState → Type 0
HasSame s t = (m : ℕ) → IsSameMap (s.maps m) (t.maps m)

abbrev StepHasSame : RunState → Step → Type 0
StepHasSame s (goes t) = HasSame s t
StepHasSame s (ends n) = Unit {0}
StepHasSame s faults = Unit {0}

abbrev StateHasSame : RunState → Option RunState → Type 0
StateHasSame s None = Unit {0}
StateHasSame s (Some t) = HasSame s t

or_fault_same : {A : Type 0} (s : RunState) (o : Option A) (f : A → Step)
    → ((x : A) → StepHasSame s (f x)) → StepHasSame s (or_fault o f)
or_fault_same s None f h = tt
or_fault_same s (Some x) f h = h x

then_same : {A : Type 0} (s : RunState) (o : Option A) (f : A → Option RunState)
    → ((x : A) → o ≡ Some x → StateHasSame s (f x)) → StateHasSame s (and_then o f)
then_same s None f h = tt
then_same s (Some x) f h = h x refl

if_same : (s : RunState) (holds : Bool) (o : Option RunState)
    → StateHasSame s o → StateHasSame s (if holds then o else None)
if_same s true o h = h
if_same s false o h = tt

goes_same : (s : RunState) (o : Option RunState) (n : ℕ)
    → StateHasSame s o → StepHasSame s (or_fault o (λ t. goes (record t { at = t.at + n })))
goes_same s None n h = tt
goes_same s (Some t) n h = h

-- ---- stores

set_same : (s : RunState) (m : ℕ) (old new : RunMap)
    → s.maps m ≡ Some old → IsLater old new → HasSame s (with_map s m new)
set_same s m old new there later k = by (cases_eq k m)
  where
    by : (k ≡ m) ⊎ (k ≡ m → ⊥) → IsSameMap (s.maps k) (if k == m then Some new else s.maps k)
    by (inl same) =
        subst (λ (b : Bool). IsSameMap (s.maps k) (if b then Some new else s.maps k)) (sym (eq-eqb k m same))
        (subst (λ (o : Option RunMap). IsSameMap o (Some new)) (sym (ap s.maps same ∙ there)) later)
    by (inr other) =
        subst (λ (b : Bool). IsSameMap (s.maps k) (if b then Some new else s.maps k))
        (sym (ne_eqb k m other)) (same_self (s.maps k))

-- a write in a value does not change its length
written_long : (value : List ℕ) (y : ℤ) (bs after : List ℕ)
    → value_written value y bs ≡ Some after → length after ≡ length value
written_long value (pos y) bs after e = by (nat_le (y + length bs) (length value)) refl e
  where
    by : (b : Bool)
        → nat_le (y + length bs) (length value) ≡ b
        → (if b then Some (written_at value y bs) else None) ≡ Some after
        → length after ≡ length value
    by true fits e =
        ap length (sym (same_Some (written_at value y bs) after e))
        ∙ length-written_at value bs y (leb-true (y + length bs) (length value) fits)
    by false fits e = absurd (none-some after e)
written_long value (negsuc y) bs after e = absurd (none-some after e)

later_value : (t : RunMap) (number : ℕ) (value : List ℕ)
    → (IsWholeRunMap t → number < t.count → length value ≡ t.table.shape.value_size)
    → IsLater t (with_value t number value)
later_value t number value size = record {
  shape = refl;
  whole = λ whole. record { table = whole.table; owns = whole.owns; sized = λ k lt. by whole k lt (cases_eq k number) };
}
  where
    by : IsWholeRunMap t
        → (k : ℕ) → k < t.count → (k ≡ number) ⊎ (k ≡ number → ⊥)
        → length (if k == number then value else t.values k) ≡ t.table.shape.value_size
    by whole k lt (inl same) =
        ap (λ (b : Bool). length (if b then value else t.values k)) (eq-eqb k number same)
        ∙ size whole (omega (arith, lt, same))
    by whole k lt (inr other) =
        ap (λ (b : Bool). length (if b then value else t.values k)) (ne_eqb k number other) ∙ whole.sized k lt

object_same : (s : RunState) (m number : ℕ) (y : ℤ) (bs : List ℕ) → StateHasSame s (object_written s m number y bs)
object_same s m number y bs =
    then_same s (s.maps m) _ (λ t there. then_same s (value_written (t.values number) y bs) _
    (λ value written. set_same s m t (with_value t number value) there
    (later_value t number value
    (λ whole lt. written_long (t.values number) y bs value written ∙ whole.sized number lt))))

cell_same : (s : RunState) (i : ℕ) (c : Cell) → StateHasSame s (Some (with_cell s i c))
cell_same s i c m = same_self (s.maps m)

stack_same : (s : RunState) (y : ℤ) (size : AccessSize) (v : Tagged) → StateHasSame s (stack_store s y size v)
stack_same s y size v =
    then_same s (access_start y size) _
    (λ p _. then_same s (write_cell (s.cells (p / 8)) (p % 8) size v) _ (λ c _. cell_same s (p / 8) c))

stored_same : (s : RunState) (size : AccessSize) (m number : ℕ) (y : ℤ) (v : Tagged)
    → StateHasSame s (object_stored s size m number y v)
stored_same s size m number y (Scalar n) = object_same s m number y (low_bytes (bytes_of size) n)
stored_same s size m number y (Map k) = tt
stored_same s size m number y (Pointer o x) = tt

store_same : (s : RunState) (size : AccessSize) (p : Tagged) (off : ℤ) (v : Tagged)
    → StateHasSame s (store s size p off v)
store_same s size (Scalar n) off v = tt
store_same s size (Map m) off v = tt
store_same s size (Pointer object.Stack x) off v = stack_same s (x +ℤ off) size v
store_same s size (Pointer object.Context x) off v = tt
store_same s size (Pointer (object.Value m number) x) off v = stored_same s size m number (x +ℤ off) v

-- ---- calls

-- an update, and a deletion
later_put : (t : RunMap) (key value : List ℕ) (flags : ℕ) (v : Verdict ℕ)
    → verdict t.table key flags ≡ v → length key ≡ t.table.shape.key_size
    → length value ≡ t.table.shape.value_size
    → IsLater t (put t key value v).map
later_put t key value flags (Refused fault) is key_size value_size = later_self t
later_put t key value flags (Present number) is key_size value_size =
    later_value t number value (λ whole lt. value_size)
later_put t key value flags New is key_size value_size = record {
  shape = refl;
  whole = λ whole. record {
    table = whole_with_new whole.table key t.count flags key_size is;
    owns =
        owns_with (t.count + 1) key t.count t.table.entries (omega arith)
        (owns_more t.count (t.count + 1) t.table.entries (omega arith) whole.owns);
    sized = λ k lt. by whole k lt (cases_eq k t.count);
  };
}
  where
    by : IsWholeRunMap t
        → (k : ℕ) → k < t.count + 1 → (k ≡ t.count) ⊎ (k ≡ t.count → ⊥)
        → length (if k == t.count then value else t.values k) ≡ t.table.shape.value_size
    by whole k lt (inl same) =
        ap (λ (b : Bool). length (if b then value else t.values k)) (eq-eqb k t.count same) ∙ value_size
    by whole k lt (inr other) =
        ap (λ (b : Bool). length (if b then value else t.values k)) (ne_eqb k t.count other)
        ∙ whole.sized k (omega (arith, lt, other))

later_taken : (t : RunMap) (key : List ℕ) (r : Result ℕ MapFault)
    → removal t.table key ≡ r → IsLater t (taken_out t key r).map
later_taken t key (Err fault) is = later_self t
later_taken t key (Ok number) is = record {
  shape = refl;
  whole = λ whole.
      record {
        table = whole_with_deleted whole.table key number is;
        owns = owns_without t.count key t.table.entries whole.owns;
        sized = whole.sized;
      };
}

-- whichever helper is called
later_called : (t : RunMap) {u : RunMap} → MapAfterCall t u → IsLater t u
later_called t unchanged = later_self t
later_called t (written number y bs value is) =
    later_value t number value (λ whole lt. written_long (t.values number) y bs value is ∙ whole.sized number lt)
later_called t (after_update key value flags key_size value_size) =
    later_put t key value flags (verdict t.table key flags) refl key_size value_size
later_called t (after_delete key) = later_taken t key (removal t.table key) refl

named_map_called : (o p : Option RunMap) → NamedMapAfterCall o p → IsSameMap o p
named_map_called None None h = tt
named_map_called None (Some u) h = h
named_map_called (Some t) None h = h
named_map_called (Some t) (Some u) h = later_called t h

called_same : (s : RunState) (o : Option RunState) → PermitsAfterCall s o → StateHasSame s o
called_same s None h = tt
called_same s (Some t) h = λ m. named_map_called (s.maps m) (t.maps m) (h.maps m)

-- ---- steps

assigned_same : (s : RunState) (n r : ℕ) (o : Option Tagged) → StepHasSame s (or_fault o (assigned n s r))
assigned_same s n r None = tt
assigned_same s n r (Some v) = λ m. same_self (s.maps m)

slot_same : (s : RunState) (n : ℕ) → StepHasSame s (goes (at_slot n s))
slot_same s n m = same_self (s.maps m)

jumped_same : (s : RunState) (off : ℤ) → StepHasSame s (jumped s off)
jumped_same s off = or_fault_same s (slot_of_integer (pos (s.at + 1) +ℤ off)) _ (λ n. slot_same s n)

branched_same : (s : RunState) (off : ℤ) (yes : Bool) → StepHasSame s (branched s off yes)
branched_same s off true = jumped_same s off
branched_same s off false = λ m. same_self (s.maps m)

ended_same : (s : RunState) (v : Tagged) → StepHasSame s (ended v)
ended_same s (Scalar n) = tt
ended_same s (Map m) = tt
ended_same s (Pointer o x) = tt

changed_same : (s : RunState) (size : AtomicSize) (op : AtomicOp) (p : Tagged) (off : ℤ) (v : Tagged)
    → StateHasSame s (changed s size op p off v)
changed_same s size op p off v =
    if_same s (is_aligned_at (access_size size) p off) _
    (then_same s (load s (access_size size) false p off) _
    (λ old _.
    then_same s
    (of_numbers (is_wide_atomic size) (atomic_operator op) old v)
    _
    (λ new _. store_same s (access_size size) p off new)))

accessed_same : (s : RunState) (what : Access) (p : Tagged) (off : ℤ) → StepHasSame s (accessed s what p off)
accessed_same s (loads size signed dst) p off = assigned_same s 1 dst _
accessed_same s (stores size src) p off =
    or_fault_same s (operand_value s true src) _ (λ v. goes_same s (store s size p off v) 1 (store_same s size p off v))
accessed_same s (changes size op src) p off =
    or_fault_same s (s.registers src) _
    (λ v. goes_same s (changed s size op p off v) 1 (changed_same s size op p off v))

wide_same : (s : RunState) (dst : ℕ) (value : WideValue) → StepHasSame s (loaded_wide s dst value)
wide_same s dst (immediate n) = λ m. same_self (s.maps m)
wide_same s dst (map_ref m) = or_fault_same s (s.maps m) _ (λ t. assigned_same s 2 dst (Some (Map m)))
wide_same s dst (value_ref m off) =
    or_fault_same s (s.maps m) _
    (λ t.
    or_fault_same s (direct_object t.table off) _
    (λ number. assigned_same s 2 dst (Some (Pointer (object.Value m number) (pos off)))))

act_same : (v : View) (s : RunState) → StepHasSame s (act_of v s)
act_same (binary wide op dst src) s =
    or_fault_same s (first_operand op (s.registers dst)) _
    (λ a. or_fault_same s (operand_value s wide src) _ (λ b. assigned_same s 1 dst _))
act_same (unary wide op dst src) s = or_fault_same s (s.registers src) _ (λ a. assigned_same s 1 dst _)
act_same (jump off) s = jumped_same s off
act_same (branch wide cond dst src off) s =
    or_fault_same s (s.registers dst) _
    (λ a.
    or_fault_same s (operand_value s wide src) _
    (λ b. or_fault_same s (compared wide cond src a b) _ (branched_same s off)))
act_same (access what base off) s = or_fault_same s (s.registers base) _ (λ p. accessed_same s what p off)
act_same (wide_load dst value) s = wide_same s dst value
act_same (call id) s =
    or_fault_same s (helper_of id) _ (λ h. goes_same s (called h s) 1 (called_same s (called h s) (call_leaves h s)))
act_same exit s = or_fault_same s (s.registers 0) _ (ended_same s)

step_same : (code : List Insn) (s : RunState) → StepHasSame s (step code s)
step_same code s = or_fault_same s (begins_at code s.at) _ (λ i. act_same (view i) s)

-- ---- runs

ending_same : (s : RunState) (x : Step) (f : RunState → Ending)
    → StepHasSame s x → ((t : RunState) → HasSame t (f t).state)
    → HasSame s (ending_after x s f).state
ending_same s (goes t) f h each m = same_then (s.maps m) (t.maps m) ((f t).state.maps m) (h m) (each t m)
ending_same s (ends n) f h each m = same_self (s.maps m)
ending_same s faults f h each m = same_self (s.maps m)

run_same : (code : List Insn) (n : ℕ) (s : RunState) → HasSame s (run code n s).state
unfolding run
run_same code zero s m = same_self (s.maps m)
run_same code (suc n) s m = ending_same s (step code s) (run code n) (step_same code s) (λ t. run_same code n t) m

-- ---- the maps after a run

-- the map after a run, from the map before it
pub record IsLeftOf (given left : Table (List ℕ)) : Type 0 where
  -- the run does not change the shape
  pub shape : left.shape ≡ given.shape
  -- a map that was whole before the run is whole after it
  pub whole : IsWholeMap given → IsWholeMap left

abbrev pub LeavesMap : Option (Table (List ℕ)) → Option (Table (List ℕ)) → Type 0
LeavesMap None None = Unit {0}
LeavesMap None (Some u) = ⊥
LeavesMap (Some t) None = ⊥
LeavesMap (Some t) (Some u) = IsLeftOf t u

numbered_keys : {A : Type 0} (n : ℕ) (es : List (List ℕ × A)) → keys_of (numbered n es) ≡ keys_of es
unfolding numbered
numbered_keys n [] = refl
numbered_keys n (e ∷ es) = ap (λ (ks : List (List ℕ)). e.0 ∷ ks) (numbered_keys (n + 1) es)

numbered_owns : {A : Type 0} (n : ℕ) (es : List (List ℕ × A)) → KeysHaveObjects (n + length es) (numbered n es)
unfolding numbered
numbered_owns n [] = tt
numbered_owns n (e ∷ es) = (
  omega arith,
  owns_more (n + 1 + length es) (n + suc (length es)) (numbered (n + 1) es) (omega arith) (numbered_owns (n + 1) es),
)

values_sized : (size : ℕ) (es : List (List ℕ × List ℕ)) (number : ℕ)
    → AllByRecursion (λ e. length e.1 ≡ size) es → number < length es
    → length (slice_index_or (values_of es) number []) ≡ size
values_sized size [] number h lt = absurd (omega arith)
values_sized size (e ∷ es) zero h lt = h.0
values_sized size (e ∷ es) (suc number) h lt = values_sized size es number h.1 (omega arith)

begins_whole : (t : Table (List ℕ)) → IsWholeMap t → IsWholeRunMap (map_at_start t)
begins_whole t whole = record {
  table = whole_by_keys whole.table (numbered 0 t.entries) (numbered_keys 0 t.entries);
  owns =
      subst (λ (n : ℕ). KeysHaveObjects n (numbered 0 t.entries))
      (let e : 0 + length t.entries ≡ length t.entries = omega arith in e)
      (numbered_owns 0 t.entries);
  sized = λ number lt. values_sized t.shape.value_size t.entries number whole.values lt;
}

with_keys : (values : ℕ → List ℕ) (es : List (List ℕ × ℕ)) → keys_of (map (λ e. (e.0, values e.1)) es) ≡ keys_of es
with_keys values [] = refl
with_keys values (e ∷ es) = ap (λ (ks : List (List ℕ)). e.0 ∷ ks) (with_keys values es)

with_sized : (size count : ℕ) (values : ℕ → List ℕ) (es : List (List ℕ × ℕ))
    → KeysHaveObjects count es
    → ((number : ℕ) → number < count → length (values number) ≡ size)
    → AllByRecursion (λ (e : List ℕ × List ℕ). length e.1 ≡ size) (map (λ e. (e.0, values e.1)) es)
with_sized size count values [] owns h = tt
with_sized size count values (e ∷ es) owns h = (h e.1 owns.0, with_sized size count values es owns.1 h)

ends_whole : (t : RunMap) → IsWholeRunMap t → IsWholeMap (map_after_run t)
ends_whole t whole = record {
  table =
      whole_after_run (whole_by_keys whole.table (map (λ e. (e.0, t.values e.1)) t.table.entries)
      (with_keys t.values t.table.entries));
  values = with_sized t.table.shape.value_size t.count t.values t.table.entries whole.owns whole.sized;
  ended = refl;
}

-- a run leaves exactly the maps that it was given, each with its shape, and whole if it was whole
pub leaves_maps : (code : List Insn) (maps : MapsByDescriptor) (words packet : List ℕ) (m : ℕ)
    → LeavesMap (maps m) (left_of code maps words packet m)
leaves_maps code maps words packet m =
    by (maps m) ((run_with code maps words packet).state.maps m)
    (run_same code (slot_count code) (start_of_run maps words packet) m)
  where
    by : (o : Option (Table (List ℕ))) (p : Option RunMap)
        → IsSameMap (option_map map_at_start o) p → LeavesMap o (option_map map_after_run p)
    by None None h = tt
    by None (Some u) h = h
    by (Some t) None h = h
    by (Some t) (Some u) h = record { shape = h.shape; whole = λ whole. ends_whole u (h.whole (begins_whole t whole)) }

-- the run leaves a map if and only if it was given one
pub left_same : (code : List Insn) (maps : MapsByDescriptor) (words packet : List ℕ) (m : ℕ)
    → is_some (left_of code maps words packet m) ≡ is_some (maps m)
left_same code maps words packet m =
    by (maps m) (left_of code maps words packet m) (leaves_maps code maps words packet m)
  where
    by : (o p : Option (Table (List ℕ))) → LeavesMap o p → is_some p ≡ is_some o
    by None None h = refl
    by None (Some u) h = absurd h
    by (Some t) None h = absurd h
    by (Some t) (Some u) h = refl
