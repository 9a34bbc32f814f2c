-- The transfer function: the facts on the edges out of an instruction, from those before it; or why
-- the instruction may not be run. The conditions are tried in the order in which they are written.
-- The rules and their order are this project's own.
use Rattle.std.specs.Prelude.{ℕ, ◌*◌, ◌%◌, ℤ, pos, negsuc, ◌+ℤ◌, ◌==◌, Bool, true, false, ◌&&◌, nat_lt, if◌then◌else◌, Option, Some, None, Result, Ok, Err}
use Rattle.std.specs.Ordering.{int_eq}
use Rattle.words.specs.declared.stack.AccessSize.{AccessSize}
use Rattle.words.specs.declared.stack.AccessSize.TheVariants.{Word}
use Rattle.interval.specs.Ranges.{constant, full}
use Rattle.words.specs.Words.{unsigned}
use Rattle.words.specs.Stack.{bytes_of}
use Rattle.words.specs.declared.operator.Operator.{Operator}
use Rattle.words.specs.declared.operator.AluOp.{AluOp}
use Rattle.words.specs.declared.operator.AluOp.TheVariants as alu
use Rattle.insn_set.specs.declared.insn.Operand.{Operand}
use Rattle.insn_set.specs.declared.insn.Operand.TheVariants.{Imm, Reg}
use Rattle.insn_set.specs.declared.insn.Insn.{Insn}
use Rattle.insn_set.specs.View.{View, Access, WideValue, binary, unary, jump, branch, access, wide_load}
use Rattle.insn_set.specs.View.{call, exit, loads, stores, changes, immediate, map_ref, value_ref, view}
use Rattle.reg_kinds.specs.declared.kind.Kind.{Kind}
use Rattle.reg_kinds.specs.declared.kind.Kind.TheVariants as kind
use Rattle.reg_kinds.specs.declared.kind.ValuePointer.{ValuePointer}
use Rattle.reg_kinds.specs.declared.facts.Facts.{Facts}
use Rattle.reg_kinds.specs.declared.reason.Reason.{Reason}
use Rattle.reg_kinds.specs.declared.reason.Reason.TheVariants.{UnknownHelper, DescriptorNotMap, NoDirectValue, ResultNotScalar, NotPointer}
use Rattle.reg_kinds.specs.declared.reason.Reason.TheVariants.{PointerArithmetic, PartOfSpill, MaybeNull, ContextAccess, PointerStored, UnalignedAtomic}
use Rattle.reg_kinds.specs.Reason.{and_then_ok}
use Rattle.reg_kinds.specs.Kinds.{is_pointer, kind_at, with_kind}
use Rattle.reg_kinds.specs.Pointers.{value_span}
use Rattle.reg_kinds.specs.Stack.{loaded, stack_read, stack_write}
use Rattle.tagged_model.specs.declared.helper.Helper.{Helper}
use Rattle.tagged_model.specs.declared.shape.MapShape.{MapShape}
use Rattle.tagged_model.specs.Helpers.{helper_of}
use Rattle.tagged_model.specs.Named.{Shapes}
use Rattle.tagged_model.specs.Table.{has_direct_value}
use Rattle.words.specs.Widths.{width}
use Rattle.insn_set.specs.Atomic.{access_size}
use Rattle.tagged_model.specs.State.{context_words, is_multiple}
use Rattle.transfer.specs.Arithmetic.{check_readable, arithmetic_kind, of_scalar}
use Rattle.transfer.specs.Branches.{Edges, falls, ends, branch_edges}
use Rattle.transfer.specs.Calls.{check_in_value, any_number, call_facts}

-- ---- operands

-- the kind of the second operand, of 64 bits (true) or 32: a constant modulo 2 ^ 64 or 2 ^ 32, or
-- what the register has
abbrev pub source_kind : Facts → Bool → Operand → Kind
source_kind f wide (Imm z) = kind.Scalar (constant (unsigned (width wide) z))
source_kind f wide (Reg r) = kind_at f r

-- the kind of the first operand; a move does not read it, so it is taken as the number 0, readable
-- or not
abbrev pub first_operand_kind : AluOp → Kind → Result Kind Reason
first_operand_kind alu.Mov k = Ok (kind.Scalar (constant 0))
first_operand_kind op k = check_readable k

-- the edge to the next instruction, after register dst is assigned a value of the kind in r; or the
-- reason in r
abbrev pub assigns : Facts → ℕ → Result Kind Reason → Result Edges Reason
assigns f dst r = and_then_ok r (λ k. falls (with_kind f dst k))

-- ---- memory

-- whether a word of the context, four bytes, begins at this offset, in bytes from the start of the
-- context. For an offset y from 0 on (`pos y`): y is a multiple of 4, and below the end of the
-- `context_words` words. It is false for a negative offset (`negsuc y`, which is -(y + 1)). A load
-- from the context has to load one whole word
abbrev pub is_word : ℤ → Bool
is_word (pos y) = (y % 4 == 0) && nat_lt y (4 * context_words)
is_word (negsuc y) = false

-- the kind that a load at offset y of the context gives: a number of 32 bits, if it loads a whole
-- word of the context and does not extend the sign (false); ContextAccess for any other load
abbrev pub context_read : ℤ → AccessSize → Bool → Result Kind Reason
context_read y Word false = if is_word y then Ok (kind.Scalar (full 32)) else Err ContextAccess
context_read y size signed = Err ContextAccess

-- the kind of a load, sign-extended (true) or not, `off` bytes from an address of this kind, which
-- `effect_of` has found readable; or the first reason against it
abbrev pub load_kind : Shapes → Facts → AccessSize → Bool → ℤ → Kind → Result Kind Reason
load_kind shapes f size signed off (kind.Stack x) = stack_read f (x +ℤ off) size signed
load_kind shapes f size signed off kind.Ctx = context_read off size signed
load_kind shapes f size signed off (kind.Value p) =
    and_then_ok (check_in_value p off (bytes_of size) (shapes p.map)) (λ _. Ok (loaded size signed))
load_kind shapes f size signed off (kind.MaybeValue m site) = Err MaybeNull
load_kind shapes f size signed off k = Err NotPointer

-- the facts after a store of a value of kind v into the value of a map: they are unchanged, or
-- PointerStored if v is a pointer or a map. That v may be read is checked before (`access_edges`)
abbrev pub stored_outside : Facts → Kind → Result Facts Reason
stored_outside f v = if is_pointer v then Err PointerStored else Ok f

-- the facts after a store of a value of kind v, `off` bytes from an address of this kind, both of
-- which `access_edges` and `effect_of` have found readable; or the first reason against it
abbrev pub store_facts : Shapes → Facts → AccessSize → ℤ → Kind → Kind → Result Facts Reason
store_facts shapes f size off (kind.Stack x) v = stack_write f (x +ℤ off) size v
store_facts shapes f size off kind.Ctx v = Err ContextAccess
store_facts shapes f size off (kind.Value p) v =
    and_then_ok (check_in_value p off (bytes_of size) (shapes p.map)) (λ _. stored_outside f v)
store_facts shapes f size off (kind.MaybeValue m site) v = Err MaybeNull
store_facts shapes f size off k v = Err NotPointer

-- ---- atomic operations: they load a number and store one at its address, so no other fact changes

-- Ok if the kind is that of a number, else the reason
abbrev pub number_or : Reason → Kind → Result (Unit {0}) Reason
number_or reason (kind.Scalar r) = Ok tt
number_or reason k = Err reason

-- the facts after an atomic operation at offset y of the stack: it loads a number, and stores a
-- number that may be any. The errors are those of the load, and PartOfSpill also if the kind that
-- it loads is not that of a number
abbrev pub stack_changed : Facts → ℤ → AccessSize → Result Facts Reason
stack_changed f y size =
    and_then_ok (stack_read f y size false)
    (λ k. and_then_ok (number_or PartOfSpill k) (λ _. stack_write f y size any_number))

-- the offset `off` bytes from a pointer into a value is known, and a multiple of the size
abbrev pub is_known_multiple : ValuePointer → ℤ → AccessSize → Bool
is_known_multiple p off size = int_eq p.lo p.hi && is_multiple (p.lo +ℤ off) (bytes_of size)

-- the facts after an atomic operation `off` bytes from a pointer into a value of a map with this
-- shape: they are unchanged. OutsideValue if the map has no shape (None) or the bytes are not all
-- in the value; UnalignedAtomic if the offset is not known to be a multiple of the size
abbrev pub value_changed : Facts → ValuePointer → ℤ → AccessSize → Option MapShape
    → Result Facts Reason
value_changed f p off size o =
    and_then_ok (check_in_value p off (bytes_of size) o)
    (λ _. if is_known_multiple p off size then Ok f else Err UnalignedAtomic)

-- the facts after an atomic operation `off` bytes from an address, or the first reason against it.
-- The first kind is that of the address, v that of the operand; `access_edges` and `effect_of` have
-- found both readable
abbrev pub atomic_facts : Shapes → Facts → AccessSize → ℤ → Kind → Kind → Result Facts Reason
atomic_facts shapes f size off (kind.Stack x) v =
    and_then_ok (number_or PointerArithmetic v) (λ _. stack_changed f (x +ℤ off) size)
atomic_facts shapes f size off kind.Ctx v = Err ContextAccess
atomic_facts shapes f size off (kind.Value p) v =
    and_then_ok (number_or PointerArithmetic v) (λ _. value_changed f p off size (shapes p.map))
atomic_facts shapes f size off (kind.MaybeValue m site) v = Err MaybeNull
atomic_facts shapes f size off k v = Err NotPointer

-- ---- maps and calls: it is a fault of the program's shape if a descriptor names no map, or one
-- without this direct value, or if a helper is unknown

-- the `Kind` of a register that has the map of descriptor m, given its shape; DescriptorNotMap if
-- it has none (None)
abbrev pub map_of : ℕ → Option MapShape → Result Kind Reason
map_of m None = Err DescriptorNotMap
map_of m (Some shape) = Ok (kind.MapRef m)

-- the kind of a pointer to this offset of map m's direct value, given m's shape; DescriptorNotMap
-- if m has none (None), NoDirectValue if the map has no direct value there
unfoldable pub value_of : ℕ → ℕ → Option MapShape → Result Kind Reason
value_of m offset None = Err DescriptorNotMap
value_of m offset (Some shape) =
    if has_direct_value shape offset
    then Ok (kind.Value (value_span m (pos offset) (pos offset)))
    else Err NoDirectValue

-- the helper that a call names, from what `helper_of` gives for its number; UnknownHelper for None,
-- a number of no helper. The check of a program's shape rejects such a call before
abbrev pub known : Option Helper → Result Helper Reason
known None = Err UnknownHelper
known (Some h) = Ok h

-- ---- the end of a run

-- the edges out of an exit, by the kind of register 0, the run's result: none if it is a number,
-- since the run ends (`ends`); ResultNotScalar for any other kind, a pointer or a map. `exit_edges`
-- rejects an unreadable register before
abbrev pub exits_with : Kind → Result Edges Reason
exits_with (kind.Scalar r) = ends
exits_with k = Err ResultNotScalar

-- the end of a run: there is no edge; or the reason, if register 0, the result, may not be read or
-- is no number
abbrev pub exit_edges : Facts → Result Edges Reason
exit_edges f = and_then_ok (check_readable (kind_at f 0)) exits_with

-- ---- operators

-- the edge after an operator of two operands, of 64 bits (true) or 32, whose result goes to dst, or
-- the first reason against it
abbrev pub operator_edges : Bool → AluOp → ℕ → Operand → Facts → Result Edges Reason
operator_edges wide op dst src f =
    and_then_ok (first_operand_kind op (kind_at f dst))
    (λ a.
    and_then_ok (check_readable (source_kind f wide src))
    (λ b. assigns f dst (arithmetic_kind wide op a b)))

-- the edge after an operator of one operand, src, of 64 bits (true) or 32, whose result goes to
-- dst, or the first reason against it
abbrev pub unary_edges : Bool → Operator → ℕ → ℕ → Facts → Result Edges Reason
unary_edges wide op dst src f =
    and_then_ok (check_readable (kind_at f src)) (λ k. assigns f dst (of_scalar wide op k))

-- ---- accesses and wide loads

-- the edge after an access, `off` bytes from an address of kind k, which `effect_of` has found
-- readable; or the first reason against it
abbrev pub access_edges : Shapes → Facts → Access → ℤ → Kind → Result Edges Reason
access_edges shapes f (loads size signed dst) off k =
    assigns f dst (load_kind shapes f size signed off k)
access_edges shapes f (stores size src) off k =
    and_then_ok (check_readable (source_kind f true src))
    (λ v. and_then_ok (store_facts shapes f size off k v) falls)
access_edges shapes f (changes size op src) off k =
    and_then_ok (check_readable (kind_at f src))
    (λ v. and_then_ok (atomic_facts shapes f (access_size size) off k v) falls)

-- the kind of what a wide load, an instruction of two slots, puts into its register, or why it may
-- not be run
abbrev pub wide_kind : Shapes → WideValue → Result Kind Reason
wide_kind shapes (immediate n) = Ok (kind.Scalar (constant n))
wide_kind shapes (map_ref m) = map_of m (shapes m)
wide_kind shapes (value_ref m off) = value_of m off (shapes m)

-- ---- the transfer function of each group of instructions, at a slot

-- the facts on the edges out of an instruction at slot `at`, by its group (`View` of `insn_set`),
-- or why it may not be run
abbrev pub effect_of : Shapes → ℕ → View → Facts → Result Edges Reason
effect_of shapes at (binary wide op dst src) f = operator_edges wide op dst src f
effect_of shapes at (unary wide op dst src) f = unary_edges wide op dst src f
effect_of shapes at (jump off) f = Ok (record { falling = None; jumping = Some f })
effect_of shapes at (branch wide cond dst src off) f =
    and_then_ok (check_readable (kind_at f dst))
    (λ a.
    and_then_ok (check_readable (source_kind f wide src))
    (λ b. branch_edges wide cond f dst src a b))
effect_of shapes at (access what base off) f =
    and_then_ok (check_readable (kind_at f base)) (access_edges shapes f what off)
effect_of shapes at (wide_load dst value) f = assigns f dst (wide_kind shapes value)
effect_of shapes at (call id) f =
    and_then_ok (known (helper_of id)) (λ h. and_then_ok (call_facts shapes at h f) falls)
effect_of shapes at exit f = exit_edges f

-- the facts on the edges out of an instruction at slot `at`, or why it may not be run
abbrev pub effect : Shapes → ℕ → Insn → Facts → Result Edges Reason
effect shapes at i f = effect_of shapes at (view i) f
