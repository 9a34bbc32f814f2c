-- The facts on the two edges of a conditional jump. The comparisons are those of RFC 9669, section
-- 4.3; the rules are this project's own.
use Rattle.std.specs.Prelude.{ℕ, ◌==◌, Bool, true, false, not, if◌then◌else◌, Option, Some, None, option_map, Result, Ok, Err}
use Rattle.interval.specs.declared.range.Range.{Range}
use Rattle.interval.specs.Refine.{RangePair, refined}
use Rattle.words.specs.declared.operator.Condition.{Condition}
use Rattle.insn_set.specs.declared.insn.Operand.{Operand}
use Rattle.insn_set.specs.declared.insn.Operand.TheVariants.{Imm, Reg}
use Rattle.reg_kinds.specs.declared.kind.Kind.{Kind}
use Rattle.reg_kinds.specs.declared.kind.Kind.TheVariants.{Scalar, MaybeValue}
use Rattle.reg_kinds.specs.declared.facts.Facts.{Facts}
use Rattle.reg_kinds.specs.declared.reason.Reason.{Reason}
use Rattle.reg_kinds.specs.declared.reason.Reason.TheVariants.{PointerComparison}
use Rattle.reg_kinds.specs.Kinds.{with_kind}
use Rattle.reg_kinds.specs.Settle.{facts_settled}
use Rattle.words.specs.Widths.{width}
use Rattle.tagged_model.specs.Values.{is_null_test, holds_of_pointers}

-- the facts on each edge out of an instruction, the falling one to the next instruction and the
-- jumping one to a jump's target; None if there is no such edge, or it can't be taken
pub record Edges : Type 0 where
  pub falling : Option Facts
  pub jumping : Option Facts

-- the facts on the falling edge out of an instruction, the edge to the next one. The argument is
-- the result of the transfer function (`effect`). None means one of three things: the result is the
-- reason why the instruction may not be run (Err); the instruction is an exit or an unconditional
-- jump, which have no falling edge; or it is a conditional jump that is always taken if the facts
-- before it hold
abbrev pub falling_of : Result Edges Reason → Option Facts
falling_of (Err reason) = None
falling_of (Ok edges) = edges.falling

-- the facts on the jumping edge out of an instruction, which leads to the target of a jump, from
-- the result of the transfer function (`effect`). None means one of three things: the result is the
-- reason why the instruction may not be run (Err); the instruction is no jump; or it is a
-- conditional jump that is never taken if the facts before it hold
abbrev pub jumping_of : Result Edges Reason → Option Facts
jumping_of (Err reason) = None
jumping_of (Ok edges) = edges.jumping

-- only the falling edge, with these facts
abbrev pub falls : Facts → Result Edges Reason
falls f = Ok (record { falling = Some f; jumping = None })

-- no edge: the run ends
abbrev pub ends : Result Edges Reason
ends = Ok (record { falling = None; jumping = None })

-- ---- numbers

-- the facts with a range for the second operand, if that is a register
abbrev pub with_source : Facts → Operand → Range → Facts
with_source f (Imm z) r = f
with_source f (Reg n) r = with_kind f n (Scalar r)

-- the facts with a range for each operand of a comparison, that of dst first
abbrev pub with_pair : Facts → ℕ → Operand → RangePair → Facts
with_pair f dst src p = with_source (with_kind f dst (Scalar p.0)) src p.1

-- a register is compared with itself: then the comparison refines nothing
abbrev pub is_same : ℕ → Operand → Bool
is_same dst (Imm z) = false
is_same dst (Reg n) = n == dst

-- the edges of a comparison of register dst with src, numbers of 64 bits (true) or 32 in the ranges
-- a and b: each edge has the facts f with the ranges refined, None if it can't be taken. If a
-- register is compared with itself, both edges have f
abbrev pub number_edges : Bool → Condition → Facts → ℕ → Operand → Range → Range → Edges
number_edges wide cond f dst src a b =
    if is_same dst src then record { falling = Some f; jumping = Some f } else
    record {
      falling = option_map (with_pair f dst src) (refined (width wide) cond a b).1;
      jumping = option_map (with_pair f dst src) (refined (width wide) cond a b).0;
    }

-- ---- tests of pointers for null

-- the edges of a null test that jumps on null (true) or on not null. `null` are the facts if the
-- result is null, `value` those if it is not; None for a case that can't be
abbrev pub null_edges : Bool → Option Facts → Option Facts → Edges
null_edges true null value = record { falling = value; jumping = null }
null_edges false null value = record { falling = null; jumping = value }

-- the edges of a null test of the look-up at a site, which jumps on null (true) or on not null; the
-- look-up is settled on both
abbrev pub settled_edges : Bool → ℕ → Facts → Edges
settled_edges jumps site f =
    null_edges jumps (Some (facts_settled site true f)) (Some (facts_settled site false f))

-- the edges of a null test of a pointer or a map of kind k: both if it is the result of a look-up,
-- else only that for not null. The test jumps on not null if its condition holds of pointers, which
-- are not 0, else on null
abbrev pub pointer_edges : Condition → Facts → Kind → Edges
pointer_edges cond f (MaybeValue m site) = settled_edges (not (holds_of_pointers cond)) site f
pointer_edges cond f k = null_edges (not (holds_of_pointers cond)) None (Some f)

-- ---- numbers and pointers

-- the edges of a conditional jump that compares operands of these kinds on 64 bits (true) or 32:
-- two numbers, or a null test; else PointerComparison. `effect_of` has found both readable
abbrev pub branch_edges : Bool → Condition → Facts → ℕ → Operand → Kind → Kind → Result Edges Reason
branch_edges wide cond f dst src (Scalar a) (Scalar b) = Ok (number_edges wide cond f dst src a b)
branch_edges wide cond f dst src (Scalar a) k = Err PointerComparison
branch_edges wide cond f dst src k l =
    if is_null_test wide cond src then Ok (pointer_edges cond f k) else Err PointerComparison
