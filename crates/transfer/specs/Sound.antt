-- Soundness: the facts on the edge that a step takes admit the state after it. The edge that a jump
-- takes and its target are those of RFC 9669, section 4.3; the rest is this project's own.
use Rattle.std.specs.Prelude.{◌≡◌, ℕ, ◌<◌, ◌^◌, Bool, true, false, Option, Some, None, IsSome, unwrap_or, Ok}
use Rattle.insn_set.specs.declared.insn.Insn.{Insn}
use Rattle.insn_set.specs.View.{View, jump, branch, view}
use Rattle.insn_set.specs.Spelling.{IsInsn}
use Rattle.reg_kinds.specs.declared.kind.Kind.{Kind}
use Rattle.reg_kinds.specs.declared.kind.Kind.TheVariants.{Scalar, MaybeValue}
use Rattle.reg_kinds.specs.declared.kind.Slot.{Slot}
use Rattle.reg_kinds.specs.declared.kind.Slot.TheVariants.{Bytes, Spill}
use Rattle.reg_kinds.specs.declared.facts.Facts.{Facts}
use Rattle.reg_kinds.specs.Kinds.{kind_at, slot_at}
use Rattle.tagged_model.specs.Cells.{and_then}
use Rattle.tagged_model.specs.Values.{compared}
use Rattle.tagged_model.specs.State.{RunState}
use Rattle.tagged_model.specs.Step.{Step, goes, ends, faults, operand_value, act}
use Rattle.abstraction.specs.Admits.{Witness, AreBelow}
use Rattle.tagged_model.specs.declared.helper.Helper.{Helper}
use Rattle.tagged_model.specs.Helpers.{called}
use Rattle.abstraction.specs.Laws.{Describes}
use Rattle.transfer.specs.Branches.{Edges}
use Rattle.tagged_model.specs.Named.{Shapes}
use Rattle.transfer.specs.Calls.{call_facts}
use Rattle.transfer.specs.Effects.{effect}
use Rattle.insn_set.specs.Flow.{falls_to, jumps_to}

-- ---- facts well formed at slot n: a range ends below 2 ^ 64, a mask has eight bits, and a look-up
-- was at a slot below

-- the kind may be in facts that are well formed at slot n: a range ends below 2 ^ 64, and the site
-- of a look-up is a slot below n
abbrev pub IsKindAt : ℕ → Kind → Type 0
IsKindAt n (Scalar r) = r.hi < 2 ^ 64
IsKindAt n (MaybeValue m site) = site < n
IsKindAt n k = Unit {0}

-- the stack slot may be in facts that are well formed at slot n: its mask has eight bits, or the
-- kind of its spill may be in such facts
abbrev pub IsSlotAt : ℕ → Slot → Type 0
IsSlotAt n (Bytes mask) = mask < 256
IsSlotAt n (Spill k) = IsKindAt n k

-- the facts are well formed at slot n: ranges end below 2 ^ 64, masks have eight bits, and look-ups
-- were at slots below n
pub record AreWellFormedAt (n : ℕ) (f : Facts) : Type 0 where
  pub registers : (r : ℕ) → IsKindAt n (kind_at f r)
  pub slots : (i : ℕ) → IsSlotAt n (slot_at f i)

-- ---- the edge that a step takes

-- whether an instruction, given as its group (`View` of `insn_set`), takes the edge to its jump's
-- target in state s. An unconditional jump (`jump`) does. A conditional jump (`branch`) does if its
-- condition `cond` holds for register `dst` and the operand `src`, a register or a constant, on 64
-- bits (`wide`) or 32. `compared` gets `src` besides its value b, since a pointer or a map can be
-- compared only with the constant 0 (a null test). If an operand is an empty register, or a pointer
-- or a map outside a null test, the condition has no value; the result is false, and the step is a
-- fault. An instruction of any other group has no jump, so the result is false
abbrev pub jumps_in : View → RunState → Bool
jumps_in (jump off) s = true
jumps_in (branch wide cond dst src off) s =
    unwrap_or
    (and_then (s.registers dst)
    (λ a. and_then (operand_value s wide src) (λ b. compared wide cond src a b))) false
jumps_in v s = false

-- whether an instruction jumps in this state
abbrev pub takes_jump : Insn → RunState → Bool
takes_jump i s = jumps_in (view i) s

-- ---- the state after a step

-- the edge exists and leads to the state's slot, and its facts describe the state, by some witness;
-- an edge without facts (None) can't be taken
abbrev pub EdgeAdmits : Shapes → Option Facts → Option ℕ → RunState → Type 0
EdgeAdmits shapes None slot t = ⊥
EdgeAdmits shapes (Some f) slot t =
    (slot ≡ Some t.at) × (witness : Witness) × Describes witness f shapes t

-- the edge that is taken admits the state: if the step jumps, the edge to `target`, else the edge
-- to `next`
abbrev pub TakenEdgeAdmits : Bool → Shapes → ℕ → Option ℕ → Edges → RunState → Type 0
TakenEdgeAdmits true shapes next target edges t = EdgeAdmits shapes edges.jumping target t
TakenEdgeAdmits false shapes next target edges t = EdgeAdmits shapes edges.falling (Some next) t

-- the step of instruction i in state s is no fault; if it goes on, the edge that it takes admits
-- the state after it, and if the run ends, its result has 32 bits
abbrev pub CoversStep : Shapes → Insn → RunState → Edges → Step → Type 0
CoversStep shapes i s edges (goes t) =
    TakenEdgeAdmits (takes_jump i s) shapes (falls_to i s.at) (jumps_to i s.at) edges t
CoversStep shapes i s edges (ends n) = n < 2 ^ 32
CoversStep shapes i s edges faults = ⊥

-- soundness: if well-formed facts describe a state and let an instruction be run that does not jump
-- below slot 0, its step is no fault, and the edge that it takes admits the state after it.
-- `Describes` includes that the state has a map of each shape
abbrev pub TransferIsSound : Type 0
TransferIsSound =
    (witness : Witness) (shapes : Shapes) (i : Insn) (f : Facts) (s : RunState) (edges : Edges)
    → IsInsn i
    → IsSome (jumps_to i s.at)
    → AreWellFormedAt s.at f
    → Describes witness f shapes s
    → effect shapes s.at i f ≡ Ok edges
    → CoversStep shapes i s edges (act i s)

-- ---- the facts on the edges are well formed at each later slot

-- the facts on an edge, if there are any, are well formed at slot n
abbrev pub AreWellFormedOn : ℕ → Option Facts → Type 0
AreWellFormedOn n None = Unit {0}
AreWellFormedOn n (Some f) = AreWellFormedAt n f

-- if the facts before an instruction are well formed at its slot, those on its edges are well
-- formed at each later slot
abbrev pub TransferKeepsWellFormed : Type 0
TransferKeepsWellFormed =
    (shapes : Shapes) (at n : ℕ) (i : Insn) (f : Facts) (edges : Edges)
    → IsInsn i
    → AreWellFormedAt at f
    → at < n
    → effect shapes at i f ≡ Ok edges
    → AreWellFormedOn n edges.falling × AreWellFormedOn n edges.jumping

-- ---- calls

-- state u, after a call in state s, is at the same slot, and facts g describe it, by a witness that
-- may be different: it has the result of a new look-up
pub record CallIsAdmitted (g : Facts) (shapes : Shapes) (s u : RunState) : Type 0 where
  pub witness : Witness
  pub still : Describes witness g shapes u
  pub at : u.at ≡ s.at

-- if facts describe a state, have only sites below the state's slot, and allow a call, the call is
-- no fault in this state, and the facts after the call describe the state after it
abbrev pub CallsAreSound : Type 0
CallsAreSound =
    (witness : Witness) (shapes : Shapes) (h : Helper) (f g : Facts) (s : RunState)
    → AreBelow s.at f
    → Describes witness f shapes s
    → call_facts shapes s.at h f ≡ Ok g
    → (u : RunState) × (called h s ≡ Some u) × CallIsAdmitted g shapes s u
