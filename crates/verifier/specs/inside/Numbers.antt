-- Numbers of groups of eight stack slots, and the facts on the edges out of an instruction. A
-- number identifies what is known of a group, so that a group is not joined again if it is known to
-- be joined already. It is not 0; the groups at program entry have number 1. At slot n the new
-- numbers are 8 * n + 2 for the join before the instruction, + 3 for its writes, + 4 for the
-- jumping and + 5 for the falling edge of a null test, and + 6 for the join at the jump's target. A
-- parameter `fresh` is such a new number. An edge leads to the next instruction (falling) or to the
-- target of a jump (jumping); a flow (`Flow` of `transfer`) is which of them control may take after
-- an instruction. No facts (None) on an edge means that it is never taken. This project's own.
use Rattle.std.specs.Prelude.{◌≡◌, ◌≢◌, ◌⊎◌, ℕ, ◌+◌, ◌*◌, ◌<◌, ◌≤◌, Bool, not, List, length, replicate, slice_index_or, slice_set, Option, Some, None, Ok}
use Rattle.std.specs.Option.{option_map}
use Rattle.words.specs.Stack.{stack_slots}
use Rattle.reg_kinds.specs.declared.kind.Slot.{Slot}
use Rattle.reg_kinds.specs.declared.facts.Facts.{Facts}
use Rattle.reg_kinds.specs.Join.{kind_join, slot_join, stack_groups, group_of}
use Rattle.reg_kinds.specs.Kinds.{entry, kind_at, slot_at, tabulate}
use Rattle.reg_kinds.specs.Settle.{facts_settled}
use Rattle.interval.specs.Refine.{RangePair}
use Rattle.insn_set.specs.declared.insn.Insn.{Insn}
use Rattle.insn_set.specs.declared.insn.Operand.{Operand}
use Rattle.insn_set.specs.Flow.{jump_target}
use Rattle.tagged_model.specs.Named.{Shapes}
use Rattle.transfer.specs.declared.branches.Flow.{Flow}
use Rattle.transfer.specs.declared.branches.Flow.TheVariants.{Ends, Falls, WritesSlot, Writes, Jumps, Either, Compares, Settles}
use Rattle.transfer.specs.Branches.{with_pair}
use Rattle.transfer.specs.Effects.{effect}
use Rattle.transfer.specs.Flows.{edges_of, KeepsStack}
use Rattle.verifier.specs.declared.numbered_facts.NumberedFacts.{NumberedFacts}

-- the facts without the numbers of their groups of stack slots; None if there are no facts
abbrev pub facts_on : Option NumberedFacts → Option Facts
facts_on o = option_map (λ x. x.facts) o

-- the entry of slot i: the join of the facts on the jumps to it so far; None if there are none
abbrev pub entry_of : ℕ → List (Option NumberedFacts) → Option NumberedFacts
entry_of i entries = slice_index_or entries i None

-- the number that identifies what is known of the group of eight stack slots that has stack slot i
abbrev pub number_of : NumberedFacts → ℕ → ℕ
number_of x i = slice_index_or x.numbers (group_of i) 0

-- the number of the group of stack slots that is known to be joined into the group that has stack
-- slot i; 0 if none is known
abbrev pub included_in : NumberedFacts → ℕ → ℕ
included_in x i = slice_index_or x.includes (group_of i) 0

-- the facts with number n for all groups of eight stack slots; no join into a group is known
abbrev pub numbered_by : ℕ → Facts → NumberedFacts
numbered_by n f = record {
  facts = f;
  numbers = replicate stack_groups n;
  includes = replicate stack_groups 0;
}

-- the facts at program entry, in which all groups of eight stack slots have number 1
abbrev pub at_entry : NumberedFacts
at_entry = numbered_by 1 entry

-- x with the new number `fresh` for all groups of eight stack slots; no group is known to be joined
-- into one of them
abbrev pub renumbered : NumberedFacts → ℕ → NumberedFacts
renumbered x fresh = numbered_by fresh x.facts

-- x with the new number `fresh` for the group of eight stack slots that has stack slot i; no join
-- into this group is known
abbrev pub group_renumbered : NumberedFacts → ℕ → ℕ → NumberedFacts
group_renumbered x i fresh =
    record {
      facts = x.facts;
      numbers = slice_set x.numbers (group_of i) fresh;
      includes = slice_set x.includes (group_of i) 0;
    }

-- what a join of stack slot t into stack slot s may give. Before it, the group of eight stack slots
-- that has s has number n, and the group with number m is known to be joined into it; the group
-- that has t has number k. After it, s', n' and m' replace s, n and m. Either m is k, and nothing
-- changes; or s' is the join of s and t, m' is k, and n' is `fresh`, or also n if s' is s
abbrev pub IsJoinedSlot : ℕ → Slot → ℕ → ℕ → Slot → ℕ → Slot → ℕ → ℕ → Type 0
IsJoinedSlot fresh s n m t k s' n' m' =
    ((m ≡ k) × (s' ≡ s) × (n' ≡ n) × (m' ≡ m))
    ⊎ ((s' ≡ slot_join s t) × (m' ≡ k) × ((n' ≡ fresh) ⊎ ((n' ≡ n) × (s' ≡ s))))

-- stack slot i of z, and the numbers of its group of eight stack slots, are those of x after the
-- join with stack slot i of y (`IsJoinedSlot`); `fresh` is the new number of the group if it
-- changes
abbrev pub IsJoinedAt : ℕ → NumberedFacts → NumberedFacts → NumberedFacts → ℕ → Type 0
IsJoinedAt fresh x y z i =
    IsJoinedSlot fresh (slot_at x.facts i) (number_of x i) (included_in x i) (slot_at y.facts i)
    (number_of y i)
    (slot_at z.facts i) (number_of z i) (included_in z i)

-- stack slot i of z is that of x, and its group of eight stack slots has the same numbers in both:
-- its own, and that of the group that is known to be joined into it
abbrev pub IsSameAt : NumberedFacts → NumberedFacts → ℕ → Type 0
IsSameAt x z i =
    (slot_at z.facts i ≡ slot_at x.facts i)
    × (number_of z i ≡ number_of x i)
    × (included_in z i ≡ included_in x i)

-- z is x, after the group of eight stack slots of y with index `group` is joined into that of x;
-- `fresh` is the new number of this group if it changes
pub record IsGroupJoin (fresh group : ℕ) (x y z : NumberedFacts) : Type 0 where
  pub registers : z.facts.registers ≡ x.facts.registers
  pub groups : length z.numbers ≡ stack_groups
  pub here : (i : ℕ) → i < stack_slots → group_of i ≡ group → IsJoinedAt fresh x y z i
  pub others : (i : ℕ) → i < stack_slots → group_of i ≢ group → IsSameAt x z i

-- z is the join of x and y, of each register and each stack slot; `fresh` is the new number of each
-- group of eight stack slots that changes
pub record IsJoin (fresh : ℕ) (x y z : NumberedFacts) : Type 0 where
  pub registers : z.facts.registers
      ≡ tabulate 11 (λ r. kind_join (kind_at x.facts r) (kind_at y.facts r))
  pub long : length z.facts.slots ≡ stack_slots
  pub groups : length z.numbers ≡ stack_groups
  pub slots : (i : ℕ) → i < stack_slots → IsJoinedAt fresh x y z i

-- the facts y are joined into those on an edge, or on the jumps to a slot. The first option is the
-- facts there before the join; the second, which is not None, is those after it: y if the first is
-- None. `fresh` is the new number of each group of eight stack slots that the join changes
abbrev pub IsJoinedBy : ℕ → Option NumberedFacts → NumberedFacts → Option NumberedFacts → Type 0
IsJoinedBy fresh None y new = new ≡ Some y
IsJoinedBy fresh (Some x) y None = ⊥
IsJoinedBy fresh (Some x) y (Some z) = IsJoin fresh x y z

-- the facts on the jumps to a slot, the third argument, are joined into those on the falling edge
-- to it: `old` before the join, `new` after it. If no jump has facts (None), `new` is `old`.
-- `fresh` is the new number of each group of eight stack slots that the join changes
abbrev pub IsJoinedIf : ℕ → Option NumberedFacts → Option NumberedFacts → Option NumberedFacts
    → Type 0
IsJoinedIf fresh old None new = new ≡ old
IsJoinedIf fresh old (Some y) new = IsJoinedBy fresh old y new

-- the facts on the jumps to a slot, its entry, are joined into those on the falling edge to it,
-- which are `old` before and `new` after this; the entries of later slots are unchanged. `fresh` is
-- the new number of each group of eight stack slots that the join changes
abbrev pub IsTaken : ℕ → ℕ → List (Option NumberedFacts) → List (Option NumberedFacts)
    → Option NumberedFacts → Option NumberedFacts → Type 0
IsTaken slot fresh entries_old entries_new old new =
    IsJoinedIf fresh old (entry_of slot entries_old) new
    × ((i : ℕ) → slot < i → entry_of i entries_new ≡ entry_of i entries_old)

-- the facts y are joined into the entry of a slot, which has the facts on the jumps to it. The
-- entries of all other slots are unchanged. `old` has the entries before this, `new` those after it
abbrev pub IsPut : ℕ → ℕ → NumberedFacts → List (Option NumberedFacts) → List (Option NumberedFacts)
    → Type 0
IsPut slot fresh y old new =
    IsJoinedBy fresh (entry_of slot old) y (entry_of slot new)
    × ((i : ℕ) → i ≢ slot → entry_of i new ≡ entry_of i old)

-- the facts y on a jump are joined into the entry of its target, the slot in the first argument. An
-- entry is the join of the facts on all jumps to a slot so far; None if there are none, and then y
-- is the new entry. `old` has the entries before this, `new` those after it. Other entries are
-- unchanged; without a target (None) all are. `fresh` is the new number of each group of eight
-- stack slots that the join changes
abbrev pub IsSent : Option ℕ → ℕ → NumberedFacts → List (Option NumberedFacts)
    → List (Option NumberedFacts) → Type 0
IsSent None fresh y old new = new ≡ old
IsSent (Some slot) fresh y old new = IsPut slot fresh y old new

-- the facts on a jumping edge are joined into the entry of its target, which has the facts on all
-- jumps there (`IsSent`, also for `fresh`); `old` has the entries before this, `new` those after
-- it. No entry changes if the edge has no facts (None), since it is never taken, or if there is no
-- target (None)
abbrev pub IsSentIf : Option ℕ → ℕ → Option NumberedFacts → List (Option NumberedFacts)
    → List (Option NumberedFacts) → Type 0
IsSentIf target fresh None old new = new ≡ old
IsSentIf target fresh (Some y) old new = IsSent target fresh y old new

-- ---- the facts on the edges of an instruction

-- x with these ranges for the operands of a comparison, that of dst first; the numbers of the
-- groups of stack slots are unchanged, since operands are registers or constants
abbrev pub with_ranges : NumberedFacts → ℕ → Operand → RangePair → NumberedFacts
with_ranges x dst src ranges = record {
  facts = with_pair x.facts dst src ranges;
  numbers = x.numbers;
  includes = x.includes;
}

-- x with the look-up at a site settled as null (true) or not null (false). This may change each
-- group of eight stack slots, so all groups have the new number `fresh`
abbrev pub settled : ℕ → Bool → ℕ → NumberedFacts → NumberedFacts
settled site null fresh x = numbered_by fresh (facts_settled site null x.facts)

-- the facts on the falling edge of a null test, at slot n, of the look-up at a site, from those
-- before it. If the test jumps on null (true), the result of the look-up is not null on this edge,
-- else it is null. All groups of eight stack slots have a new number
abbrev pub falls_settled : ℕ → Bool → ℕ → NumberedFacts → NumberedFacts
falls_settled site jumps_on_null n x = settled site (not jumps_on_null) (8 * n + 5) x

-- the facts on the jumping edge of a null test at slot n, from those before it: the result of the
-- look-up at `site` is null here if the test jumps on null (true), else not null. All groups of
-- eight stack slots have the new number of this edge
abbrev pub jumps_settled : ℕ → Bool → ℕ → NumberedFacts → NumberedFacts
jumps_settled site jumps_on_null n x = settled site jumps_on_null (8 * n + 4) x

-- the facts on the falling edge out of an instruction, the one to the next instruction; None if
-- control never takes this edge. x has the facts after the instruction that hold on each of its
-- edges. The flow, from the transfer function, adds what holds on only one. `Ends` has no edge, and
-- `Jumps` only the jumping edge. `Falls`, `WritesSlot`, `Writes` and `Either` keep x, in which
-- groups of stack slots that the instruction has changed have new numbers already. After a
-- comparison (`Compares`) the registers among the operands have the ranges `falls`, that of dst
-- first (`jumps` is for the other edge); None if `falls` is None, since the comparison always
-- holds. After a null test (`Settles`) the result of the look-up at slot `site` is not null if the
-- test jumps on null (`jumps_on_null`), else null. This may change any stack slot, so all groups of
-- eight get `fresh`, a new number, since the number of a group identifies what is known of it
abbrev pub on_falling_edge : Flow → ℕ → NumberedFacts → Option NumberedFacts
on_falling_edge Ends fresh x = None
on_falling_edge Falls fresh x = Some x
on_falling_edge (WritesSlot i) fresh x = Some x
on_falling_edge Writes fresh x = Some x
on_falling_edge Jumps fresh x = None
on_falling_edge Either fresh x = Some x
on_falling_edge (Compares dst src falls jumps) fresh x = option_map (with_ranges x dst src) falls
on_falling_edge (Settles site jumps_on_null) fresh x =
    Some (settled site (not jumps_on_null) fresh x)

-- the facts on the jumping edge out of an instruction, the one to the target of its jump; None if
-- control never takes this edge. x has the facts after the instruction that hold on each of its
-- edges. The flow, from the transfer function, adds what holds on only one. `Ends` has no edge;
-- `Falls`, `WritesSlot` and `Writes` have only the falling edge. `Jumps` and `Either` keep x. After
-- a comparison (`Compares`) the registers among the operands have the ranges `jumps`, that of dst
-- first; None if `jumps` is None, since the comparison can't hold. After a null test (`Settles`)
-- the result of the look-up at `site` is null if the test jumps on null (`jumps_on_null`), else not
-- null. This may change any stack slot, so all groups of eight get `fresh`, a new number, since the
-- number of a group identifies what is known of it
abbrev pub on_jumping_edge : Flow → ℕ → NumberedFacts → Option NumberedFacts
on_jumping_edge Ends fresh x = None
on_jumping_edge Falls fresh x = None
on_jumping_edge (WritesSlot i) fresh x = None
on_jumping_edge Writes fresh x = None
on_jumping_edge Jumps fresh x = Some x
on_jumping_edge Either fresh x = Some x
on_jumping_edge (Compares dst src falls jumps) fresh x = option_map (with_ranges x dst src) jumps
on_jumping_edge (Settles site jumps_on_null) fresh x = Some (settled site jumps_on_null fresh x)

-- if the flow of an instruction is `WritesSlot i`, so that the only stack slot that it may have
-- changed is i, then i is a slot of the stack (below `stack_slots`, 64). `apply` of `transfer`
-- returns the flow: which edges control may take after the instruction, and which stack slots the
-- instruction may have changed. Nothing is required of any other flow, which names no stack slot.
-- `renumber_written` requires this, since it replaces the number of the group of eight stack slots
-- that has i; this number identifies what is known of the group
abbrev pub IsInStack : Flow → Type 0
IsInStack (WritesSlot i) = i < stack_slots
IsInStack flow = Unit {0}

-- x, the facts after an instruction, with the new number `fresh` for each group of eight stack
-- slots that the instruction may have changed, since a number identifies what is known of a group.
-- The first argument is the instruction's flow, which `apply` of `transfer` returns: which edges
-- control may take after the instruction, and which stack slots may have changed. With
-- `WritesSlot i` only stack slot i may have changed, and its group gets `fresh`; with `Writes` any
-- may have, and all groups get it. With any other flow no stack slot in x has changed, and the
-- result is x. A null test (`Settles`) changes stack slots only in the facts on its edges;
-- `on_falling_edge` and `on_jumping_edge` give their groups new numbers
abbrev pub writes_renumbered : Flow → ℕ → NumberedFacts → NumberedFacts
writes_renumbered (WritesSlot i) fresh x = group_renumbered x i fresh
writes_renumbered Writes fresh x = renumbered x fresh
writes_renumbered flow fresh x = x

-- the instruction at slot n may be run with the facts `old`; it has this flow, and these are the
-- facts after it. `new` are the facts on its falling edge; those on its jumping edge are joined
-- into the entry of the jump's target, so that `entries_old` become `entries_new`
pub record IsPast (shapes : Shapes) (n : ℕ) (insn : Insn) (old : NumberedFacts)
    (entries_old : List (Option NumberedFacts)) (new : Option NumberedFacts)
    (entries_new : List (Option NumberedFacts)) : Type 0 where
  pub flow : Flow
  pub facts : Facts
  pub edges : effect shapes n insn old.facts ≡ Ok (edges_of flow facts)
  pub stack : KeepsStack flow old.facts facts
  pub falls : new
      ≡ on_falling_edge flow (8 * n + 5)
      (writes_renumbered flow (8 * n + 3)
      (record { facts = facts; numbers = old.numbers; includes = old.includes }))
  pub sent : IsSentIf (jump_target insn n) (8 * n + 6)
      (on_jumping_edge flow (8 * n + 4)
      (writes_renumbered flow (8 * n + 3)
      (record {
        facts = facts;
        numbers = old.numbers;
        includes = old.includes;
      }))) entries_old entries_new

-- `IsPast`, if there are facts before the instruction at slot n; else no run reaches it: there are
-- no facts on its falling edge (`new` is None), and the entries are unchanged
abbrev pub IsPastIf : Shapes → ℕ → Insn → Option NumberedFacts → List (Option NumberedFacts)
    → Option NumberedFacts → List (Option NumberedFacts) → Type 0
IsPastIf shapes n insn None entries_old new entries_new = (new ≡ None) × (entries_new ≡ entries_old)
IsPastIf shapes n insn (Some x) entries_old new entries_new =
    IsPast shapes n insn x entries_old new entries_new

-- ---- the meaning of each number, for numbers below a bound

-- `held` gives what is known of one stack slot by each number that its group of eight stack slots
-- may have. The group has number n, which is not 0, and s is what n means. m is the number of the
-- group that was joined into this one, 0 if none is known; if it is not 0, a join of s with what m
-- means is s. Both numbers are below the bound
pub record IsNumberedSlot (held : ℕ → Slot) (bound : ℕ) (s : Slot) (n m : ℕ) : Type 0 where
  pub is : s ≡ held n
  pub some : 0 < n
  pub below : n < bound
  pub includes : 0 < m → (m < bound) × (slot_join s (held m) ≡ s)

-- each stack slot of x is as the two numbers of its group mean (`IsNumberedSlot`), which are below
-- the bound; `stacks` gives, for stack slot i and a number, the slot that is meant
pub record IsNumbered (stacks : ℕ → ℕ → Slot) (bound : ℕ) (x : NumberedFacts) : Type 0 where
  pub groups : length x.numbers ≡ stack_groups
  pub slots : (i : ℕ)
      → i < stack_slots
      → IsNumberedSlot (stacks i) bound (slot_at x.facts i) (number_of x i) (included_in x i)

-- the numbers of the facts have the meaning that `stacks` gives; if there are no facts (None),
-- nothing is required
abbrev pub IsNumberedIf : (ℕ → ℕ → Slot) → ℕ → Option NumberedFacts → Type 0
IsNumberedIf stacks bound None = Unit {0}
IsNumberedIf stacks bound (Some x) = IsNumbered stacks bound x

-- the numbers of the facts on the falling edge, and of those on the jumps to a slot or a later one,
-- have one meaning (`stacks`): groups of eight stack slots with the same index and number are the
-- same. All numbers are below the bound, so one from the bound on is new
pub record AreNumbered (slot bound : ℕ) (falling : Option NumberedFacts)
    (entries : List (Option NumberedFacts)) : Type 0 where
  pub stacks : ℕ → ℕ → Slot
  pub in_hand : IsNumberedIf stacks bound falling
  pub ahead : (i : ℕ) → slot ≤ i → IsNumberedIf stacks bound (entry_of i entries)

-- ---- a join, group by group

-- z is x during its join with y, before the turn of the group `group` of eight stack slots: the
-- registers and the groups of a lower index are joined, the other groups are those of x
pub record IsJoinedBelow (fresh group : ℕ) (x y z : NumberedFacts) : Type 0 where
  pub registers : z.facts.registers
      ≡ tabulate 11 (λ r. kind_join (kind_at x.facts r) (kind_at y.facts r))
  pub groups : length z.numbers ≡ stack_groups
  pub done : (i : ℕ) → i < stack_slots → group_of i < group → IsJoinedAt fresh x y z i
  pub rest : (i : ℕ) → i < stack_slots → group ≤ group_of i → IsSameAt x z i
