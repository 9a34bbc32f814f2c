-- The most that a measure can be on the paths from slot 0, found in one pass over the slots. This
-- project's own.
use Rattle.std.specs.Prelude.{◌≡◌, ◌<◌, ◌≤◌, ℕ, zero, suc, ◌+◌, ◌==◌, ◌||◌, max, nat_lt, true}
use Rattle.std.specs.Prelude.{false, if◌then◌else◌, List, [], ◌∷◌, Option, Some, None, slice_index_or}
use Rattle.insn_set.specs.declared.insn.Insn.{Insn}
use Rattle.insn_set.specs.declared.profile.Profile.{Profile}
use Rattle.insn_set.specs.declared.profile.Reference.TheVariants.{Nothing}
use Rattle.insn_set.specs.declared.profile.Successors.TheVariants.{Next}
use Rattle.insn_set.specs.Program.{begins_at, most_slots}
use Rattle.insn_set.specs.Flow.{falls_to, is_number}
use Rattle.verifier.specs.declared.cost.Counts.{Counts}
use Rattle.verifier.specs.declared.cost.Paths.{Paths}
use Rattle.verifier.specs.Cost.{is_exit, is_call}
use Rattle.verifier.specs.Shape.{leads_into, is_reachable}

-- ---- what an instruction adds to the measure of a path

-- what an instruction adds if instructions are counted (a `weight`)
abbrev pub one : Insn → ℕ
one i = 1

-- what an instruction adds if calls of helpers are counted (a `weight`)
abbrev pub one_if_call : Insn → ℕ
one_if_call i = if is_call i then 1 else 0

-- what all instructions of a path add, by the weight of each
unfoldable pub total : (Insn → ℕ) → List Insn → ℕ
total weight [] = 0
total weight (i ∷ is) = weight i + total weight is

-- ---- the most on the way to a slot

-- the greatest total weight of a path to slot i whose last instruction is the one at slot n, from
-- the greatest of a path to slot n (`before`); 0 if no edge of that instruction leads to slot i, or
-- no instruction begins at slot n
abbrev pub passed_on : (Insn → ℕ) → Option Insn → ℕ → ℕ → ℕ → ℕ
passed_on weight None n i before = 0
passed_on weight (Some insn) n i before =
    if leads_into (Some insn) n i then before + weight insn else 0

-- the greatest total weight of a path to slot i, without the instruction there, whose last edge is
-- from a slot below n; 0 if there is no such edge
unfoldable pub most_from : (Insn → ℕ) → List Insn → ℕ → ℕ → ℕ
most_from weight code i zero = 0
most_from weight code i (suc n) =
    max (most_from weight code i n)
    (passed_on weight (begins_at code n) n i (most_from weight code n n))

-- ---- the most on a path

-- for an exit, the greatest total weight of a path that ends with it: its own weight, and `before`,
-- the greatest of a path that leads to it; 0 for any other instruction, and if no instruction is
-- given (None)
abbrev pub at_exit : (Insn → ℕ) → Option Insn → ℕ → ℕ
at_exit weight None before = 0
at_exit weight (Some insn) before = if is_exit insn then before + weight insn else 0

-- the greatest total weight of a path to an exit below slot n, the weight of the exit included; 0
-- if no exit is below n
unfoldable pub most_ended : (Insn → ℕ) → List Insn → ℕ → ℕ
most_ended weight code zero = 0
most_ended weight code (suc n) =
    max (most_ended weight code n)
    (at_exit weight (begins_at code n) (most_from weight code n n))

-- ---- the counts during the pass

-- no instruction and no call
abbrev pub no_counts : Counts
no_counts = record { instructions = 0; calls = 0 }

-- the count at slot i, of instructions or of calls as `count` selects: the greater of that on the
-- jumps to i and, if i is `next`, the slot to which the falling edge leads, that on this edge
abbrev pub arriving : (Counts → ℕ) → ℕ → Counts → List Counts → ℕ → ℕ
arriving count next falling jumping i =
    max (if next == i then count falling else 0) (count (slice_index_or jumping i no_counts))

-- each path to the current slot of the pass has at most as many instructions as a program may have
-- slots, and at most as many calls
pub record AreFew (paths : Paths) : Type 0 where
  pub instructions : paths.here.instructions ≤ most_slots
  pub calls : paths.here.calls ≤ most_slots

-- The pass adds instruction i to the paths to its slot: each count at a later slot, and each of the
-- ended paths, is then the greater of the count before and that of the paths whose last instruction
-- is i. `old` and `jumping` are the counts before this, of the paths and on the jumps to each slot;
-- `new` and `later` are those after it
pub record IsAdded (i : Insn) (slot : ℕ) (old new : Paths)
    (jumping later : List Counts) : Type 0 where
  pub instructions : (to : ℕ)
      → slot < to
      → arriving (λ c. c.instructions) (falls_to i slot) new.here later to
      ≡ max (slice_index_or jumping to no_counts).instructions
      (passed_on one (Some i) slot to old.here.instructions)
  pub calls : (to : ℕ)
      → slot < to
      → arriving (λ c. c.calls) (falls_to i slot) new.here later to
      ≡ max (slice_index_or jumping to no_counts).calls
      (passed_on one_if_call (Some i) slot to old.here.calls)
  pub ended_instructions : new.ended.instructions
      ≡ max old.ended.instructions (at_exit one (Some i) old.here.instructions)
  pub ended_calls : new.ended.calls
      ≡ max old.ended.calls (at_exit one_if_call (Some i) old.here.calls)

-- the slot at which the pass is can be reached exactly if it is slot 0, or `paths` counts at least
-- one instruction on the paths to it
abbrev pub LeadTo : List Insn → ℕ → Paths → Type 0
LeadTo code slot paths =
    (nat_lt 0 paths.here.instructions || slot == 0) ≡ is_reachable code slot

-- an instruction with the properties `row` is simple: its only successor is the next one, whose
-- slot `next` is one of the program's `slots` slots; it names nothing, and does not write the frame
-- pointer; by `paths`, a path to it has at least one instruction before it
pub record IsSimple (row : Profile) (next slots : ℕ) (paths : Paths) : Type 0 where
  pub goes_on : row.successors ≡ Next
  pub names : row.reference ≡ Nothing
  pub within : next < slots
  pub reached : nat_lt 0 paths.here.instructions ≡ true
  pub writes : is_number row.written 10 ≡ false
