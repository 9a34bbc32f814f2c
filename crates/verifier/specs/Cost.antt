-- The cost of a program: the most instructions, and the most calls of helpers, on a path from slot
-- 0 to an exit along the edges of `Shape`. This project's own.
use Rattle.std.specs.Prelude.{◌≡◌, ◌⊎◌, ℕ, ◌≤◌, Bool, true, false, not, ◌||◌, List, [], ◌∷◌, length, Some}
use Rattle.std.specs.List.{count_by}
use Rattle.insn_set.specs.declared.insn.Insn.{Insn}
use Rattle.insn_set.specs.declared.profile.Reference.{Reference}
use Rattle.insn_set.specs.declared.profile.Reference.TheVariants as names
use Rattle.insn_set.specs.Profile.{profile}
use Rattle.insn_set.specs.Program.{begins_at}
use Rattle.insn_set.specs.Flow.{falls, jumps}
use Rattle.verifier.specs.declared.cost.Cost.{Cost}
use Rattle.verifier.specs.Shape.{leads_into}

-- ---- paths

-- an exit: control passes from it to no other instruction
abbrev pub is_exit : Insn → Bool
is_exit i = not (falls i || jumps i)

-- these instructions, in order, are a path from a slot to an exit: the first begins at the slot; it
-- is an exit and the only one, or one of its edges leads to a slot from which the others are a
-- path. No instructions are no path
abbrev pub IsPath : List Insn → ℕ → List Insn → Type 0
IsPath code at [] = ⊥
IsPath code at (i ∷ is) =
    (begins_at code at ≡ Some i)
    × (((is_exit i ≡ true) × (is ≡ []))
    ⊎ ((to : ℕ) × (leads_into (Some i) at to ≡ true) × IsPath code to is))

-- ---- what is counted

-- whether a reference, which is what an instruction names outside its registers, is a helper
-- (`Helper`, with its number id). It is none if the instruction names nothing (`Nothing`), a map
-- (`Map`), or a byte of a map's first value (`Value`). Each call names a helper, and no other
-- instruction does, so `is_call` recognizes calls by this
abbrev pub is_helper : Reference → Bool
is_helper names.Nothing = false
is_helper (names.Helper id) = true
is_helper (names.Map fd) = false
is_helper (names.Value fd off) = false

-- the instruction calls a helper
abbrev pub is_call : Insn → Bool
is_call i = is_helper (profile i).reference

-- the number of calls of helpers among instructions
abbrev pub calls_in : List Insn → ℕ
calls_in is = count_by is_call is

-- ---- the cost

-- n is the most that `measure` gives for a path from slot 0 to an exit: for no path it gives more,
-- and for some path it gives n
abbrev pub IsMostOf : (List Insn → ℕ) → List Insn → ℕ → Type 0
IsMostOf measure code n =
    ((path : List Insn) → IsPath code 0 path → measure path ≤ n)
    × ((path : List Insn) × IsPath code 0 path × (measure path ≡ n))

-- the cost of a program: the most instructions on a path, and the most calls, perhaps on another
-- path
abbrev pub IsCostOf : Cost → List Insn → Type 0
IsCostOf cost code = IsMostOf length code cost.instructions × IsMostOf calls_in code cost.calls
