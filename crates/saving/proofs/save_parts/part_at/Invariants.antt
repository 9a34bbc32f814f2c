-- The part that is left to find, among those of the births that are left, is the part with the index.
use Rattle.std.proofs.Common.{◌≡◌, ℕ, List, drop}
use Rattle.std.specs.Prelude.{slice_get}
use Rattle.tenant.specs.Kept.{state_in}
use Rattle.saving.specs.inside.PartCommands.{later_parts}
use Rattle.saving.proofs.save_parts.part_at.Given as goal

abbrev pub invariant-loop-birth : goal.invariant-loop-birth
invariant-loop-birth l =
    (part : List ℕ)
    → slice_get (later_parts (state_in part l.tenant) (drop l.birth-index l.births)) l.left
    ≡ slice_get (later_parts (state_in part l.tenant) l.births) l.initial.left
