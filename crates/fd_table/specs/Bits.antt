-- Which entries are taken, as the bits of a word. This project's own.
use Rattle.std.specs.Prelude.{◌≡◌, ℕ, ◌<◌, is_none, List, Option, None, slice_index_or, if◌then◌else◌}
use Rattle.std.specs.Int.{bit_at}
use Rattle.fd_table.specs.Table.{most}

-- for each index below `most`, the bit of `word` at this index is 0 if `entries` has None there, so
-- that the descriptor is free, and else 1
abbrev pub MarksTaken : {A : Type 0} → ℕ → List (Option A) → Type 0
MarksTaken word entries =
    (index : ℕ)
    → index < most
    → bit_at word index ≡ (if is_none (slice_index_or entries index None) then 0 else 1)
