-- The invariant of the memory. This project's own.
use Rattle.std.specs.Prelude.{◌≡◌, ◌*◌, ◌^◌, ◌≤◌, vec_len}
use Rattle.arena.specs.declared.memory.Arena.TheInside.{Inside}

-- the size is the number of parts times their size, and at most 2^28 bytes
abbrev pub IsWholeMemory : Inside → Type 0
IsWholeMemory a = (vec_len a.bytes ≤ 2 ^ 28) × (vec_len a.bytes ≡ a.parts * a.part_size)
