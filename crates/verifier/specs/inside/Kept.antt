-- The invariant of an accepted program. This project's own.
use Rattle.std.specs.Prelude.{◌≡◌}
use Rattle.verifier.specs.Cost.{IsCostOf}
use Rattle.verifier.specs.Maps.{maps_of}
use Rattle.verifier.specs.declared.verified.Verified.TheInside.{Inside}
use Rattle.verifier.specs.Verified.{Accepted, IsVerified}

-- a `Verified` as contracts see it
abbrev pub as_accepted : Inside → Accepted
as_accepted v = record { code = v.program; objects = v.found.objects.items }

-- the invariant of a `Verified`: its program was accepted, the list of its maps is that of the maps
-- that it loads, and its cost is the program's
abbrev pub IsWholeProgram : Inside → Type 0
IsWholeProgram v =
    IsVerified (as_accepted v)
    × (v.found.maps.items ≡ maps_of v.program)
    × IsCostOf v.found.cost v.program
