-- The live maps after references to them are dropped. This project's own.
use Rattle.std.specs.Prelude.{◌≡◌, ℕ, List, length, IsSome}
use Rattle.bpf_maps.specs.declared.part.TheConstants.{PART}
use Rattle.bpf_maps.specs.Live.{LiveMaps, live_at, map_in}
use Rattle.tenant.specs.Kept.{AreHeld}

-- the live maps, and the bytes of their values
pub record HeldMaps : Type 0 where
  pub live : LiveMaps
  pub part : List ℕ

-- after references are dropped, each live map was live before, has the shape, keys and values that
-- it had, and at least one reference (`AreHeld`); the flag of refused memory is unchanged, and the
-- part has its length
pub record LeavesHeldMaps (old new : HeldMaps) : Type 0 where
  pub held : AreHeld new.live
  pub stays : (handle : ℕ) → IsSome (live_at new.live handle)
      → IsSome (live_at old.live handle)
      × (map_in new.part new.live handle ≡ map_in old.part old.live handle)
  pub refused : new.live.refused ≡ old.live.refused
  pub whole : length new.part ≡ PART
