-- `close_gap`: the maps of the handles so far have their corrected starts, and those of the other handles are unchanged. The slab still has
-- the handles' maps under `keys`, and its capacity is unchanged.
use Rattle.std.proofs.Common.{◌≡◌, ℕ, ◌<◌, ◌≤◌, List, Option, None, option_map, get_or}
use Rattle.slab.specs.Slab.{Slab}
use Rattle.bpf_maps.specs.declared.stored_map.StoredMap.{StoredMap}
use Rattle.bpf_maps.specs.InMaps.{by_handle, AreKeys, closed_up}
use Rattle.bpf_maps.proofs.stored_map.close_gap.Given as goal

-- the maps of the handles below this one are moved down, and the others are not changed
pub record ClosesBelow (end size handle : ℕ) (old new : List (Option StoredMap)) : Type 0 where
  pub done : (k : ℕ) → k < handle → get_or new k None ≡ option_map (closed_up end size) (get_or old k None)
  pub left : (k : ℕ) → handle ≤ k → get_or new k None ≡ get_or old k None

pub record IsClosing (end size handle : ℕ) (keys : List (Option ℕ)) (old new : Slab StoredMap) : Type 0 where
  pub are_keys : AreKeys keys new
  pub capacity : new.capacity ≡ old.capacity
  pub closes : ClosesBelow end size handle (by_handle keys old) (by_handle keys new)

abbrev pub invariant-loop-handle : goal.invariant-loop-handle
invariant-loop-handle l = IsClosing l.end l.size l.handle l.keys l.initial.maps l.maps
