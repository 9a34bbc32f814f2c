-- A map that is created.
use Rattle.std.proofs.Common.{ℕ, Option, Some, None, Ok}
use Rattle.tagged_model.specs.declared.shape.MapShape.{MapShape}
use Rattle.tagged_model.specs.declared.fault.MapFault.{MapFault}
use Rattle.bpf_maps.specs.Live.{LiveMaps, Creates, IsCreated}

-- if a creation returns a handle, a new map of this shape is live at it, and no other map is changed
pub is_created : (fault : Option MapFault) (old new : LiveMaps) (shape : MapShape) (k : ℕ)
    → Creates fault old shape (Ok k) new → IsCreated old shape k new
is_created None old new shape k made = made
is_created (Some f) old new shape k made = cc (made.0)
