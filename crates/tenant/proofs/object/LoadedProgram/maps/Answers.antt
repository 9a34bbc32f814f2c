-- `maps` of `LoadedProgram`: the stored handles are those that contracts see in pairs with descriptors, since by the invariant there is one
-- for each descriptor.
use Rattle.std.proofs.Common.{sym, ap, ◌∙◌}
use Rattle.std.proofs.lemmas.Slice.Zip.{seconds-zip}
use Rattle.verifier.specs.Maps.{maps_of}
use Rattle.tenant.specs.Loaded.{map_handles}
use Rattle.tenant.proofs.object.LoadedProgram.maps.Goals as goal

pub returns : goal.returns
returns c =
    c.deref.ensures.value
    ∙ sym (seconds-zip (maps_of c.self.inside.program.code) c.self.inside.maps.items c.self.invariant)
    ∙ ap map_handles c.self.view_is
