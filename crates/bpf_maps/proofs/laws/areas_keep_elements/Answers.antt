-- `areas_keep_elements`: an element's offset depends only on the start and the stride of its map, and both are unchanged (`SameAreas`).
use Rattle.bpf_maps.proofs.Slots.{offsets_stay}
use Rattle.bpf_maps.proofs.laws.areas_keep_elements.Goals as goal

pub returns : goal.returns
returns c = λ old new k p areas live. offsets_stay old new k areas live p
