-- `clear` of `SlabKeys`: the word `NO_KEY` is seen as `None`, and setting a word sets what contracts see of it (`map-set`).
use Rattle.std.proofs.Common.{ℕ, List, Option, None, set, ap, ◌∙◌}
use Rattle.std.proofs.lemmas.List.{map-set}
use Rattle.bpf_maps.specs.declared.slab_keys.TheConstants.{NO_KEY}
use Rattle.bpf_maps.specs.inside.SlabKeys.{key_in}
use Rattle.bpf_maps.proofs.slab_keys.SlabKeys.clear.Goals as goal

pub returns : goal.returns
returns c =
    map-set key_in c.self.inside.words c.args.handle NO_KEY
    ∙ ap (λ (keys : List (Option ℕ)). set keys c.args.handle None) c.self.view_is
