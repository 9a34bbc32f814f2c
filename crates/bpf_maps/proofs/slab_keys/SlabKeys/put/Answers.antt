-- `put`: a word less than `NO_KEY` is seen as a key (`is_key`), and setting a word sets what contracts see of it (`map-set`).
use Rattle.std.proofs.Common.{◌≡◌, ℕ, ◌<◌, List, Option, Some, set, ap₂, ◌∙◌, arith}
use Rattle.std.proofs.lemmas.List.{map-set}
use Rattle.bpf_maps.specs.declared.slab_keys.TheConstants.{NO_KEY}
use Rattle.bpf_maps.specs.inside.SlabKeys.{key_in}
use Rattle.bpf_maps.proofs.slab_keys.SlabKeys.put.Goals as goal

is_key : (key : ℕ) → key < NO_KEY → key_in key ≡ Some key
is_key key less = grind arith

pub returns : goal.returns
returns c =
    map-set key_in c.self.inside.words c.args.handle c.args.key
    ∙ ap₂ (λ (keys : List (Option ℕ)) (key : Option ℕ). set keys c.args.handle key) c.self.view_is
    (is_key c.args.key c.requires.key)
