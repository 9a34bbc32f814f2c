-- `folded_product`: the definition has the operations of the code, so both sides compute to one term.
use Rattle.std.proofs.Common.{refl}
use Rattle.seeded_hash.specs.Hashing.{folded_product}
use Rattle.seeded_hash.proofs.folded_product.Goals as goal

pub returns : goal.returns
unfolding folded_product
returns c = refl
