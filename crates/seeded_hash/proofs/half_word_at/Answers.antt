-- `half_word_at`: the number of the four bytes is that of the definition, by the contract of `from_le_bytes`.
use Rattle.seeded_hash.specs.Hashing.{half_word_at}
use Rattle.seeded_hash.proofs.half_word_at.Goals as goal

pub returns : goal.returns
unfolding half_word_at
returns c = c.from_le_bytes.ensures
