-- `word_at`: the number is that of the definition, whose two halves the contract of `half_word_at` gives.
use Rattle.seeded_hash.specs.Hashing.{word_at}
use Rattle.seeded_hash.proofs.word_at.Goals as goal

pub returns : goal.returns
unfolding word_at
returns c = rw (c.half_word_at.ensures, c.half_word_at-2.ensures)
