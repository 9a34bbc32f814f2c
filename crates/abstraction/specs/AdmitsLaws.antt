-- Every cell has the bytes of the empty mask: a law of the definition `HasBytes` of `Admits`,
-- proved here for the proofs of the crates above. This project's own. No contract cites it, so it
-- is not part of what has to be trusted.
use Rattle.std.proofs.Common.{arith}
use Rattle.std.proofs.lemmas.Nat.Bits.{bit_at-zero}
use Rattle.tagged_model.specs.Cells.{Cell}
use Rattle.abstraction.specs.Admits.{HasBytes}

-- every cell has the bytes of the mask 0, which has no bit, so they are none
pub no_bytes : (c : Cell) → HasBytes 0 c
no_bytes c j h e = absurd (omega (arith, bit_at-zero j, e))
