-- `byte_bits`: for a half and a word the shift of the mask loses no bit, since the access is aligned to its size (`half_bits`,
-- `word_bits`).
use Rattle.std.proofs.Common.{◌%◌, ap, ◌∙◌, sym}
use Rattle.words.specs.declared.stack.AccessSize.{AccessSize}
use Rattle.words.specs.Stack.{bytes_of}
use Rattle.reg_kinds.specs.Stack.{byte_bits}
use Rattle.reg_kinds.proofs.ByteBits.{half_bits, word_bits}
use Rattle.reg_kinds.proofs.stack.byte_bits.Goals as goal

pub returns-in-Half : goal.returns-in-Half
returns-in-Half c =
    half_bits c.args.start (ap (λ (z : AccessSize). c.args.start % bytes_of z) (sym c.in-Half.is) ∙ c.requires)
    ∙ ap (λ (z : AccessSize). byte_bits c.args.start (bytes_of z)) (sym c.in-Half.is)

pub returns-in-Word : goal.returns-in-Word
returns-in-Word c =
    word_bits c.args.start (ap (λ (z : AccessSize). c.args.start % bytes_of z) (sym c.in-Word.is) ∙ c.requires)
    ∙ ap (λ (z : AccessSize). byte_bits c.args.start (bytes_of z)) (sym c.in-Word.is)
