-- `short_word`: the word is that of the definition, by cases of the number of bytes; the two halves of four or more bytes are those of
-- `half_word_at`.
use Rattle.std.proofs.Common.{length}
use borrow.Author.Tests.{le-leb, lt-leb, lt-ltb, le-ltb}
use Rattle.seeded_hash.specs.Hashing.{short_word}
use Rattle.seeded_hash.proofs.short_word.Goals as goal

pub returns-then-len-ge4 : goal.returns-then-len-ge4
unfolding short_word
returns-then-len-ge4 c =
    rw (c.half_word_at.ensures, c.half_word_at-then-len-ge4.ensures, le-leb 4 (length c.args.bytes.now) c.if-len-ge4.true)

pub returns-then-len-gt0 : goal.returns-then-len-gt0
unfolding short_word
returns-then-len-gt0 c =
    rw (lt-leb 4 (length c.args.bytes.now) c.if-len-ge4.false, lt-ltb 0 (length c.args.bytes.now) c.if-len-gt0.true)

pub returns-else-len-gt0 : goal.returns-else-len-gt0
unfolding short_word
returns-else-len-gt0 c =
    rw (lt-leb 4 (length c.args.bytes.now) c.if-len-ge4.false, le-ltb 0 (length c.args.bytes.now) c.if-len-gt0.false)
