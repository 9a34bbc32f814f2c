-- `write` of `SeededHasher`: the hasher is that of `written`, by cases of the length. A short key takes the equations of `short_word` and
-- `folded_product`; for a longer one the loop's invariant says at its end that all blocks are mixed in, and the equation of `word_at` gives
-- the last words.
use Rattle.std.proofs.Common.{◌≡◌, ℕ, suc, ◌+◌, ◌-◌, ◌*◌, ◌/◌, length, refl, arith}
use borrow.Author.Tests.{le-leb, lt-leb}
use Rattle.seeded_hash.specs.Hashing.{blocks_mixed, written}
use Rattle.seeded_hash.proofs.SeededHasherHasher.write.Goals as goal

pub returns-then-len-le8 : goal.returns-then-len-le8
unfolding written
returns-then-len-le8 c =
    rw (
      c.folded_product-self.ensures,
      c.rotate_left.ensures,
      c.short_word-word.ensures,
      le-leb (length c.args.bytes.now) 8 c.if-len-le8.true,
    )

pub loop-at-init : goal.loop-at-init
unfolding blocks_mixed
loop-at-init c = record { whole = refl; within = omega arith; mixed = refl }

pub loop-at-preserved : goal.loop-at-preserved
unfolding blocks_mixed
loop-at-preserved c =
    let at : ℕ = c.loop-at.at in
    let whole : at ≡ 16 * (at / 16) = omega (arith, c.loop-at.invariant.whole) in
    let more : (at + 16) / 16 ≡ suc (at / 16) = omega arith in
    record {
      whole = omega arith;
      within = omega arith;
      mixed =
          rw (
            more,
            c.folded_product-state.ensures,
            c.word_at.ensures,
            c.word_at-in-loop-at.ensures,
            ← c.loop-at.invariant.mixed,
            ← whole,
          );
    }

pub returns : goal.returns
unfolding written
returns c =
    let n : ℕ = length c.args.bytes.now in
    let count : (n - 1) / 16 ≡ c.loop-at.at / 16 =
    omega (arith, c.loop-at.invariant.whole, c.loop-at.invariant.within, c.loop-at-test.false) in
    rw (
      lt-leb n 8 c.if-len-le8.false,
      count,
      ← c.loop-at.invariant.mixed,
      c.folded_product-self-2.ensures,
      c.folded_product-last.ensures,
      c.word_at-2.ensures,
      c.word_at-3.ensures,
      c.saturating_sub.ensures,
    )
