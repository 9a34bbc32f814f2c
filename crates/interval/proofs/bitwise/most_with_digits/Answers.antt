-- `most_with_digits`: all ones of a word, shifted right by the leading zeros of a number, are as many ones as the number has digits, and so
-- no less than the number; 0 has no digits.
use Rattle.std.proofs.Common.{ap, arith, ◌∙◌, ◌^◌, ◌-◌, sym}
use Rattle.interval.specs.Table.{binary_digits}
use Rattle.interval.proofs.Digits.{below_digits, digits_shifted, no_digits}
use Rattle.interval.proofs.bitwise.most_with_digits.Goals as goal

pub returns-then-most-eq0-clause-value : goal.returns-then-most-eq0-clause-value
returns-then-most-eq0-clause-value c =
    no_digits ∙ ap (λ m. 2 ^ binary_digits m - 1) (sym c.if-most-eq0.true ∙ c.max-most.ensures)

pub returns-else-most-eq0-clause-value : goal.returns-else-most-eq0-clause-value
returns-else-most-eq0-clause-value c =
    digits_shifted c.max-most.result ∙ ap (λ m. 2 ^ binary_digits m - 1) c.max-most.ensures

pub returns-else-most-eq0-clause-first : goal.returns-else-most-eq0-clause-first
returns-else-most-eq0-clause-first c =
    omega (arith, digits_shifted c.max-most.result, below_digits c.max-most.result (omega arith))

pub returns-else-most-eq0-clause-second : goal.returns-else-most-eq0-clause-second
returns-else-most-eq0-clause-second c =
    omega (arith, digits_shifted c.max-most.result, below_digits c.max-most.result (omega arith))
