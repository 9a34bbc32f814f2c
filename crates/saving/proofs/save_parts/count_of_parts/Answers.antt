-- `count_of_parts`: one part creates the object, and the quotient, rounded up by `div_ceil`, of the keys that `key_count` counts is the
-- number of the others.
use Rattle.std.proofs.Common.{ℕ, ◌+◌, ap, ◌∙◌}
use Rattle.tenant.specs.Kept.{state_in}
use Rattle.saving.proofs.PartAt.{part_count}
use Rattle.saving.proofs.save_parts.count_of_parts.Goals as goal

pub returns : goal.returns
returns c = λ part.
    ap (λ (n : ℕ). 1 + n) c.div_ceil.ensures
    ∙ part_count (state_in part c.args.tenant.now) c.args.birth c.key_count.result (c.key_count.ensures.count part)
