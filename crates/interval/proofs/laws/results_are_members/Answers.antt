-- `results_are_members`: the table of ranges is sound (`table_sound`) for what the operator reads of each operand, the whole word on 64
-- bits, its low half on 32.
use Rattle.std.proofs.Common.{arith}
use Rattle.interval.proofs.Sound.{table_sound, sees_64, sees_32}
use Rattle.interval.proofs.laws.results_are_members.Goals as goal

pub returns : goal.returns
returns c =
    record {
      wide = λ op a b x y p q h k. table_sound 64 op a b x y (omega arith) h k (sees_64 a x p h) (sees_64 b y q k);
      narrow = λ op a b x y p q h k. table_sound 32 op a b x y (omega arith) h k (sees_32 a x h) (sees_32 b y k);
    }
