-- `results_are_words`: by cases of the operator, the range in the table is one of words (`table_fits`), if the ranges that are read are of
-- the operator's width; those of low halves are (`cut_below`).
use Rattle.std.proofs.Common.{arith}
use Rattle.interval.proofs.Sound.{cut_below}
use Rattle.interval.proofs.Fits.{table_fits}
use Rattle.interval.proofs.laws.results_are_words.Goals as goal

pub returns : goal.returns
returns c =
    record {
      wide = λ op a b p q. table_fits 64 op a b (omega arith) p q;
      narrow = λ op a b p q. table_fits 32 op a b (omega arith) (cut_below a) (cut_below b);
    }
