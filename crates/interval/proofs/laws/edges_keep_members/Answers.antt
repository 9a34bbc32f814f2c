-- `edges_keep_members`: by cases of the comparison, two members that take an edge are members of the ranges on it, by the lemma
-- `refined_keep` for any width.
use Rattle.interval.proofs.EdgeLemmas.{refined_keep}
use Rattle.interval.proofs.laws.edges_keep_members.Goals as goal

pub returns : goal.returns
returns c =
    record {
      wide = λ condition a b x y p q h k. refined_keep 64 condition a b x y h k;
      narrow = λ condition a b x y p q h k. refined_keep 32 condition a b x y h k;
    }
