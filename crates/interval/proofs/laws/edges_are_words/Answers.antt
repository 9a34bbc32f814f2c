-- `edges_are_words`: by cases of the comparison, the ranges on its edges are ranges of words, by the lemma `refined_words` for any width.
use Rattle.interval.proofs.EdgeLemmas.{refined_words}
use Rattle.interval.proofs.laws.edges_are_words.Goals as goal

pub returns : goal.returns
returns c =
    record {
      wide = λ condition a b p q. refined_words 64 condition a b p q;
      narrow = λ condition a b p q. refined_words 32 condition a b p q;
    }
