-- `transfer_keeps_well_formed`: by cases of the instruction (`Stays`), as results of operators and ranges on edges are ranges of words.
use Rattle.transfer.proofs.Stays.{transfer_keeps_well_formed}
use Rattle.transfer.proofs.laws.transfer_keeps_well_formed.Goals as goal

pub returns : goal.returns
returns c =
    transfer_keeps_well_formed (record {
      results = record { wide = c.results_are_words.ensures.wide; narrow = c.results_are_words.ensures.narrow };
      edges = record { wide = c.edges_are_words.ensures.wide; narrow = c.edges_are_words.ensures.narrow };
    })
