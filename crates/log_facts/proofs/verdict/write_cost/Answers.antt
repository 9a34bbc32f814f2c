-- `write_cost`: the bytes that `writeln!` appends, by its contract, are the line of the cost.
use Rattle.log_facts.proofs.verdict.write_cost.Goals as goal

pub returns : goal.returns
returns c = c.writeln.ensures.bytes
