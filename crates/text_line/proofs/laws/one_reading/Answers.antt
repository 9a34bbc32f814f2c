-- `one_reading`: two readings of a line are equal, since a line has at most one list of tokens, and tokens give one line (`same_line`).
use Rattle.text_line.proofs.Read.{same_line}
use Rattle.text_line.proofs.laws.one_reading.Goals as goal

pub returns : goal.returns
returns c = same_line
