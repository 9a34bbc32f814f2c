-- `printed_is_read`: the printed text of an instruction is read as its written form, whose numbers fit by the law `written_in_range`.
use Rattle.text_line.proofs.Printed.{printed}
use Rattle.text_line.proofs.laws.printed_is_read.Goals as goal

pub returns : goal.returns
returns c = λ i h. printed i h (c.written_in_range.ensures i h)
