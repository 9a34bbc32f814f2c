-- `printed_text_is_assembled`: by the laws of `text_line` each instruction's line is read as its form, whose numbers are in range, so the
-- text assembles to the program (`printed_is`).
use Rattle.bpf_text.proofs.TextLaws.{printed_is}
use Rattle.bpf_text.proofs.laws.printed_text_is_assembled.Goals as goal

pub returns : goal.returns
returns c = printed_is c.written_in_range.ensures c.printed_is_read.ensures
