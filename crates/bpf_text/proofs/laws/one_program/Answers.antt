-- `one_program`: by the laws of `text_line` a line has one reading and a form one instruction, so two programs of a text are equal, by
-- induction over their instructions (`one_program_is`).
use Rattle.bpf_text.proofs.TextLaws.{one_program_is}
use Rattle.bpf_text.proofs.laws.one_program.Goals as goal

pub returns : goal.returns
returns c = one_program_is c.one_reading.ensures c.one_instruction.ensures
