-- `one_instruction`: equal written forms are of equal instructions, since each instruction can be read back from its form (`one_insn`).
use Rattle.text_line.proofs.Written.{one_insn}
use Rattle.text_line.proofs.laws.one_instruction.Goals as goal

pub returns : goal.returns
returns c = one_insn
