-- `hex_lines_are_read`: a program is spelled in bytes, eight for each slot, so its hex lines are read as its slots (`hex_lines_is`).
use Rattle.bpf_text.proofs.ProgramBytes.{hex_lines_is}
use Rattle.bpf_text.proofs.laws.hex_lines_are_read.Goals as goal

pub returns : goal.returns
returns c = hex_lines_is
