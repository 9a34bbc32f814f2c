-- `hex_slots_are_read`: by induction over the slots, each line is read as its eight bytes, and none has a fault (`hex_text_is_read`).
use Rattle.bpf_text.proofs.HexLaw.{hex_text_is_read}
use Rattle.bpf_text.proofs.laws.hex_slots_are_read.Goals as goal

pub returns : goal.returns
returns c = λ slots bytes fit len some room. hex_text_is_read slots bytes fit len some room
