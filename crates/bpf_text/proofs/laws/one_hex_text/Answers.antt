-- `one_hex_text`: by `IsHexText` both lists are the bytes of the slots on the text's lines, so they are equal.
use Rattle.std.proofs.Common.{sym, ◌∙◌}
use Rattle.bpf_text.proofs.laws.one_hex_text.Goals as goal

pub returns : goal.returns
returns c = λ text a b h k. h.bytes_are ∙ sym k.bytes_are
