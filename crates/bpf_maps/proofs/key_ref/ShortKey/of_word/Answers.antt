-- `of_word` of `ShortKey`: the first `length` bytes of the word, little-endian, are its low bytes (`take_low_bytes`).
use Rattle.std.proofs.Common.{take, ap, ◌∙◌}
use Rattle.bpf_maps.proofs.WordKeys.{spelled_word, take_low_bytes}
use Rattle.bpf_maps.proofs.key_ref.ShortKey.of_word.Goals as goal

pub returns : goal.returns
returns c =
    ap (take c.args.length) (c.to_le_bytes.ensures ∙ spelled_word c.args.word)
    ∙ take_low_bytes c.args.length 8 c.args.word c.requires
