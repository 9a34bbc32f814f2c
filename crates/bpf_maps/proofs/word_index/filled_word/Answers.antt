-- `filled_word`: the eight bytes are those of the key and then zeros, which add nothing to the number (`zeros_behind`).
use Rattle.std.proofs.Common.{ℕ, List, ◌-◌, ◌++◌, length, drop, replicate, ◌∙◌, ap}
use Rattle.std.proofs.lemmas.List.{drop-replicate}
use Rattle.words.specs.Bytes.{number_of}
use Rattle.bpf_maps.proofs.WordKeys.{zeros_behind}
use Rattle.bpf_maps.proofs.word_index.filled_word.Goals as goal

pub returns : goal.returns
returns c =
    let key = c.args.key.now in
    c.eight_bytes.ensures
    ∙ ap (λ (bytes : List ℕ). number_of (bytes ++ drop (length key) (replicate 8 0))) c.copy_from_slice.ensures.after
    ∙ ap (λ (bytes : List ℕ). number_of (key ++ bytes)) (drop-replicate (length key) 8 0)
    ∙ zeros_behind key (8 - length key)
