-- `of_word` of `Elements`: the halves of a shape's word are the shape's count and stride (`elements_from`); a shape whose count is not 0 is
-- that of an array, and so has keys of the size of an index.
use Rattle.std.proofs.Common.{ℕ, ap₂, ◌∙◌}
use Rattle.bpf_maps.specs.declared.elements.Elements.{Elements}
use Rattle.bpf_maps.proofs.ElementAddresses.{elements_from, shape_key_size}
use Rattle.bpf_maps.proofs.elements.Elements.of_word.Goals as goal

pub returns-clause-elements : goal.returns-clause-elements
returns-clause-elements c shape is =
    let (count, stride) = elements_from shape c.args.word is in
    ap₂ (λ (n s : ℕ). let e : Elements = record { count = n; stride = s } in e) count stride

pub returns-clause-size : goal.returns-clause-size
returns-clause-size c shape is some =
    let (count, stride) = elements_from shape c.args.word is in
    shape_key_size shape (λ none. some (count ∙ none))
