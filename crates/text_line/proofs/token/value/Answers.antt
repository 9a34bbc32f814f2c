-- `value`: the parsed number is the value of the longest front of digits, or none if it is too large, by the contract of `from_str_radix`:
-- the digits are all of the radix, and the first byte is one (`value_is`).
use Rattle.std.proofs.Common.{◌≡◌, List, ℕ, take, ap, ◌∙◌, Option}
use Rattle.std.specs.List.{prefix_len}
use Rattle.text_line.specs.inside.Class.{in_class}
use Rattle.text_line.specs.Token.{number}
use Rattle.text_line.proofs.Tokens.{value_is}
use Rattle.text_line.proofs.token.value.Goals as goal

pub returns-clause-value : goal.returns-clause-value
returns-clause-value c =
    let text : List ℕ = c.args.text.now in
    let digits : c.split_at.result.0.now ≡ take (prefix_len (in_class c.args.class) text) text = cc in
    let parsed =
    value_is c.args.class c.args.radix text c.split_at.result.0.now c.from_str_radix.result
    c.requires.digits c.requires.first digits c.from_str_radix.ensures.value in
    ap (λ (o : Option ℕ). number o) (c.ok.ensures.value ∙ parsed)
