-- `number`: the text after `0x` is ASCII, as `value` requires, since each rest of an ASCII text is.
use Rattle.std.proofs.Common.{◌≡◌, List, ℕ, drop, subst}
use Rattle.std.specs.Str.{IsAscii}
use Rattle.std.proofs.lemmas.Str.{IsAscii-drop}
use Rattle.text_line.proofs.token.number.Goals as goal

pub value-requires-clause-ascii : goal.value-requires-clause-ascii
value-requires-clause-ascii c =
    let rest : drop 2 c.args.text.now ≡ c.split_at.result.1.now = cc in
    subst (λ (t : List ℕ). IsAscii t) rest (IsAscii-drop c.args.text.now 2 c.requires)
