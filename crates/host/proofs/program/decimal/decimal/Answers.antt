-- `decimal`: `parse` of decimal digits returns their value, or fails if there is no digit or the value is too large.
use Rattle.std.proofs.Common.{rules, ◌∙◌}
use Rattle.host.proofs.Digits.{parsed_digits}
use Rattle.host.proofs.program.decimal.decimal.Goals as goal

pub returns : goal.returns
returns c = c.ok.ensures.value ∙ parsed_digits c.args.digits.now _ c.parse.ensures.value.0 (search rules)
