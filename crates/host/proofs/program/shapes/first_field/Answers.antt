-- `first_field`: `split_once` cuts the text at its first colon, so into the first field and the text of the other fields; a text that it
-- does not cut has no colon, and so is one field.
use Rattle.std.proofs.Common.{lit<}
use Rattle.std.proofs.lemmas.Str.Pattern.{split_once_first}
use Rattle.host.specs.program.Shapes.{colon}
use Rattle.host.proofs.MapArguments.{first_cut, no_cut}
use Rattle.host.proofs.program.shapes.first_field.Goals as goal

pub returns-clause-first : goal.returns-clause-first
returns-clause-first c =
    first_cut c.args.text.now c.split_once.result
    (split_once_first colon c.args.text.now c.split_once.result c.split_once.ensures.cases (lit< tt))

pub returns-clause-last : goal.returns-clause-last
returns-clause-last c =
    no_cut c.args.text.now c.split_once.result
    (split_once_first colon c.args.text.now c.split_once.result c.split_once.ensures.cases (lit< tt))
