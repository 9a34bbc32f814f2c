-- `read_line`: if the line has tokens, its reading is what `line_of` makes of them, or none, by the contracts of `tokens` and `line_of`,
-- and since a line has at most one list of tokens (`read_as`).
use Rattle.std.proofs.Common.{List, sym, subst}
use Rattle.text_line.specs.declared.token.Token.{Token as CodeToken}
use Rattle.text_line.specs.Token.{IsTokens}
use Rattle.text_line.specs.inside.Shown.{shown_tokens}
use Rattle.text_line.specs.Shown.{seen_line}
use Rattle.std.specs.Prelude.{option_map}
use Rattle.text_line.proofs.Read.{read_as}
use Rattle.text_line.proofs.reader.read_line.Goals as goal

pub returns-in-Some : goal.returns-in-Some
returns-in-Some c =
    let found = rw c.in-Some.is at c.in_ok-tokens.ensures.found in
    let tokens : IsTokens c.args.line.now (shown_tokens c.deref.result.now) =
    subst (λ (ts : List CodeToken). IsTokens c.args.line.now (shown_tokens ts)) (sym c.deref.ensures.value) found in
    read_as c.args.line.now (shown_tokens c.deref.result.now)
    (option_map seen_line c.line_of.result) tokens c.line_of.ensures
