-- The token that each token of the code represents. This project's own.
use Rattle.std.specs.Prelude.{ℕ, List, map, Option, option_map}
use Rattle.std.specs.Borrow.{Bor}
use Rattle.text_line.specs.declared.token.Token.{Token as CodeToken}
use Rattle.text_line.specs.declared.token.Token.TheVariants as code
use Rattle.text_line.specs.Token.{Token, name, number, symbol}

-- the token of the specifications (`Token`) that a token of the code (`CodeToken`) represents. A
-- name or a symbol, which the code borrows from the line, becomes the list of its bytes (`now`). A
-- number has an equal v in both: its value, or None if that is 2 ^ 64 or more
abbrev pub shown : CodeToken → Token
shown (code.Name n) = name n.now
shown (code.Number v) = number v
shown (code.Symbol s) = symbol s.now

-- the tokens that those of the code represent
abbrev pub shown_tokens : List CodeToken → List Token
shown_tokens ts = map shown ts

-- the token that a token of the code represents, and the text after it; `None` if the code found no
-- token
abbrev pub shown_front : Option (CodeToken × Bor (List ℕ)) → Option (Token × List ℕ)
shown_front r = option_map (λ p. (shown p.0, p.1.now)) r
