-- `symbol`: by cases of the length that `symbol_len` returns. If it is 0, no symbol is at the front, as none is empty; else the text is
-- split after the symbol that `symbol_at` finds.
use Rattle.std.proofs.Common.{◌≡◌, List, ℕ, drop, arith, ap, sym, Option, option_map, length}
use Rattle.std.specs.Option.{option_map_or}
use Rattle.text_line.specs.Token.{symbol}
use Rattle.text_line.specs.inside.Tokens.{symbol_at}
use Rattle.text_line.proofs.Tokens.{no_symbol, symbol_found}
use Rattle.text_line.proofs.token.symbol.Goals as goal

pub returns-then-len-eq0-clause-value : goal.returns-then-len-eq0-clause-value
returns-then-len-eq0-clause-value c =
    let text : List ℕ = c.args.text.now in
    let len : c.symbol_len-len.result ≡ option_map_or length (symbol_at text) 0 = cc in
    sym (ap (λ (o : Option (List ℕ)). option_map (λ s. (symbol s, drop (length s) text)) o)
    (no_symbol text c.symbol_len-len.result len (omega arith)))

pub returns-clause-value : goal.returns-clause-value
returns-clause-value c =
    let text : List ℕ = c.args.text.now in
    let len : c.symbol_len-len.result ≡ option_map_or length (symbol_at text) 0 = cc in
    symbol_found text c.symbol_len-len.result c.split_at.result.0.now c.split_at.result.1.now len
    (omega arith) c.split_at.ensures.front c.split_at.ensures.back
