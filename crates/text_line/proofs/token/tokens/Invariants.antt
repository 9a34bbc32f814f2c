-- `tokens`: the rest is ASCII, and the tokens of the line are those so far and then those of the rest: each list of tokens of the rest
-- completes one of the line, and each of the line is completed so. Each turn makes the rest shorter.
use Rattle.std.proofs.Common.{◌≡◌, ◌++◌, List, length}
use Rattle.std.specs.Str.{IsAscii}
use denote.Shadow.{shadow}
use denote.Text.{Utf8}
use Rattle.text_line.specs.Token.{Token, HasTokens}
use Rattle.text_line.specs.inside.Shown.{shown_tokens}
use Rattle.text_line.proofs.token.tokens.Given as goal

abbrev pub invariant-loop-text : goal.invariant-loop-text
invariant-loop-text l = record {
  is_text : shadow (Utf8 l.rest);
  ascii : IsAscii l.rest;
  whole : (ts : List Token) → HasTokens l.rest ts → HasTokens l.line (shown_tokens l.tokens.items ++ ts);
  only : (ts : List Token)
      → HasTokens l.line ts
      → (us : List Token) × (ts ≡ shown_tokens l.tokens.items ++ us) × HasTokens l.rest us;
}

abbrev pub decreases-loop-text : goal.decreases-loop-text
decreases-loop-text l = length l.rest
