-- `tokens`: if the rest is empty or a comment, the tokens so far are all; if no token is at its front, the line has no tokens. Otherwise
-- the token at its front, by the contract of `first_token`, is the next one of each list of tokens of the line.
use Rattle.std.proofs.Common.{◌≡◌, List, ℕ, [], true, false, sym, ap, ◌∙◌, append-nil, subst}
use Rattle.std.proofs.lemmas.Str.{IsUtf8-from_ascii}
use Rattle.text_line.specs.Blanks.{skip_blanks}
use Rattle.text_line.specs.Token.{Token, is_over, HasTokens}
use Rattle.text_line.specs.inside.Tokens.{token_at}
use Rattle.text_line.specs.inside.Shown.{shown, shown_tokens}
use Rattle.text_line.proofs.Tokens.{no_tokens, whole_more, only_more, shown_more}
use Rattle.text_line.proofs.token.tokens.Goals as goal

pub returns-then-is_over-clause-found : goal.returns-then-is_over-clause-found
returns-then-is_over-clause-found c =
    let l = c.loop-text in
    let over : is_over (skip_blanks l.rest.now) ≡ true = cc in (
      c.if-not-is_ascii.ensures.cases,
      subst (λ (ts : List Token). HasTokens c.args.line.now ts)
          (append-nil (shown_tokens l.tokens.items)) (l.invariant.whole [] over),
    )

pub returns-in_default-clause-none : goal.returns-in_default-clause-none
returns-in_default-clause-none c = λ ts h.
    let l = c.loop-text in
    let some : is_over (skip_blanks l.rest.now) ≡ false = cc in
    let u = l.invariant.only ts h.1 in
    no_tokens l.rest.now u.0 some
    (sym (ap token_at c.after_blanks-text.ensures.value) ∙ sym c.in_default.ensures.value)
    u.2

pub loop-text-preserved : goal.loop-text-preserved
loop-text-preserved c =
    let l = c.loop-text in
    let line : List ℕ = c.args.line.now in
    let text : List ℕ = c.after_blanks-text.result.now in
    let after : List ℕ = c.in-Some.after.now in
    let t : Token = shown c.in-Some.token in
    let new = shown_more l.tokens.items c.push.new.self.items c.in-Some.token c.in_ok-push.ensures.items in
    let some : is_over text ≡ false = cc in
    record {
      is_text = IsUtf8-from_ascii after c.in-Some.ensures.ascii;
      ascii = c.in-Some.ensures.ascii;
      whole =
          whole_more line l.rest.now text after t (shown_tokens l.tokens.items)
          (shown_tokens c.push.new.self.items) c.after_blanks-text.ensures.value
          c.in-Some.ensures.value new l.invariant.whole;
      only =
          only_more line l.rest.now text after t (shown_tokens l.tokens.items)
          (shown_tokens c.push.new.self.items) c.after_blanks-text.ensures.value
          some c.in-Some.ensures.value new l.invariant.only;
    }
