-- `keep_living`: `retain` filters the births by the result of `lives`, which by its contract is that of the state for any bytes of the
-- part. Contracts see them reversed: to filter and then reverse is to reverse and then filter (`filter-reverse`).
use Rattle.std.proofs.Common.{◌≡◌, List, reverse, filter, rules, ap, ◌∙◌}
use Rattle.std.proofs.lemmas.Fn.{filter_same}
use Rattle.tenant.specs.Kept.{state_in}
use Rattle.saving.specs.Births.{Birth, lives}
use Rattle.saving.proofs.Recorded.{filter-reverse}
use Rattle.saving.proofs.birth.Births.keep_living.Goals as goal

pub returns : goal.returns
returns c = λ part.
    let s = state_in part c.args.tenant.now in
    let kept : c.retain.new.self.items ≡ filter (lives s) c.self.inside.oldest_first.items =
    filter_same _ (lives s) _ (λ x b f' k. search rules) _ _ c.retain.ensures.filtered in
    ap (λ (bs : List Birth). reverse bs) kept
    ∙ filter-reverse (lives s) c.self.inside.oldest_first.items
    ∙ ap (filter (lives s)) c.self.view_is
