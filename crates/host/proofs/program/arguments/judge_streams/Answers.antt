-- `judge_streams`: if the map arguments name maps (`maps_given`), none of them is wrong. After status 0 `judge` has read the whole input
-- and has returned no refusal, so a known input has a program that is accepted with these maps.
use Rattle.std.proofs.Common.{◌∙◌, subst, sym}
use Rattle.host.specs.program.Judging.{AcceptsIfKnown}
use Rattle.host.specs.inside.program.Asked.{texts_given}
use Rattle.host.proofs.KnownInputs.{accepts_known}
use Rattle.host.proofs.MapLists.{none_wrong}
use Rattle.host.proofs.program.arguments.judge_streams.Goals as goal

pub returns-in_err-refusal-clause-refused : goal.returns-in_err-refusal-clause-refused
returns-in_err-refusal-clause-refused g c = λ wrong.
    absurd (none_wrong (texts_given c.args.arguments) c.in_ok-maps.maps.items wrong.0 c.in_ok-maps.ensures.named wrong.1)

pub returns-clause-refused : goal.returns-clause-refused
returns-clause-refused g c = λ wrong.
    none_wrong (texts_given c.args.arguments) c.in_ok-maps.maps.items wrong.0 c.in_ok-maps.ensures.named wrong.1

pub returns-clause-accepted : goal.returns-clause-accepted
returns-clause-accepted g c = λ zero.
    subst (λ input. AcceptsIfKnown (texts_given c.args.arguments) (g.I.Read.remaining input)) c.new-reader.ensures.inner
    (accepts_known (texts_given c.args.arguments) c.in_ok-maps.maps.items c.deref.result.now
    c.in_ok-refusal.refusal _ _ c.in_ok-maps.ensures.named
    c.deref.ensures.value
    c.in_ok-refusal.ensures.done (sym c.verdict_status.ensures ∙ zero))
