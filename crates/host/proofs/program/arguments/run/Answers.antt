-- `run`: the arguments ask for `verify` with the map arguments of the task, so after status 0 what `judge_streams` promises holds for them.
use Rattle.std.proofs.Common.{◌≡◌, Some, rules}
use Rattle.clap.specs.Walk.{texts}
use Rattle.host.specs.program.Arguments.{Verifies, asked_by_arguments}
use Rattle.host.specs.inside.program.Asked.{texts_given}
use Rattle.host.proofs.KnownInputs.{accepts_asked}
use Rattle.host.proofs.program.arguments.run.Goals as goal

pub returns-clause-accepted : goal.returns-clause-accepted
returns-clause-accepted g c =
    let seen : asked_by_arguments (texts c.args.arguments.now) ≡ Some (Verifies (texts_given c.in-Verify.maps)) =
    search rules in
    accepts_asked (texts_given c.in-Verify.maps) (asked_by_arguments (texts c.args.arguments.now))
    (g.I.Read.remaining c.args.input) c.judge_streams.result
    seen c.judge_streams.ensures.accepted
