-- `rewrite_streams`: by cases of what stops `rewrite` (no input, no memory, a rejected input, a failed write) no failure has exit status 2.
use Rattle.std.proofs.lemmas.Result.{IfErr-weaker}
use Rattle.host.proofs.OtherFailures.{refused_otherwise, stops_otherwise}
use Rattle.host.proofs.program.arguments.rewrite_streams.Goals as goal

pub returns : goal.returns
returns g c =
    IfErr-weaker c.rewrite.result _ _
    (λ failure stops. stops_otherwise _ _ (refused_otherwise c.args.task) _ _ failure stops)
    c.rewrite.ensures.fault
