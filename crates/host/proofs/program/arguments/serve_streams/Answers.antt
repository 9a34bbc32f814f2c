-- `serve_streams`: by its contract `serve_frames` fails only with a fault of serving a stream, and none of these has exit status 2.
use Rattle.host.proofs.OtherFailures.{served_otherwise}
use Rattle.host.proofs.program.arguments.serve_streams.Goals as goal

pub returns : goal.returns
returns g c = served_otherwise _ _ _ c.serve_frames.ensures
