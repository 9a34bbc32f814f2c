-- `serve_new_host`: without memory for the host nothing is read or written, and no frame is served.
use Rattle.host_core.proofs.Serving.{ends_unread}
use Rattle.host_core.proofs.server.serve_new_host.Goals as goal

pub returns-in_default : goal.returns-in_default
returns-in_default g c = (_, ends_unread c.args.limit _)
