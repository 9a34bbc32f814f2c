-- The births after a command that opens an object. This project's own.
use Rattle.std.specs.Prelude.{List, Option, Result, Ok}
use Rattle.fd_table.specs.Table.{named}
use Rattle.tenant.specs.declared.errno.Errno.{Errno}
use Rattle.tenant.specs.declared.object.OpenObject.{OpenObject}
use Rattle.tenant.specs.declared.reply.Reply.{Reply}
use Rattle.tenant.specs.declared.reply.Reply.TheVariants as reply
use Rattle.saving.specs.Births.{Birth, with_birth}

-- the births, the latest first, after MAP_CREATE, PROG_LOAD or an install, given those before it
-- and its result, a reply or an error. If the reply is the descriptor of a new object (`Opened`),
-- the birth of this object is added in front; after any other result, or without an object at the
-- descriptor, they are unchanged. `objects` are the open objects by descriptor, after the command.
-- The contract of `Births::note` needs this, since the code has the reply, not yet its status, by
-- which `with_opened` defines equal births
abbrev pub births_after_reply : Result Reply Errno → List (Option OpenObject)
    → List Birth → List Birth
births_after_reply (Ok (reply.Opened fd)) objects births = with_birth fd (named objects fd) births
births_after_reply r objects births = births
