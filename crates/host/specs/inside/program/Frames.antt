-- The end of the subcommand `serve`. This project's own.
use Rattle.std.specs.Prelude.{◌≡◌, ℕ, List, Result, Ok, Err}
use Rattle.host_core.specs.declared.server.ServeFault.{ServeFault}
use Rattle.host_core.specs.Limits.{most_frames}
use Rattle.host_core.specs.Served.{StreamState, ServesStream}
use Rattle.host_core.specs.State.{TenantState}
use Rattle.host.specs.declared.program.failure.Failure.{Failure}
use Rattle.host.specs.program.Statuses.{stream_failure}

-- the result of `serve_frames`, from that of `serve_new_host`, which it calls. `Ok count`: the
-- stream was served to its end, and `count` frames got replies; `serve_frames` returns Ok without
-- this number. `Err fault`: the stream was not served to its end, because of `fault`;
-- `serve_frames` returns the failure of the program for this fault (`stream_failure`)
abbrev pub stream_end : Result ℕ ServeFault → Result (Unit {0}) Failure
stream_end (Ok count) = Ok tt
stream_end (Err fault) = Err (stream_failure fault)

-- A new host serves the stream from `before` on, at most `most_frames` frames; `after` is the state
-- after it, as a function of the states of the tenants. `result` is what `serve_frames` returns.
abbrev pub ServesNewHost : Result (Unit {0}) Failure → StreamState
    → (List TenantState → StreamState) → Type 0
ServesNewHost result before after =
    (served : Result ℕ ServeFault) × (states : List TenantState)
    × ServesStream most_frames served before (after states) × (result ≡ stream_end served)
