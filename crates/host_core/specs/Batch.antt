-- A program of one tenant on many packets. This project's own.
use Rattle.std.specs.Prelude.{◌≡◌, ◌≢◌, ℕ, ℤ, pos, List, length, Option, Some, None, slice_get}
use Rattle.std.specs.List.{AllByRecursion}
use Rattle.command_frames.specs.Frame.{owner}
use Rattle.tenant.specs.Table.{named}
use Rattle.tenant.specs.declared.errno.Errno.{Errno}
use Rattle.tenant.specs.declared.errno.Errno.TheVariants.{NotPermitted}
use Rattle.tenant.specs.Batch.{BatchInput, RunsInOrder, RunsBatch, AreTestRuns, IsAllowed, batch_refusal, result_replies}
use Rattle.tenant.specs.Errno.{status_of}
use Rattle.tenant.specs.State.{TenantState}
use Rattle.host_core.specs.Handled.{Turn, frames_in, replies_in, HandlesInOrder}

-- the runs of the program at descriptor fd of a tenant on these inputs lead from its state s to
-- `after`; `written` is `room` with their results at its front. False for a tenant that is not
-- served (None)
abbrev pub RunsFor : ℕ → Option TenantState → List BatchInput → List ℕ → List ℕ → Option TenantState
    → Type 0
RunsFor fd None inputs room written after = ⊥
RunsFor fd (Some s) inputs room written after =
    (last : TenantState) × RunsBatch fd s inputs room written last × (after ≡ Some last)

-- why a batch of the program at descriptor fd is rejected, by the first fault; None if it is run.
-- The packets lie one after another in `many` bytes, and `ends` has for each the number of bytes
-- before its end; `contexts` is the number of arrays of context words, and `room` how many results
-- can be stored. NotPermitted: the tenant is not served, so has no state (None). BadDescriptor: fd
-- names nothing. Invalid: fd names a map; `room` is less than the number of packets; or `contexts`
-- is neither 1 nor this number. Of the first wrong packet: Invalid if its end is before its
-- beginning or past the `many` bytes, TooBig if it is longer than `longest_packet`
abbrev pub refusal_for : Option TenantState → ℕ → ℕ → ℕ → List ℕ → ℕ → Option Errno
refusal_for None fd contexts many ends room = Some NotPermitted
refusal_for (Some s) fd contexts many ends room =
    batch_refusal (named s.objects fd) contexts many ends room

-- n of the `packets` packets of a batch at descriptor fd may run within `bound`, a number of
-- instructions (`IsAllowed`): one call of the library for C runs no packet after the first n. A run
-- has a weight: the most instructions on a path of the program to an exit, plus `CALL_WEIGHT` times
-- the most calls of helpers on such a path, perhaps another one. n is `bound` divided by the weight
-- and rounded down, but at least 1, so that a caller makes progress with any bound, and then at
-- most `packets`. If `bound` is 0, which is no bound, n is `packets`; also if fd names no program,
-- or the tenant is not served, so has no state (None), since such a batch is rejected as a whole
abbrev pub IsAllowedFor : Option TenantState → ℕ → ℕ → ℕ → ℕ → Type 0
IsAllowedFor None fd bound packets n = n ≡ packets
IsAllowedFor (Some s) fd bound packets n = IsAllowed (named s.objects fd) bound packets n

-- the status of a batch of packets, by the error for which it is rejected (`refusal_for`): the
-- negated number of the error, as in a reply; 0 if there is no error (None), and then each packet
-- is run
abbrev pub batch_status : Option Errno → ℤ
batch_status None = pos 0
batch_status (Some errno) = status_of errno

-- only the state of one tenant may change
pub record ChangesTenant (tenant : ℕ) (before after : List TenantState) : Type 0 where
  pub others : (other : ℕ) → other ≢ tenant → slice_get after other ≡ slice_get before other
  pub count : length after ≡ length before

-- If a tenant runs a batch, and `frames` are frames of the tenant with the test runs of its
-- packets, then turns with these frames, which are calls of `Host::handle`, have the same effect on
-- all states, and their replies have the results of the batch.
abbrev pub BatchIsItsCalls : Type 0
BatchIsItsCalls =
    (tenant fd : ℕ) (frames : List (List ℕ)) (inputs : List BatchInput) (results : List ℕ)
    (before after : List TenantState) (s last : TenantState)
    → AllByRecursion (λ frame. owner frame ≡ tenant) frames → AreTestRuns fd frames inputs
    → slice_get before tenant ≡ Some s
    → RunsInOrder fd s inputs results last
    → slice_get after tenant ≡ Some last
    → ChangesTenant tenant before after
    → (turns : List Turn)
    × (frames_in turns ≡ frames)
    × (replies_in turns ≡ result_replies frames results)
    × HandlesInOrder before turns after
