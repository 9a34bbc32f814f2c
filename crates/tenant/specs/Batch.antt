-- A program on many packets: the test runs of the packets, one after another. Packets are counted
-- from 0. This project's own.
use Rattle.std.specs.Prelude.{◌≡◌, ◌≢◌, ℕ, ◌+◌, ◌*◌, ◌/◌, max, min, pos, nat_lt, List, [], ◌∷◌}
use Rattle.std.specs.Prelude.{◌++◌, length, drop, Option, Some, None, option_map, Ok, if◌then◌else◌}
use Rattle.byteorder.specs.Endian.{little_bytes}
use Rattle.command_frames.specs.Command.{prog_test_run, parsed}
use Rattle.command_frames.specs.Frame.{reply_to}
use Rattle.fd_table.specs.Table.{named}
use Rattle.flat_machine.specs.declared.packets.PacketFault.{PacketFault}
use Rattle.flat_machine.specs.declared.packets.PacketFault.TheVariants.{Contexts, Outside, TooLong}
use Rattle.flat_machine.specs.Packets.{batch_fault}
pub use Rattle.flat_machine.specs.Packets.{BatchInput, packets_in, inputs_of, are_contexts}
use Rattle.verifier.specs.Cost.{IsCostOf}
use Rattle.verifier.specs.declared.cost.Cost.{Cost}
use Rattle.tenant.specs.declared.batch.TheConstants.{CALL_WEIGHT}
use Rattle.tenant.specs.declared.errno.Errno.{Errno}
use Rattle.tenant.specs.declared.errno.Errno.TheVariants.{TooBig, BadDescriptor, Invalid}
use Rattle.tenant.specs.declared.object.OpenObject.{OpenObject}
use Rattle.tenant.specs.declared.object.OpenObject.TheVariants as object
use Rattle.tenant.specs.Alone.{AloneWithRefusals}
use Rattle.tenant.specs.Machine.{gives, refuses, run_of, longest_packet}
use Rattle.tenant.specs.State.{TenantState}

-- ---- the runs

-- The test runs of the program at descriptor fd on these inputs, one after another, succeed with
-- these results, one for each input, and lead from the state `before` to the state `after`.
unfoldable pub RunsInOrder : ℕ → TenantState → List BatchInput → List ℕ → TenantState → Type 0
RunsInOrder fd before [] [] after = after ≡ before
RunsInOrder fd before (input ∷ inputs) (result ∷ results) after =
    (between : TenantState) × (gives (little_bytes 4 result) between
    ≡ run_of before input.words input.packet (named before.objects fd))
    × RunsInOrder fd between inputs results after
RunsInOrder fd before [] (result ∷ results) after = ⊥
RunsInOrder fd before (input ∷ inputs) [] after = ⊥

-- the test runs of the program at descriptor fd on these inputs lead from `before` to `after`.
-- Their results are written to the front of the list `room`, whose rest is unchanged: `written` is
-- this list afterwards
abbrev pub RunsBatch : ℕ → TenantState → List BatchInput → List ℕ → List ℕ → TenantState → Type 0
RunsBatch fd before inputs room written after =
    (results : List ℕ)
    × RunsInOrder fd before inputs results after
    × (written ≡ results ++ drop (length results) room)

-- ---- the refusals

-- the error of a test run or a batch because of its descriptor, by the object that the descriptor
-- names: `BadDescriptor` if it names none (None), `Invalid` if it names a map. The result is None,
-- no error, if it names a program: only then an error because of a packet may be returned
abbrev pub object_refusal : Option OpenObject → Option Errno
object_refusal None = Some BadDescriptor
object_refusal (Some (object.Map handle)) = Some Invalid
object_refusal (Some (object.Program l)) = None

-- why a program is not run on a packet of this length, in bytes; None if it is
abbrev pub length_refusal : ℕ → Option Errno
length_refusal size = if nat_lt longest_packet size then Some TooBig else None

-- the refusal by two tests, one after the other: the first test's, or the second test's if the
-- first refuses nothing (None); None if neither refuses
abbrev pub else_refusal : Option Errno → Option Errno → Option Errno
else_refusal None later = later
else_refusal (Some errno) later = Some errno

-- the error of the test run, on a packet of this length, of what a descriptor names; None if it is
-- a program and the packet is not too long
abbrev pub run_refusal : Option OpenObject → ℕ → Option Errno
run_refusal o size = else_refusal (object_refusal o) (length_refusal size)

-- the error of a batch whose packets are refused for this fault
abbrev pub packet_errno : PacketFault → Errno
packet_errno Contexts = Invalid
packet_errno Outside = Invalid
packet_errno TooLong = TooBig

-- Why packets with these ends in `many` bytes are refused, with so many arrays of words
-- (`contexts`) and room for so many results: there is room for fewer results than packets; there is
-- neither one array of words nor one for each packet; or a packet is outside, or too long. None if
-- they are not.
abbrev pub packets_refusal : ℕ → ℕ → List ℕ → ℕ → Option Errno
packets_refusal contexts many ends room =
    if nat_lt room (length ends)
    then Some Invalid
    else option_map packet_errno (batch_fault contexts many ends)

-- Why a batch is rejected, before the first packet: what is named is no program; there is room for
-- fewer results than packets; there is neither one context nor one for each packet; or a packet is
-- outside the bytes, or too long. None if it is run. The packets have these `ends` in `many` bytes;
-- `contexts` is the number of arrays of words, `room` how many results can be stored.
abbrev pub batch_refusal : Option OpenObject → ℕ → ℕ → List ℕ → ℕ → Option Errno
batch_refusal o contexts many ends room =
    else_refusal (object_refusal o) (packets_refusal contexts many ends room)

-- ---- the bound

-- what a run counts for in the bound of a batch: the most instructions that a run of the program
-- executes, and CALL_WEIGHT for each of the most calls of helpers that it makes
abbrev pub run_weight : Cost → ℕ
run_weight cost = cost.instructions + CALL_WEIGHT * cost.calls

-- The number of packets that a bound other than 0 allows a batch of so many, if a run counts for
-- `cost`: as many runs as fit, at least one, but no more than there are packets.
abbrev pub allowed : ℕ → ℕ → ℕ → ℕ
allowed bound cost packets = min packets (max 1 (bound / cost))

-- of the `packets` packets of a batch, n may be run under `bound`, a number of instructions other
-- than 0 (`IsAllowed` has the case 0, no bound). The first argument is what the batch's descriptor
-- names. If that is nothing (None) or a map, n is `packets`: the bound excludes no packet, and the
-- batch is rejected for its descriptor instead. If it is a program l, n is `bound` divided by the
-- weight of a run and rounded down, but at least 1, so that a caller makes progress with any bound,
-- and then at most `packets` (`allowed`). The weight (`run_weight`) is the most instructions on a
-- path of l from slot 0 to an exit, plus `CALL_WEIGHT` for each of the most calls of helpers on
-- such a path (`cost`, by `IsCostOf`): a call may take as long as `CALL_WEIGHT` instructions
abbrev pub IsAllowedBy : Option OpenObject → ℕ → ℕ → ℕ → Type 0
IsAllowedBy None bound packets n = n ≡ packets
IsAllowedBy (Some (object.Map handle)) bound packets n = n ≡ packets
IsAllowedBy (Some (object.Program l)) bound packets n =
    (cost : Cost) × IsCostOf cost l.insns × (n ≡ allowed bound (run_weight cost) packets)

-- of the `packets` packets of a batch at a descriptor that names o, the bound allows n: all if it
-- is 0, else as many as `IsAllowedBy` says
abbrev pub IsAllowed : Option OpenObject → ℕ → ℕ → ℕ → Type 0
IsAllowed o bound packets n =
    (bound ≡ 0 → n ≡ packets) × (bound ≢ 0 → IsAllowedBy o bound packets n)

-- ---- laws

-- each of these frames carries the test run of the program at descriptor fd on the input at its
-- index, and there are as many frames as inputs
abbrev pub AreTestRuns : ℕ → List (List ℕ) → List BatchInput → Type 0
AreTestRuns fd [] [] = Unit {0}
AreTestRuns fd (frame ∷ frames) (input ∷ inputs) =
    (parsed frame ≡ Ok (prog_test_run fd input.words input.packet)) × AreTestRuns fd frames inputs
AreTestRuns fd [] (input ∷ inputs) = ⊥
AreTestRuns fd (frame ∷ frames) [] = ⊥

-- the replies to a list of frames, if each frame is a test run that succeeds with the result that a
-- second list has at the frame's index: each reply has status 0, and the result in four bytes,
-- little-endian. Frames without a result, and results without a frame, give no reply. The laws of
-- batches, which use these replies, have neither: frames (`AreTestRuns`) and results
-- (`RunsInOrder`) are as many as the batch's inputs
abbrev pub result_replies : List (List ℕ) → List ℕ → List (List ℕ)
result_replies [] results = []
result_replies (frame ∷ frames) [] = []
result_replies (frame ∷ frames) (result ∷ results) =
    reply_to frame (pos 0) (little_bytes 4 result) ∷ result_replies frames results

-- if frames are the test runs of the inputs of a batch, the machine may reply to them with the
-- batch's results, one after another, and they lead to the state after the batch
abbrev pub BatchIsItsFrames : Type 0
BatchIsItsFrames =
    (fd : ℕ) (frames : List (List ℕ)) (inputs : List BatchInput) (results : List ℕ)
    (before after : TenantState)
    → AreTestRuns fd frames inputs
    → RunsInOrder fd before inputs results after
    → AloneWithRefusals (Some before) frames (result_replies frames results) (Some after)

-- if a run on a packet is refused with an error (`run_refusal`), the test-run command on this
-- packet returns the same error, and changes nothing
abbrev pub RefusedAsItsFrame : Type 0
RefusedAsItsFrame =
    (s : TenantState) (fd : ℕ) (words packet : List ℕ) (errno : Errno)
    → run_refusal (named s.objects fd) (length packet) ≡ Some errno
    → refuses errno s ≡ run_of s words packet (named s.objects fd)

-- runs of a program on packets have as many results as there are packets
abbrev pub OneResultEach : Type 0
OneResultEach =
    (fd : ℕ) (inputs : List BatchInput) (results : List ℕ) (before after : TenantState)
    → RunsInOrder fd before inputs results after
    → length results ≡ length inputs
