-- The machine's results that the code's replies represent. This project's own.
use Rattle.std.specs.Prelude.{◌≡◌, ◌≢◌, ℕ, ◌+◌, ◌<◌, ◌≤◌, ◌^◌, List, [], length, Result, Ok, Err}
use Rattle.byteorder.specs.Endian.{little_bytes}
use Rattle.bpf_maps.specs.KeyRef.{key_bytes}
use Rattle.command_frames.specs.declared.command.Head.{Head}
use Rattle.command_frames.specs.Frame.{longest_payload, reply_bytes}
use Rattle.fd_table.specs.Table.{first_descriptor, most}
use Rattle.tenant.specs.declared.errno.Errno.{Errno}
use Rattle.tenant.specs.declared.errno.Errno.TheVariants.{BadAddress}
use Rattle.tenant.specs.declared.reply.Reply.{Reply}
use Rattle.tenant.specs.declared.reply.Reply.TheVariants as reply
use Rattle.tenant.specs.State.{TenantState}
use Rattle.tenant.specs.Machine.{Answer, gives, opens, refuses, refuses_load}

-- what a command's result in the code, a reply (Ok) or an error (Err), is in the machine: a status,
-- a payload, and s, the state after the command. Done has status 0 without payload. Opened has the
-- new descriptor as status, without payload. Value, Key and Number have status 0, and as payload
-- the bytes of the value or of the key, or the number in four bytes. Refused, a rejected load, has
-- a negated error number as status, and as payload the slot, in four bytes, and the number of the
-- cause, in two. An error has its negated number as status, without payload
abbrev pub shown_reply : Result Reply Errno → TenantState → Answer
shown_reply (Ok reply.Done) s = gives [] s
shown_reply (Ok (reply.Opened fd)) s = opens fd s
shown_reply (Ok (reply.Value value)) s = gives value.now s
shown_reply (Ok (reply.Key key)) s = gives (key_bytes key) s
shown_reply (Ok (reply.Number number)) s = gives (little_bytes 4 number) s
shown_reply (Ok (reply.Refused refusal)) s = refuses_load refusal s
shown_reply (Err errno) s = refuses errno s

-- the result of a command can be written as a reply, as `write_command_reply` requires. A new
-- descriptor fd (Opened), which is the status, is less than `first_descriptor + most`. A value or a
-- key, which is the payload, has at most `longest_payload` bytes. The slot at which a load is
-- rejected (Refused) is less than 2 ^ 32, since the payload has four bytes for it. Nothing is
-- required of Done, which has no payload, or of Number, which has 32 bits by its type. An error
-- (Err) is not BadAddress, the error of a run that faults, so no reply reports a fault
abbrev pub IsWritable : Result Reply Errno → Type 0
IsWritable (Ok reply.Done) = Unit {0}
IsWritable (Ok (reply.Opened fd)) = fd < first_descriptor + most
IsWritable (Ok (reply.Value value)) = length value.now ≤ longest_payload
IsWritable (Ok (reply.Key key)) = length (key_bytes key) ≤ longest_payload
IsWritable (Ok (reply.Number number)) = Unit {0}
IsWritable (Ok (reply.Refused refusal)) = refusal.slot < 2 ^ 32
IsWritable (Err errno) = errno ≢ BadAddress

-- the reply has the tenant and command number of a frame's head, and a result's status and payload
abbrev pub Writes : Head → List ℕ → Answer → Type 0
Writes head reply a = reply ≡ reply_bytes head.tenant head.command a.status a.payload
