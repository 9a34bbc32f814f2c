-- A reply that may be written is not the reply to a run that faults.
use Rattle.std.proofs.Common.{Result, Ok, Err, ◌≡◌, ◌≢◌, ℕ, ◌<◌, ◌%◌, List, [], refl, sym, ap, ◌∙◌, arith, get_or}
use Rattle.std.specs.Prelude.{ℤ, pos}
use Rattle.std.specs.Int.{w32, cast_unsigned}
use Rattle.byteorder.specs.Endian.{little_bytes}
use Rattle.command_frames.specs.declared.command.Head.{Head}
use Rattle.command_frames.specs.Frame.{reply_bytes}
use Rattle.tenant.specs.declared.errno.Errno.{Errno}
use Rattle.tenant.specs.declared.errno.Errno.TheVariants.{NotPermitted, NoEntry, TooBig, BadDescriptor, NoMemory}
use Rattle.tenant.specs.declared.errno.Errno.TheVariants.{AccessDenied, BadAddress, Exists, Invalid, TooManyOpen, NoSpace}
use Rattle.tenant.specs.declared.reply.Reply.{Reply}
use Rattle.tenant.specs.declared.reply.Reply.TheVariants as reply
use Rattle.tenant.specs.Errno.{status_of}
use Rattle.tenant.specs.Machine.{Answer}
use Rattle.tenant.specs.Replies.{shown_reply, IsWritable, Writes}
use Rattle.tenant.specs.State.{TenantState}

-- the lowest byte of a status
abbrev low : ℤ → ℕ
low status = get_or (little_bytes 4 (cast_unsigned w32 status)) 0 0

-- the lowest byte of the status of a fault is 242, and no other error has it
abbrev IsOther : ℤ → Type 0
IsOther status = low status ≢ 242

other_errno : (errno : Errno) → errno ≢ BadAddress → IsOther (status_of errno)
other_errno NotPermitted apart e = let wrong : 255 ≡ 242 = e in absurd (omega (arith, wrong))
other_errno NoEntry apart e = let wrong : 254 ≡ 242 = e in absurd (omega (arith, wrong))
other_errno TooBig apart e = let wrong : 249 ≡ 242 = e in absurd (omega (arith, wrong))
other_errno BadDescriptor apart e = let wrong : 247 ≡ 242 = e in absurd (omega (arith, wrong))
other_errno NoMemory apart e = let wrong : 244 ≡ 242 = e in absurd (omega (arith, wrong))
other_errno AccessDenied apart e = let wrong : 243 ≡ 242 = e in absurd (omega (arith, wrong))
other_errno BadAddress apart e = absurd (apart refl)
other_errno Exists apart e = let wrong : 239 ≡ 242 = e in absurd (omega (arith, wrong))
other_errno Invalid apart e = let wrong : 234 ≡ 242 = e in absurd (omega (arith, wrong))
other_errno TooManyOpen apart e = let wrong : 232 ≡ 242 = e in absurd (omega (arith, wrong))
other_errno NoSpace apart e = let wrong : 228 ≡ 242 = e in absurd (omega (arith, wrong))

no_zero : IsOther (pos 0)
no_zero e = let wrong : 0 ≡ 242 = e in absurd (omega (arith, wrong))

no_small_fault : (fd : ℕ) → fd < 67 → IsOther (pos fd)
no_small_fault fd small e = let wrong : fd % 256 ≡ 242 = e in absurd (omega (arith, wrong, small))

apart : (h : Head) (reply : List ℕ) (a : Answer)
    → Writes h reply a → IsOther a.status
    → reply ≢ reply_bytes h.tenant h.command (status_of BadAddress) []
apart h reply a written other e = other (ap (λ (b : List ℕ). get_or b 8 0) (sym written ∙ e))

-- the reply that is written of a writable result is not that of a fault
pub no_fault_written : (h : Head) (bytes : List ℕ) (r : Result Reply Errno) (s : TenantState)
    → IsWritable r → Writes h bytes (shown_reply r s)
    → bytes ≢ reply_bytes h.tenant h.command (status_of BadAddress) []
no_fault_written h bytes (Ok reply.Done) s writable written =
    apart h bytes (shown_reply (Ok reply.Done) s) written no_zero
no_fault_written h bytes (Ok (reply.Opened fd)) s writable written =
    apart h bytes (shown_reply (Ok (reply.Opened fd)) s) written (no_small_fault fd writable)
no_fault_written h bytes (Ok (reply.Value value)) s writable written =
    apart h bytes (shown_reply (Ok (reply.Value value)) s) written no_zero
no_fault_written h bytes (Ok (reply.Key key)) s writable written =
    apart h bytes (shown_reply (Ok (reply.Key key)) s) written no_zero
no_fault_written h bytes (Ok (reply.Number number)) s writable written =
    apart h bytes (shown_reply (Ok (reply.Number number)) s) written no_zero
no_fault_written h bytes (Ok (reply.Refused refusal)) s writable written =
    -- a reply with a payload is longer
    λ e. let wrong : 14 ≡ 8 = ap (λ (b : List ℕ). get_or b 0 0) (sym written ∙ e) in absurd (omega (arith, wrong))
no_fault_written h bytes (Err errno) s writable written =
    apart h bytes (shown_reply (Err errno) s) written (other_errno errno writable)
