-- No reply is the reply to a run that faults.
use Rattle.std.proofs.Common.{◌≡◌, ◌≢◌, ℕ, Bool, true, false, List, [], length, Option, subst, ap, arith, get_or}
use Rattle.std.specs.Prelude.{nat_lt, if◌then◌else◌}
use Rattle.command_frames.specs.Frame.{reply_to}
use Rattle.tenant.specs.declared.errno.Errno.TheVariants.{BadAddress, NotPermitted, Invalid}
use Rattle.tenant.specs.Alone.{MayReply, IsFault}
use Rattle.tenant.specs.Errno.{status_of}
use Rattle.tenant.specs.Laws.{FaultsHaveNoPayload}
use Rattle.tenant.specs.State.{TenantState}

-- the lowest byte of these statuses is not that of a fault
other_status : (short : Bool) (frame : List ℕ)
    → ¬ IsFault (reply_to frame (status_of (if short then Invalid else NotPermitted)) [])
other_status true frame e = let same : 234 ≡ 242 = ap (λ (b : List ℕ). get_or b 0 0) e in absurd (omega (arith, same))
other_status false frame e = let same : 255 ≡ 242 = ap (λ (b : List ℕ). get_or b 0 0) e in absurd (omega (arith, same))

-- the reply to a frame of a tenant that is not served
pub refusal_is_no_fault : (frame reply : List ℕ)
    → reply ≡ reply_to frame (status_of (if nat_lt (length frame) 4 then Invalid else NotPermitted)) []
    → ¬ IsFault reply
refusal_is_no_fault frame reply seen e = other_status (nat_lt (length frame) 4) frame (subst IsFault seen e)

-- the reply to a frame of a tenant that is served
pub served_is_no_fault : FaultsHaveNoPayload
    → (frame reply : List ℕ) (before after : Option TenantState) → MayReply frame reply before after
    → reply ≢ reply_to frame (status_of BadAddress) []
    → ¬ IsFault reply
served_is_no_fault law frame reply before after seen ne e = ne (law frame reply before after seen e)
