-- The tenant of a frame.
use Rattle.std.proofs.Common.{◌≡◌, ℕ, zero, suc, ◌≤◌, Bool, true, false, List, [], ◌∷◌, length, drop, Option, Some, None, refl, sym, ap, arith}
use Rattle.std.specs.Prelude.{nat_lt, slice_get, if◌then◌else◌}
use Rattle.std.proofs.lemmas.Option.{none-some, same_Some}
use Rattle.command_frames.specs.declared.command.Head.{Head}
use Rattle.command_frames.specs.Frame.{head_of, owner, reply_bytes, reply_to}
use Rattle.byteorder.specs.Endian.{little_number}
use Rattle.tenant.specs.Alone.{unserved_errno}
use Rattle.tenant.specs.Errno.{status_of}
use Rattle.tenant.specs.declared.errno.Errno.TheVariants.{NotPermitted, Invalid}

-- ---- a frame of a tenant that is not served

abbrev head_if : Bool → ℕ → ℕ → Option Head
head_if short m n = if short then None else Some (record { tenant = m; command = n })

headless : (short : Bool) (m n : ℕ)
    → head_if short m n ≡ None
    → reply_bytes 65535 65535 (status_of Invalid) []
    ≡ reply_bytes (if short then 65535 else m) (if short then 65535 else n)
    (status_of (if short then Invalid else NotPermitted))
    []
headless true m n e = refl
headless false m n e = absurd (none-some (record { tenant = m; command = n }) (sym e))

-- a frame without a head
pub refused_headless : (frame : List ℕ)
    → head_of frame ≡ None
    → reply_bytes 65535 65535 (status_of Invalid) [] ≡ reply_to frame (status_of (unserved_errno frame)) []
refused_headless frame e = headless (nat_lt (length frame) 4) (little_number 2 frame) (little_number 2 (drop 2 frame)) e

headed : (short : Bool) (m n : ℕ) (h : Head)
    → head_if short m n ≡ Some h
    → reply_bytes h.tenant h.command (status_of NotPermitted) []
    ≡ reply_bytes (if short then 65535 else m) (if short then 65535 else n)
    (status_of (if short then Invalid else NotPermitted))
    []
headed true m n h e = absurd (none-some h e)
headed false m n h e =
    ap (λ (x : Head). reply_bytes x.tenant x.command (status_of NotPermitted) [])
    (same_Some h (record { tenant = m; command = n }) (sym e))

-- a frame with a head
pub refused_headed : (frame : List ℕ) (h : Head)
    → head_of frame ≡ Some h
    → reply_bytes h.tenant h.command (status_of NotPermitted) [] ≡ reply_to frame (status_of (unserved_errno frame)) []
refused_headed frame h e = headed (nat_lt (length frame) 4) (little_number 2 frame) (little_number 2 (drop 2 frame)) h e

-- ---- its owner

by_length : (short : Bool) (frame : List ℕ) (h : Head)
    → nat_lt (length frame) 4 ≡ short → head_of frame ≡ Some h
    → h.tenant ≡ owner frame
by_length true frame h is e = absurd (let wrong = rw is at e in cc wrong)
by_length false frame h is e = rw is (let same = rw is at e in cc same)

-- the tenant in the head of a frame is the tenant of the frame
pub owner_is : (frame : List ℕ) (h : Head) → head_of frame ≡ Some h → h.tenant ≡ owner frame
owner_is frame h e = by_length (nat_lt (length frame) 4) frame h refl e

by_no_length : (short : Bool) (frame : List ℕ)
    → nat_lt (length frame) 4 ≡ short → head_of frame ≡ None → owner frame ≡ 65535
by_no_length true frame is e = rw is refl
by_no_length false frame is e = absurd (let wrong = rw is at e in cc wrong)

-- a frame without a head is of tenant 65535
pub no_head : (frame : List ℕ) → head_of frame ≡ None → owner frame ≡ 65535
no_head frame e = by_no_length (nat_lt (length frame) 4) frame refl e

-- an index past the end has no state
pub no_state : {X : Type 0} (xs : List X) (i : ℕ) → length xs ≤ i → slice_get xs i ≡ None
no_state [] i few = refl
no_state (x ∷ xs) zero few = absurd (omega arith)
no_state (x ∷ xs) (suc i) few = no_state xs i (omega arith)
