-- The head of a frame.
use Rattle.std.proofs.Common.{◌≡◌, ℕ, ◌≤◌, Bool, true, false, List, length, Some, None, refl, ap}
use Rattle.std.specs.Prelude.{nat_lt, if◌then◌else◌}
use Rattle.std.proofs.lemmas.Bool.{ltb-false}
use Rattle.std.proofs.lemmas.Option.{none-some, same_Some}
use Rattle.command_frames.specs.declared.command.Head.{Head}
use Rattle.command_frames.specs.Frame.{head_of}

-- if a frame has a head, the tenant and the command number that are read from it are those of the head
pub heads : (short : Bool) (m n : ℕ) (h : Head)
    → (if short then None else Some (record { tenant = m; command = n })) ≡ Some h
    → ((if short then 65535 else m) ≡ h.tenant) × ((if short then 65535 else n) ≡ h.command)
heads true m n h e = absurd (none-some h e)
heads false m n h e =
    let same : record { tenant = m; command = n } ≡ h = same_Some (record { tenant = m; command = n }) h e in
    (ap (λ (x : Head). x.tenant) same, ap (λ (x : Head). x.command) same)

-- a frame with a head has at least its bytes
pub headed_length : (frame : List ℕ) (h : Head) → head_of frame ≡ Some h → 4 ≤ length frame
headed_length frame h e = by_length (nat_lt (length frame) 4) refl e
  where
    by_length : (short : Bool) → nat_lt (length frame) 4 ≡ short → head_of frame ≡ Some h → 4 ≤ length frame
    by_length true is e = absurd (none-some h (let wrong = rw is at e in wrong))
    by_length false is e = ltb-false (length frame) 4 is
