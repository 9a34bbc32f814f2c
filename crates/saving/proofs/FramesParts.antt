-- A part of the memory that a command changes.
use Rattle.std.proofs.Common.{◌≡◌, ℕ, ◌*◌, ◌<◌, List, length, sym, subst, ◌∙◌}
use Rattle.arena.specs.Memory.{Memory, size_of, part_bytes, with_part}
use Rattle.arena.specs.Apart.{PartsAreApart}
use Rattle.bpf_maps.specs.declared.part.TheConstants.{PART}
use Rattle.command_frames.specs.declared.command.Head.{Head}
use Rattle.command_frames.specs.Command.{Command}
use Rattle.tenant.specs.Kept.{KeptTenant, state_in}
use Rattle.saving.specs.Births.{Birth}
use Rattle.saving.specs.inside.Frames.{RepliesToCommand}

-- the part of a tenant was borrowed and written
pub record IsLent (m : Memory) (t : ℕ) (old new : List ℕ) : Type 0 where
  -- the size of the memory is the number of parts times the size of a part
  pub parts : size_of m ≡ m.parts * m.part
  -- the tenant has a part, and a part has PART bytes
  pub served : (t < m.parts) × (m.part ≡ PART)
  -- the old bytes are those of the tenant's part
  pub bytes : old ≡ part_bytes m t
  -- the new bytes are as many as a part has
  pub whole : length new ≡ PART

-- a reply to a command on the borrowed bytes is the reply to it on the part
pub on_lent : PartsAreApart
    → {m : Memory} {t : ℕ} {old new : List ℕ} {command : Command} {h : Head} {reply : List ℕ}
    {births later : List Birth} (k l : KeptTenant)
    → IsLent m t old new
    → RepliesToCommand command h reply (state_in old k) (state_in new l) births later
    → RepliesToCommand command h reply (state_in (part_bytes m t) k)
    (state_in (part_bytes (with_part m t new) t) l) births
    later
on_lent law {m} {t} {old} {new} {command} {h} {reply} {births} {later} k l lent seen =
    let own : part_bytes (with_part m t new) t ≡ new =
    law.own m t new (lent.parts, lent.served.0) (lent.whole ∙ sym lent.served.1) in
    let of_new :
    RepliesToCommand command h reply (state_in old k) (state_in (part_bytes (with_part m t new) t) l) births later =
    subst (λ (bytes : List ℕ). RepliesToCommand command h reply (state_in old k) (state_in bytes l) births later)
    (sym own) seen in
    subst (λ (bytes : List ℕ).
    RepliesToCommand command h reply (state_in bytes k) (state_in (part_bytes (with_part m t new) t) l) births later)
    lent.bytes of_new
