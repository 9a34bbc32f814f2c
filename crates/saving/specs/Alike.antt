-- States of the machine of one tenant that no command distinguishes: they differ in the handles of
-- their maps, and in whether memory was ever refused. This project's own.
use Rattle.std.specs.Prelude.{◌≡◌, ℕ, true, List, length, map, Option, IsSome, option_map}
use Rattle.fd_table.specs.Table.{most}
use Rattle.tenant.specs.declared.object.OpenObject.{OpenObject}
use Rattle.tenant.specs.declared.object.OpenObject.TheVariants as object
use Rattle.bpf_maps.specs.Limits.{most_maps}
use Rattle.tenant.specs.State.{TenantState, live, is_named}
use Rattle.tenant.specs.Machine.{Answer}

-- ---- a renaming of handles

-- a map m of a program, with descriptor m.0 and handle m.1: its handle is renamed by `move`
abbrev pub moved_map : (ℕ → ℕ) → ℕ × ℕ → ℕ × ℕ
moved_map move m = (m.0, move m.1)

-- the maps of a program, pairs of a descriptor and a handle: each handle is renamed by `move`
abbrev pub moved_maps : (ℕ → ℕ) → List (ℕ × ℕ) → List (ℕ × ℕ)
moved_maps move ms = map (moved_map move) ms

-- an object with its handles renamed by `move`: that of a map, or those of a program's maps
abbrev pub moved_object : (ℕ → ℕ) → OpenObject → OpenObject
moved_object move (object.Map handle) = object.Map (move handle)
moved_object move (object.Program l) = object.Program (record l { maps = moved_maps move l.maps })

-- the objects by descriptor, with all handles renamed by `move`; a free descriptor (None) stays so
abbrev pub moved_objects : (ℕ → ℕ) → List (Option OpenObject) → List (Option OpenObject)
moved_objects move objects = map (option_map (moved_object move)) objects

-- ---- alike states

-- t is s with its handles renamed by `move`: the objects of t are those of s, renamed (`objects`);
-- a live map of s is live in t at the new handle (`same`); no two live maps get one handle
-- (`apart`); and each live map of t is one of s (`only`)
pub record IsMovedBy (move : ℕ → ℕ) (s t : TenantState) : Type 0 where
  pub objects : t.objects ≡ moved_objects move s.objects
  pub same : (handle : ℕ) → IsSome (live s handle) → live t (move handle) ≡ live s handle
  pub apart : (p q : ℕ) → IsSome (live s p) → IsSome (live s q) → move p ≡ move q → p ≡ q
  pub only : (q : ℕ) → IsSome (live t q) → (p : ℕ) × IsSome (live s p) × (move p ≡ q)

-- s and t are equal up to the handles of maps, by some renaming, and up to the flag of refused
-- memory
abbrev pub IsAlike : TenantState → TenantState → Type 0
IsAlike s t = (move : ℕ → ℕ) × IsMovedBy move s t

-- two results with equal status and payload, and with states after them that are alike
pub record IsAlikeResult (a b : Answer) : Type 0 where
  pub status : b.status ≡ a.status
  pub payload : b.payload ≡ a.payload
  pub after : IsAlike a.after b.after

-- ---- the invariant of the machine's states

-- the list of objects has a position for each of the `most` descriptors, and that of maps one for
-- each of the `most_maps` handles; and exactly the maps that an open object names are live
pub record HoldsItsMaps (s : TenantState) : Type 0 where
  pub descriptors : length s.objects ≡ most
  pub handles : length s.maps ≡ most_maps
  pub live_if_named : (handle : ℕ) → is_named s.objects handle ≡ true → IsSome (live s handle)
  pub named_if_live : (handle : ℕ) → IsSome (live s handle) → is_named s.objects handle ≡ true
