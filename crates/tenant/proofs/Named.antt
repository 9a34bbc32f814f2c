-- The objects of open descriptors.
use Rattle.std.proofs.Common.{◌≡◌, ℕ, ◌-◌, ◌≤◌, List, Option, Some, refl, sym, subst, arith}
use Rattle.fd_table.specs.Table.{first_descriptor, named}
use Rattle.tenant.specs.declared.object.OpenObject.{OpenObject}
use Rattle.tenant.specs.declared.object.OpenObject.TheVariants as object
use Rattle.tenant.specs.Kept.{KeptTenant, IsWellFormedTenant, times_named, holders}
use Rattle.tenant.specs.inside.Named.{IsMapOf}
use Rattle.tenant.proofs.AtHandles.{held_is_live}
use Rattle.tenant.proofs.Closes.{closed_at}
use Rattle.tenant.proofs.Releases.{here_one}
use Rattle.tenant.proofs.Sums.{total-part}

-- an object that is open names a map no more times than all open objects do
pub named_held : (objects : List (Option OpenObject)) (fd : ℕ) (o : OpenObject)
    → named objects fd ≡ Some o → (q : ℕ) → times_named q o ≤ holders q objects
named_held objects fd o opened q =
    total-part (times_named q) objects (fd - first_descriptor) o (closed_at objects fd o opened).1

-- a map that a descriptor names is live
pub named_is_live : {k : KeptTenant} {handle : ℕ}
    → IsWellFormedTenant k
    → (fd : ℕ) → named k.objects fd ≡ Some (object.Map handle)
    → IsMapOf k fd handle
named_is_live {k} {handle} is fd opened =
    let some = named_held k.objects fd (object.Map handle) opened handle in
    let one = here_one handle handle refl in
    let held = is.held handle in
    let live = held_is_live k.live handle (omega arith) in
    record { opened = opened; live = live; within = is.maps.within handle live }

-- a descriptor that names the map of a handle in a tenant names it in an equal one
pub map_in_state : {old k : KeptTenant} {fd handle : ℕ} → k ≡ old → IsMapOf old fd handle → IsMapOf k fd handle
map_in_state {fd = fd} {handle = handle} same found = subst (λ (x : KeptTenant). IsMapOf x fd handle) (sym same) found
