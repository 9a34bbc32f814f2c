-- Replies to look-ups.
use Rattle.std.proofs.Common.{◌≡◌, ◌≢◌, ℕ, ◌<◌, Bool, true, false, List, length, Option, Some, sym, ap, ◌∙◌}
use Rattle.std.specs.Prelude.{◌==◌, option_map, if◌then◌else◌}
use Rattle.std.proofs.lemmas.Bool.{eq-eqb, ne_eqb}
use Rattle.bpf_maps.specs.Live.{keys_at, shape_at, map_in, value_in}
use Rattle.bpf_maps.specs.KeyTable.{table_of}
use Rattle.tagged_model.specs.MapLaws.{CallsRefineValues}
use Rattle.tagged_model.specs.Table.{look_up}
use Rattle.tenant.specs.declared.errno.Errno.TheVariants.{Invalid}
use Rattle.tenant.specs.declared.object.OpenObject.{OpenObject}
use Rattle.bpf_maps.specs.Limits.{most_maps}
use Rattle.tenant.specs.State.{Map, live}
use Rattle.tenant.specs.Machine.{Answer, refuses, gives_or_no_entry, of_object, of_handle, on_map, element_looked_up}
use Rattle.tenant.specs.Kept.{KeptTenant, map_at, state_in}
use Rattle.tenant.specs.inside.Named.{IsMapOf}
use Rattle.tenant.proofs.AtHandles.{at-within, map_there}

-- the map of a handle in the state is the one that the bytes of the part give
pub live_is : (part : List ℕ) (k : KeptTenant) (handle : ℕ)
    → handle < most_maps → live (state_in part k) handle ≡ map_at part k.live handle
live_is part k handle within = at-within (map_at part k.live) handle within

-- a map that a descriptor names is live in the state, with the values in the part
pub live_named : (part : List ℕ) {k : KeptTenant} {fd handle : ℕ}
    → IsMapOf k fd handle → live (state_in part k) handle ≡ Some (map_in part k.live handle)
live_named part {k} {fd} {handle} found = live_is part k handle found.within ∙ map_there part k.live handle found.live

-- a command on the map is one on this map, if its key and its value have the map's sizes
pub on_map_is : (part : List ℕ) {k : KeptTenant} {fd handle : ℕ} (fits : Map → Bool)
    (f : ℕ → Map → Answer) {b : Bool}
    → IsMapOf k fd handle → fits (map_in part k.live handle) ≡ b
    → on_map (state_in part k) fd (λ p t. if fits t then f p t else refuses Invalid (state_in part k))
    ≡ (if b then f handle (map_in part k.live handle) else refuses Invalid (state_in part k))
on_map_is part {k} {fd} {handle} fits f {b} found is =
    let s = state_in part k in
    ap (λ (o : Option OpenObject). of_object s (λ p t. if fits t then f p t else refuses Invalid s) o) found.opened
    ∙ ap (λ (o : Option Map). of_handle s handle (λ p t. if fits t then f p t else refuses Invalid s) o)
    (live_named part found)
    ∙ ap (λ (x : Bool). if x then f handle (map_in part k.live handle) else refuses Invalid s) is

-- a key has the map's size
abbrev pub has_size : List ℕ → Map → Bool
has_size key t = length key == t.shape.key_size

-- a test whether two sizes are equal holds if they are
pub same_size : (n : ℕ) {m : ℕ} → n ≡ m → (n == m) ≡ true
same_size n {m} same = eq-eqb n m same

-- a test whether two sizes are equal fails if they are not
pub other_size : (n : ℕ) {a m : ℕ} → n ≢ a → a ≡ m → (n == m) ≡ false
other_size n {a} {m} other same = ne_eqb n m (λ e. other (e ∙ sym same))

-- the reply to a look-up with a key of the map's size is the value of the element that was found, or NoEntry
pub found_at : CallsRefineValues ℕ (List ℕ)
    → (part : List ℕ) {k : KeptTenant} {fd handle : ℕ} (key : List ℕ) {r : Option ℕ}
    → IsMapOf k fd handle
    → length key ≡ (shape_at k.live handle).key_size
    → r ≡ look_up (table_of (keys_at k.live handle)) key
    → gives_or_no_entry (state_in part k) (option_map (value_in part k.live handle) r)
    ≡ element_looked_up (state_in part k) fd key
found_at along part {k} {fd} {handle} key {r} found size is =
    let s = state_in part k in
    let v = value_in part k.live handle in
    sym (on_map_is part (has_size key) (λ p t. gives_or_no_entry s (look_up t key)) found (same_size (length key) size)
    ∙ ap (gives_or_no_entry s) (along.found v (table_of (keys_at k.live handle)) key ∙ ap (option_map v) (sym is)))
