-- Replies to requests for the next key.
use Rattle.std.proofs.Common.{◌≡◌, ℕ, Bool, true, false, List, length, Option, refl, sym, ap, ap₂, ◌∙◌, inl, inr}
use Rattle.std.specs.Prelude.{◌==◌, ◌||◌, ◌⊎◌}
use Rattle.std.proofs.lemmas.Bool.{eq-eqb}
use Rattle.bpf_maps.specs.Live.{keys_at, shape_at, value_in}
use Rattle.bpf_maps.specs.KeyTable.{table_of}
use Rattle.tagged_model.specs.MapLaws.{CallsRefineValues}
use Rattle.tagged_model.specs.Table.{next_of}
use Rattle.tenant.specs.declared.errno.Errno.TheVariants.{Invalid}
use Rattle.tenant.specs.State.{Map}
use Rattle.tenant.specs.Machine.{refuses, gives_or_no_entry, given_next}
use Rattle.tenant.specs.Kept.{KeptTenant, state_in}
use Rattle.tenant.specs.inside.Named.{IsMapOf}
use Rattle.tenant.proofs.LookUps.{on_map_is, has_size}

-- the key is empty or has the map's key size
abbrev pub is_empty_or_fits : List ℕ → Map → Bool
is_empty_or_fits key t = length key == 0 || has_size key t

right_size : (n m size : ℕ) (empty : Bool)
    → empty ≡ (n == 0) → size ≡ m
    → ((empty ≡ false) × (n ≡ size)) ⊎ (empty ≡ true)
    → (n == 0 || n == m) ≡ true
right_size n m size empty e is (inl (full, same)) = rw (sym e ∙ full) (eq-eqb n m (same ∙ is))
right_size n m size empty e is (inr none) = rw (sym e ∙ none) refl

-- the reply to a request for the next key is the one that the table of keys gives
pub next_is : CallsRefineValues ℕ (List ℕ)
    → (part : List ℕ) {k : KeptTenant} {fd handle : ℕ} (key : List ℕ) {size : ℕ} {empty : Bool} {r : Option (List ℕ)}
    → IsMapOf k fd handle → size ≡ (shape_at k.live handle).key_size
    → empty ≡ (length key == 0)
    → ((empty ≡ false) × (length key ≡ size)) ⊎ (empty ≡ true)
    → r ≡ next_of (table_of (keys_at k.live handle)) key
    → gives_or_no_entry (state_in part k) r ≡ given_next (state_in part k) fd key
next_is along part {k} {fd} {handle} key {size} {empty} {r} found size_is e either is =
    let s = state_in part k in
    ap (gives_or_no_entry s) (is ∙ sym (along.next (value_in part k.live handle) (table_of (keys_at k.live handle)) key))
    ∙ sym (on_map_is part (is_empty_or_fits key) (λ p t. gives_or_no_entry s (next_of t key)) found
    (right_size (length key) (shape_at k.live handle).key_size size empty e size_is either))

-- the machine rejects a request for the key after one of another size as invalid
pub refused_key : (part : List ℕ) {k : KeptTenant} {fd handle : ℕ} (key : List ℕ)
    → IsMapOf k fd handle → (length key == 0) ≡ false
    → (length key == (shape_at k.live handle).key_size) ≡ false
    → refuses Invalid (state_in part k) ≡ given_next (state_in part k) fd key
refused_key part {k} key found full other =
    sym (on_map_is part (is_empty_or_fits key)
    (λ p t. gives_or_no_entry (state_in part k) (next_of t key))
    found (ap₂ (λ (a b : Bool). a || b) full other))
