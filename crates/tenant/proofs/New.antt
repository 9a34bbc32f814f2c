-- A new tenant.
use Rattle.std.proofs.Common.{◌≡◌, ℕ, zero, suc, false, List, replicate, get_or, Option, None, refl, sym, ap, ap₂, ◌∙◌, arith, subst}
use Rattle.std.specs.Prelude.{◌||◌, Bool}
use Rattle.std.proofs.lemmas.Option.{none-some}
use Rattle.bpf_maps.specs.declared.part.TheConstants.{MAPS}
use Rattle.bpf_maps.specs.Live.{LiveMaps, LiveMap, live_or, live_at}
use Rattle.fd_table.specs.Table.{nothing_open, most}
use Rattle.tenant.specs.declared.object.OpenObject.{OpenObject}
use Rattle.tenant.specs.declared.object.OpenObject.TheVariants as object
use Rattle.bpf_maps.specs.Limits.{most_maps}
use Rattle.tenant.specs.State.{Map, new_tenant}
use Rattle.tenant.specs.Kept.{KeptTenant, IsWellFormedTenant, times_named, by_descriptor, descriptors, at_handles, map_at, state_in}
use Rattle.tenant.proofs.AtHandles.{same_at, none_there, not_live}
use Rattle.tenant.proofs.Sums.{total-none}

get_or-none : {A : Type 0} (n i : ℕ) → get_or (replicate {A = Option A} n None) i None ≡ None
get_or-none zero i = refl
get_or-none (suc n) zero = refl
get_or-none (suc n) (suc i) = get_or-none n i

abbrev kept_new : LiveMaps → KeptTenant
kept_new live = record { objects = nothing_open; live = live; refused = false }

-- no map is live
none_live : (live : LiveMaps) → live.maps ≡ replicate MAPS None → (handle : ℕ) → live_at live handle ≡ None
none_live live none handle = ap (λ (ms : List (Option LiveMap)). get_or ms handle None) none ∙ get_or-none MAPS handle

new_is_kept : (live : LiveMaps) → live.maps ≡ replicate MAPS None → IsWellFormedTenant (kept_new live)
new_is_kept live none = record {
  all = refl;
  maps = record {
    within = λ handle there. absurd (not_live (live_at live handle) there (none_live live none handle));
    some = λ handle there. absurd (not_live (live_at live handle) there (none_live live none handle));
    ended = λ handle. ap (λ (o : Option LiveMap). (live_or o).keys.kept) (none_live live none handle);
  };
  held = λ handle.
      ap (λ (o : Option LiveMap). (live_or o).holds) (none_live live none handle)
      ∙ sym (total-none (times_named handle) most);
  single = λ handle.
      let nothing : descriptors handle nothing_open ≡ 0 = total-none (by_descriptor handle) most in omega arith;
  bound = λ n l there. absurd (none-some (object.Program l) (sym (get_or-none most n) ∙ there));
}

-- a tenant without open objects and live maps is well formed
pub empty_is_kept : (objects : List (Option OpenObject)) (live : LiveMaps)
    → objects ≡ nothing_open → live.maps ≡ replicate MAPS None
    → IsWellFormedTenant (record { objects = objects; live = live; refused = false })
empty_is_kept objects live nothing none =
    subst (λ (os : List (Option OpenObject)). IsWellFormedTenant (record { objects = os; live = live; refused = false }))
    (sym nothing) (new_is_kept live none)

no_maps : at_handles (λ i. None) ≡ replicate most_maps None
unfolding at_handles
no_maps = refl

-- the state of a new tenant is the machine's
pub empty_is_new : (part : List ℕ) (objects : List (Option OpenObject)) (live : LiveMaps)
    → objects ≡ nothing_open → live.maps ≡ replicate MAPS None
    → live.refused ≡ false
    → state_in part (record { objects = objects; live = live; refused = false }) ≡ new_tenant
empty_is_new part objects live nothing none clear =
    ap (λ (os : List (Option OpenObject)). state_in part (record { objects = os; live = live; refused = false }))
    nothing
    ∙ ap₂ (λ (ms : List (Option Map)) (b : Bool). record { objects = nothing_open; maps = ms; refused = false || b })
    (same_at (map_at part live) (λ i. None) (λ i. none_there part live i (none_live live none i)) ∙ no_maps) clear
