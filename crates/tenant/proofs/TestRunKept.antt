-- The invariant after a run.
use Rattle.std.proofs.Common.{◌≡◌, ◌≢◌, ℕ, zero, suc, ◌<◌, List, [], ◌∷◌, length, Option, Some}
use Rattle.std.proofs.Common.{None, IsSome, is_some, refl, sym, ap, subst, ◌∙◌, inl, inr, arith}
use Rattle.std.specs.Prelude.{◌⊎◌, slice_index}
use Rattle.std.proofs.lemmas.Bool.{cases_eq, true≢false}
use Rattle.bpf_maps.specs.Live.{LiveMaps, LiveMap, live_or, live_at, keys_at, shape_at, SameAreas}
use Rattle.bpf_helpers.specs.Stands.{IsElsewhere}
use Rattle.flat_machine.specs.Runs.{RunKeepsMaps}
use Rattle.tenant.specs.Kept.{KeptTenant, IsWellFormedTenant}
use Rattle.tenant.proofs.StillKept.{with_live, still_kept}

-- ---- bound keys

abbrev StandsIn : List ℕ → ℕ → Type 0
StandsIn bind key = (i : ℕ) × (i < length bind) × (slice_index bind i ≡ key)

elsewhere_more : (b key : ℕ) (bs : List ℕ) → b ≢ key → IsElsewhere bs key → IsElsewhere (b ∷ bs) key
elsewhere_more b key bs other away zero lt = other
elsewhere_more b key bs other away (suc i) lt = away i (omega arith)

stands_or_not : (bind : List ℕ) (key : ℕ) → StandsIn bind key ⊎ IsElsewhere bind key
stands_or_not [] key = inr (λ i lt. absurd (omega arith))
stands_or_not (b ∷ bs) key = by (cases_eq b key) (stands_or_not bs key)
  where
    by : (b ≡ key) ⊎ (b ≡ key → ⊥)
        → StandsIn bs key ⊎ IsElsewhere bs key → StandsIn (b ∷ bs) key ⊎ IsElsewhere (b ∷ bs) key
    by (inl same) rest = inl (0, omega arith, same)
    by (inr other) (inl (i, lt, same)) = inl (suc i, omega arith, same)
    by (inr other) (inr away) = inr (elsewhere_more b key bs other away)

-- ---- a map that is bound

some_live : (o : Option LiveMap) → IsSome o → (l : LiveMap) × (o ≡ Some l)
some_live None h = absurd (true≢false (sym h))
some_live (Some l) h = (l, refl)

-- it has the same shape as before
same_shape : (old new : LiveMaps) (key : ℕ)
    → SameAreas old new → IsSome (live_at new key)
    → shape_at new key ≡ shape_at old key
same_shape old new key areas live =
    let (l, now) = some_live (live_at new key) live in
    let (m, was, shape, start, stride) = areas key l now in
    ap (λ (o : Option LiveMap). (live_or o).keys.shape) now
    ∙ shape
    ∙ sym (ap (λ (o : Option LiveMap). (live_or o).keys.shape) was)

-- ---- the invariant

-- after a run that keeps the live maps the tenant is well formed
pub kept_after : {k : KeptTenant} {new : LiveMaps} {bind : List ℕ}
    → IsWellFormedTenant k → RunKeepsMaps bind k.live new
    → IsWellFormedTenant (with_live k new)
kept_after {k} {new} {bind} is keeps = still_kept is (record {
  was = λ handle now. was_of handle (some_live (live_at new handle) now);
  stays = λ handle was. stays_of handle was (stands_or_not bind handle);
  holds = keeps.holds;
  shape = λ handle was. same_shape k.live new handle keeps.areas (stays_of handle was (stands_or_not bind handle));
  ended = λ handle. ended_of handle (stands_or_not bind handle);
})
  where
    was_of : (handle : ℕ) → (l : LiveMap) × (live_at new handle ≡ Some l) → IsSome (live_at k.live handle)
    was_of handle (l, now) =
        let (m, was, shape, start, stride) = keeps.areas handle l now in ap (λ (o : Option LiveMap). is_some o) was

    stays_of : (handle : ℕ)
        → IsSome (live_at k.live handle)
        → StandsIn bind handle ⊎ IsElsewhere bind handle
        → IsSome (live_at new handle)
    stays_of handle was (inl (i, lt, same)) = subst (λ (n : ℕ). IsSome (live_at new n)) same (keeps.live i lt)
    stays_of handle was (inr away) = ap (λ (o : Option LiveMap). is_some o) (keeps.others handle away) ∙ was

    ended_of : (handle : ℕ) → StandsIn bind handle ⊎ IsElsewhere bind handle → (keys_at new handle).kept ≡ []
    ended_of handle (inl (i, lt, same)) = subst (λ (n : ℕ). (keys_at new n).kept ≡ []) same (keeps.free i lt)
    ended_of handle (inr away) =
        ap (λ (o : Option LiveMap). (live_or o).keys.kept) (keeps.others handle away) ∙ is.maps.ended handle
