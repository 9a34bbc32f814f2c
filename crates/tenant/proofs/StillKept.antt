-- The invariant after a change of the maps that does not change the open objects.
use Rattle.std.proofs.Common.{◌≡◌, ℕ, ◌≤◌, List, [], Option, Some, IsSome, is_some, sym, ap, subst, ◌∙◌}
use Rattle.bpf_maps.specs.Live.{LiveMaps, LiveMap, live_or, live_at, references_at, shape_at, keys_at, OnlyKeysChange}
use Rattle.tagged_model.specs.declared.shape.MapShape.{MapShape}
use Rattle.tenant.specs.Loaded.{LoadedProgram}
use Rattle.tenant.specs.declared.tenant.Tenant.TheInside.{Inside}
use Rattle.tenant.specs.declared.object.OpenObject.{OpenObject}
use Rattle.tenant.specs.Kept.{KeptTenant, IsWellFormedTenant, IsBound}
use Rattle.tenant.proofs.AtHandles.{at_each}

-- the tenant that the fields represent
abbrev pub kept_in : Inside → KeptTenant
kept_in t = record { objects = t.objects; live = t.maps; refused = t.refused }

-- the same with other maps, and with other open objects too
abbrev pub with_live : KeptTenant → LiveMaps → KeptTenant
with_live k t = record { objects = k.objects; live = t; refused = k.refused }

abbrev pub with_both : KeptTenant → List (Option OpenObject) → LiveMaps → KeptTenant
with_both k objects t = record { objects = objects; live = t; refused = k.refused }

-- the same maps are live, with the same shapes and the same number of holds, and no run is in progress
pub record IsStill (old new : LiveMaps) : Type 0 where
  -- a map that is live after the change was live before
  pub was : (handle : ℕ) → IsSome (live_at new handle) → IsSome (live_at old handle)
  -- a map that was live before is live after the change
  pub stays : (handle : ℕ) → IsSome (live_at old handle) → IsSome (live_at new handle)
  -- each map has the same number of holds
  pub holds : (handle : ℕ) → references_at new handle ≡ references_at old handle
  -- each map that was live has the same shape
  pub shape : (handle : ℕ) → IsSome (live_at old handle) → shape_at new handle ≡ shape_at old handle
  -- no element of a map is kept apart
  pub ended : (handle : ℕ) → (keys_at new handle).kept ≡ []

-- a program is still bound if each live map is still live, with the same shape
pub bound_along : {old new : LiveMaps} {l : LoadedProgram}
    → IsBound old l
    → ((handle : ℕ) → IsSome (live_at old handle) → IsSome (live_at new handle))
    → ((handle : ℕ) → IsSome (live_at old handle) → shape_at new handle ≡ shape_at old handle)
    → IsBound new l
bound_along was stays shape = record {
  each = was.each;
  once = was.once;
  shaped = λ fd handle found.
      let (live, shaped) = was.shaped fd handle found in
      (stays handle live, shaped ∙ ap (λ (s : MapShape). Some s) (sym (shape handle live)));
}

-- the tenant is well formed if the same maps are live, with the same shapes and holds
pub still_kept : {k : KeptTenant} {t : LiveMaps}
    → IsWellFormedTenant k → IsStill k.live t → IsWellFormedTenant (with_live k t)
still_kept {k} {t} is s = record {
  all = is.all;
  maps = record {
    within = λ handle live. is.maps.within handle (s.was handle live);
    some = λ handle live. subst (λ (n : ℕ). 1 ≤ n) (sym (s.holds handle)) (is.maps.some handle (s.was handle live));
    ended = s.ended;
  };
  held = λ handle. s.holds handle ∙ is.held handle;
  single = is.single;
  bound = λ n l there. bound_along (is.bound n l there) s.stays s.shape;
}

-- if only the keys of one map change, and no element of it is kept apart, the tenant is still well formed
pub keys_kept : {k : KeptTenant} {t : LiveMaps} {m : ℕ}
    → IsWellFormedTenant k → IsSome (live_at k.live m)
    → OnlyKeysChange m k.live t → (keys_at t m).kept ≡ []
    → IsWellFormedTenant (with_live k t)
keys_kept {k} {t} {m} is live rest ended = still_kept is (record {
  was =
      at_each (λ q. IsSome (live_at t q) → IsSome (live_at k.live q)) m (λ now. live)
      (λ q other now. ap (λ (o : Option LiveMap). is_some o) (sym (rest.others q other)) ∙ now);
  stays =
      at_each (λ q. IsSome (live_at k.live q) → IsSome (live_at t q)) m (λ was. rest.live)
      (λ q other was. ap (λ (o : Option LiveMap). is_some o) (rest.others q other) ∙ was);
  holds =
      at_each (λ q. references_at t q ≡ references_at k.live q) m rest.holds
      (λ q other. ap (λ (o : Option LiveMap). (live_or o).holds) (rest.others q other));
  shape =
      at_each (λ q. IsSome (live_at k.live q) → shape_at t q ≡ shape_at k.live q) m
      (λ was. rest.shape)
      (λ q other was. ap (λ (o : Option LiveMap). (live_or o).keys.shape) (rest.others q other));
  ended =
      at_each (λ q. (keys_at t q).kept ≡ []) m ended
      (λ q other. ap (λ (o : Option LiveMap). (live_or o).keys.kept) (rest.others q other) ∙ is.maps.ended q);
})
