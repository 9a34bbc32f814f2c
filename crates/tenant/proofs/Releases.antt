-- The live maps after a release.
use Rattle.std.proofs.Common.{◌≡◌, ◌≢◌, ℕ, ◌+◌, ◌-◌, ◌≤◌, ◌<◌, Bool, true, false, [], List, length, Option}
use Rattle.std.proofs.Common.{Some, None, IsSome, is_some, refl, sym, ap, subst, ◌∙◌, inl, inr, arith}
use Rattle.std.specs.Prelude.{◌==◌, ◌⊎◌, nat_le, option_map, if◌then◌else◌}
use Rattle.std.proofs.lemmas.Bool.{eq-eqb, ne_eqb, cases_lt}
use Rattle.std.proofs.lemmas.Bool.Decides.{nat_tests}
use Rattle.bpf_maps.specs.declared.part.TheConstants.{PART}
use Rattle.bpf_maps.specs.Live.{LiveMaps, LiveMap, live_or, live_at, references_at, keys_at, map_in}
use Rattle.bpf_maps.specs.Live.{MapWithoutArea, without_area_at, without_area, one_less, no_live, KeepsMap, KeepsOthers}
use Rattle.bpf_maps.specs.KeyTable.{KeyTable}
use Rattle.tenant.specs.Kept.{AreHeld}
use Rattle.tenant.specs.inside.Leaves.{LeavesHeldMaps}
use Rattle.tenant.proofs.AtHandles.{at_each, not_live}

-- ---- a map without its area

held_holds : Option MapWithoutArea → ℕ
held_holds None = 0
held_holds (Some h) = h.holds

held_keys : Option MapWithoutArea → KeyTable
held_keys None = no_live.keys
held_keys (Some h) = h.keys

holds_held : (o : Option LiveMap) → held_holds (option_map without_area o) ≡ (live_or o).holds
unfolding held_holds
holds_held None = refl
holds_held (Some l) = refl

keys_held : (o : Option LiveMap) → held_keys (option_map without_area o) ≡ (live_or o).keys
unfolding held_keys
keys_held None = refl
keys_held (Some l) = refl

same_holds : (old new : LiveMaps) (key : ℕ) → without_area_at new key ≡ without_area_at old key → references_at new key ≡ references_at old key
same_holds old new key e = sym (holds_held (live_at new key)) ∙ ap held_holds e ∙ holds_held (live_at old key)

same_keys : (old new : LiveMaps) (key : ℕ) → without_area_at new key ≡ without_area_at old key → keys_at new key ≡ keys_at old key
same_keys old new key e = sym (keys_held (live_at new key)) ∙ ap held_keys e ∙ keys_held (live_at old key)

live_held : (o : Option LiveMap) → is_some (option_map without_area o) ≡ is_some o
live_held None = refl
live_held (Some l) = refl

was_live : (old new : LiveMaps) (handle : ℕ)
    → without_area_at new handle ≡ without_area_at old handle → IsSome (live_at new handle)
    → IsSome (live_at old handle)
was_live old new handle e live =
    sym (live_held (live_at old handle))
    ∙ ap (λ (o : Option MapWithoutArea). is_some o) (sym e)
    ∙ live_held (live_at new handle)
    ∙ live

-- ---- a release of the map of a handle

pub record IsReleased (old new : LiveMaps) (part later : List ℕ) (handle : ℕ) : Type 0 where
  -- the map of the handle has one hold less, and is absent if it had no other
  pub less : without_area_at new handle ≡ one_less (without_area_at old handle)
  -- the handle has no live map if this was the last hold
  pub gone : references_at old handle ≤ 1 → live_at new handle ≡ None
  -- another map has the same keys and the same holds
  pub others : (other : ℕ) → other ≢ handle → without_area_at new other ≡ without_area_at old other
  -- the flag of refused memory is not changed
  pub refused : new.refused ≡ old.refused
  -- another live map is still live, with the same keys and values
  pub maps : KeepsOthers handle old part new later
  -- the map of the handle has the same keys and values if it had more holds
  pub kept : 1 < references_at old handle → KeepsMap handle old part new later
  -- the bytes after the release are as many as a part has
  pub whole : length later ≡ PART

less_one : (o : Option MapWithoutArea)
    → 1 < held_holds o
    → (held_holds (one_less o) + 1 ≡ held_holds o) × (held_keys (one_less o) ≡ held_keys o)
unfolding held_holds held_keys
less_one None more = absurd (omega arith)
less_one (Some h) more = by_test (nat_le h.holds 1) refl
  where
    by_test : (last : Bool)
        → nat_le h.holds 1 ≡ last
        → (held_holds (if last then None else Some (record { keys = h.keys; holds = h.holds - 1 })) + 1 ≡ h.holds)
        × (held_keys (if last then None else Some (record { keys = h.keys; holds = h.holds - 1 })) ≡ h.keys)
    by_test true e = absurd (let le : h.holds ≤ 1 = grind (arith, nat_tests) in omega arith)
    by_test false e = (omega arith, refl)

one_fewer : (old new : LiveMaps) (key : ℕ)
    → without_area_at new key ≡ one_less (without_area_at old key)
    → 1 < references_at old key
    → (references_at new key + 1 ≡ references_at old key) × (keys_at new key ≡ keys_at old key)
one_fewer old new key less more =
    let both = less_one (without_area_at old key) (subst (λ (n : ℕ). 1 < n) (sym (holds_held (live_at old key))) more) in (
      ap (λ (n : ℕ). n + 1) (sym (holds_held (live_at new key)) ∙ ap held_holds less)
          ∙ both.0
          ∙ holds_held (live_at old key),
      sym (keys_held (live_at new key)) ∙ ap held_keys less ∙ both.1 ∙ keys_held (live_at old key),
    )

-- ---- the holds of each map

abbrev pub one_at : ℕ → ℕ → ℕ
one_at handle q = if handle == q then 1 else 0

-- a handle counts as one for itself
pub here_one : (handle q : ℕ) → q ≡ handle → one_at handle q ≡ 1
here_one handle q same = let yes : (handle == q) ≡ true = eq-eqb handle q (sym same) in rw yes refl

-- a handle counts as none for another one
pub none_one : (handle q : ℕ) → q ≢ handle → one_at handle q ≡ 0
none_one handle q other = let no : (handle == q) ≡ false = ne_eqb handle q (λ e. other (sym e)) in rw no refl

module _ {old new : LiveMaps} {part later : List ℕ} {handle : ℕ} (is : AreHeld old)
    (there : IsSome (live_at old handle)) (r : IsReleased old new part later handle) where
  -- the hold was the last one, or not
  abbrev Either : Type 0
  Either = (1 < references_at old handle) ⊎ (references_at old handle ≤ 1)

  -- the map of this handle has one hold less, and each other map as many as before
  pub holds_released : (q : ℕ) → references_at new q + one_at handle q ≡ references_at old q
  holds_released =
      at_each (λ q. references_at new q + one_at handle q ≡ references_at old q) handle (by (cases_lt 1 (references_at old handle)))
      (λ q other.
      let same = same_holds old new q (r.others q other) in let none = none_one handle q other in omega arith)
    where
      by : Either → references_at new handle + one_at handle handle ≡ references_at old handle
      by (inl more) =
          let fewer = (one_fewer old new handle r.less more).0 in let one = here_one handle handle refl in omega arith
      by (inr last) =
          let none : references_at new handle ≡ 0 = ap (λ (o : Option LiveMap). (live_or o).holds) (r.gone last) in
          let some = is.some handle there in
          let one = here_one handle handle refl in
          omega arith

  was_there : (q : ℕ) → IsSome (live_at new q) → IsSome (live_at old q)
  was_there =
      at_each (λ q. IsSome (live_at new q) → IsSome (live_at old q)) handle (λ live. there)
      (λ q other. was_live old new q (r.others q other))

  -- a map that is still live had more than one hold
  more_held : IsSome (live_at new handle) → Either → 1 < references_at old handle
  more_held live (inl more) = more
  more_held live (inr last) = absurd (not_live (live_at new handle) live (r.gone last))

  some_hold : (q : ℕ) → IsSome (live_at new q) → 1 ≤ references_at new q
  some_hold = at_each (λ q. IsSome (live_at new q) → 1 ≤ references_at new q) handle
      (λ live.
      let more = more_held live (cases_lt 1 (references_at old handle)) in
      let fewer = (one_fewer old new handle r.less more).0 in
      omega arith)
      (λ q other live.
      subst (λ (n : ℕ). 1 ≤ n) (sym (same_holds old new q (r.others q other)))
      (is.some q (was_live old new q (r.others q other) live)))

  no_run : (q : ℕ) → (keys_at new q).kept ≡ []
  no_run =
      at_each (λ q. (keys_at new q).kept ≡ []) handle (by (cases_lt 1 (references_at old handle)))
      (λ q other. ap (λ (p : KeyTable). p.kept) (same_keys old new q (r.others q other)) ∙ is.ended q)
    where
      by : Either → (keys_at new handle).kept ≡ []
      by (inl more) = ap (λ (p : KeyTable). p.kept) (one_fewer old new handle r.less more).1 ∙ is.ended handle
      by (inr last) = ap (λ (o : Option LiveMap). (live_or o).keys.kept) (r.gone last)

  same_pairs : (q : ℕ) → IsSome (live_at new q) → map_in later new q ≡ map_in part old q
  same_pairs =
      at_each (λ q. IsSome (live_at new q) → map_in later new q ≡ map_in part old q) handle
      (λ live. (r.kept (more_held live (cases_lt 1 (references_at old handle))) there).1)
      (λ q other live. (r.maps q other (was_live old new q (r.others q other) live)).1)

  -- after a release each map that is still live has the shape, keys and values of before
  pub left_released : LeavesHeldMaps (record { live = old; part = part }) (record { live = new; part = later })
  left_released = record {
    held = record { within = λ q live. is.within q (was_there q live); some = some_hold; ended = no_run };
    stays = λ q live. (was_there q live, same_pairs q live);
    refused = r.refused;
    whole = r.whole;
  }
