-- The live maps after one more hold.
use Rattle.std.proofs.Common.{◌≡◌, ◌≢◌, ℕ, ◌+◌, List, Option, Some, None, IsSome, is_some, refl, sym, ap, ◌∙◌, arith}
use Rattle.std.specs.Prelude.{option_map}
use Rattle.bpf_maps.specs.Live.{LiveMaps, LiveMap, live_or, live_at, references_at, keys_at, offset, one_more}
use Rattle.bpf_maps.specs.KeyTable.{KeyTable}
use Rattle.tenant.specs.Kept.{AreHeld, map_at}
use Rattle.tenant.specs.inside.Loading.{IsHeldMore}
use Rattle.tenant.proofs.AtHandles.{at_each, map_if, same_live}
use Rattle.tenant.proofs.Releases.{one_at, here_one, none_one}

-- the live maps after a hold of the map of a handle
pub record IsHeld (old new : LiveMaps) (handle : ℕ) : Type 0 where
  -- the live map of the handle is that of before with one more hold
  pub more : live_at new handle ≡ option_map one_more (live_at old handle)
  -- the handle has a live map
  pub live : IsSome (live_at new handle)
  -- its map has one more hold
  pub holds : references_at new handle ≡ references_at old handle + 1
  -- the table of keys of its map is not changed
  pub keys : keys_at new handle ≡ keys_at old handle
  -- the live map of another handle is not changed
  pub others : (other : ℕ) → other ≢ handle → live_at new other ≡ live_at old other
  -- the flag of refused memory is not changed
  pub refused : new.refused ≡ old.refused

same_map : (part : List ℕ) (o : Option LiveMap) → map_if part (option_map one_more o) ≡ map_if part o
unfolding offset
same_map part None = refl
same_map part (Some l) = refl

module _ {old new : LiveMaps} {handle : ℕ} (is : AreHeld old) (there : IsSome (live_at old handle))
    (h : IsHeld old new handle) where
  was_live : (q : ℕ) → IsSome (live_at new q) → IsSome (live_at old q)
  was_live =
      at_each (λ q. IsSome (live_at new q) → IsSome (live_at old q)) handle (λ live. there)
      (λ q other live. ap (λ (o : Option LiveMap). is_some o) (sym (h.others q other)) ∙ live)

  same_keys_at : (q : ℕ) → keys_at new q ≡ keys_at old q
  same_keys_at =
      at_each (λ q. keys_at new q ≡ keys_at old q) handle h.keys
      (λ q other. ap (λ (o : Option LiveMap). (live_or o).keys) (h.others q other))

  -- the map of this handle has one more hold, and each other map as many as before
  pub holds_one : (q : ℕ) → references_at new q ≡ references_at old q + one_at handle q
  holds_one =
      at_each (λ q. references_at new q ≡ references_at old q + one_at handle q) handle
      (let one = here_one handle handle refl in let more = h.holds in omega arith)
      (λ q other.
      let same = ap (λ (o : Option LiveMap). (live_or o).holds) (h.others q other) in
      let none = none_one handle q other in
      omega arith)

  -- after one more hold the same maps are live
  pub held_one : IsHeldMore old new
  held_one = record {
    held = record {
      within = λ q live. is.within q (was_live q live);
      some = λ q live. let was = is.some q (was_live q live) in let more = holds_one q in omega arith;
      ended = λ q. ap (λ (p : KeyTable). p.kept) (same_keys_at q) ∙ is.ended q;
    };
    live =
        at_each (λ q. IsSome (live_at old q) → IsSome (live_at new q)) handle (λ was. h.live)
        (λ q other was. ap (λ (o : Option LiveMap). is_some o) (h.others q other) ∙ was);
    shape = λ q. ap (λ (p : KeyTable). p.shape) (same_keys_at q);
    same = λ part.
        at_each (λ q. map_at part new q ≡ map_at part old q) handle
        (ap (map_if part) h.more ∙ same_map part (live_at old handle))
        (λ q other. same_live part old new q (h.others q other));
    refused = h.refused;
  }

-- without one more hold the same maps are live
pub held_all : {live : LiveMaps} → AreHeld live → IsHeldMore live live
held_all is = record { held = is; live = λ q there. there; shape = λ q. refl; same = λ part q. refl; refused = refl }

-- if the same maps are live after some holds, and then after others, they are live after all of them
pub held_then : {a b c : LiveMaps} → IsHeldMore a b → IsHeldMore b c → IsHeldMore a c
held_then h k = record {
  held = k.held;
  live = λ q there. k.live q (h.live q there);
  shape = λ q. k.shape q ∙ h.shape q;
  same = λ part q. k.same part q ∙ h.same part q;
  refused = k.refused ∙ h.refused;
}
