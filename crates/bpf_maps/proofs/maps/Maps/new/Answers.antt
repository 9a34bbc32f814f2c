-- `new` of `Maps`: by induction over the number of handles, none of them has a key of the slab. So none has a map, the areas take no bytes,
-- and what the invariant requires of each key and each map holds, since no map exists.
use Rattle.std.proofs.Common.{◌≡◌, ℕ, zero, suc, List, Option, Some, None, refl, sym, ap, ◌∙◌, arith, get_or, replicate, length, is_some, count_by}
use Rattle.std.proofs.lemmas.Option.{none-some}
use Rattle.slab.specs.Slab.{Slab}
use Rattle.bpf_maps.specs.declared.part.TheConstants.{MAPS}
use Rattle.bpf_maps.specs.declared.stored_map.StoredMap.{StoredMap}
use Rattle.bpf_maps.specs.Live.{LiveMap, area_of}
use Rattle.bpf_maps.specs.Sum.{total}
use Rattle.bpf_maps.specs.InMaps.{live_maps_of, by_handle}
use Rattle.bpf_maps.proofs.ByHandle.{no_key}
use Rattle.bpf_maps.proofs.maps.Maps.new.Goals as goal

-- no handle has a key, or a map
none_at : {A : Type 0} (n p : ℕ) → get_or (replicate n (let none : Option A = None in none)) p None ≡ None
none_at zero p = refl
none_at (suc n) zero = refl
none_at (suc n) (suc p) = none_at n p

module _ {keys : List (Option ℕ)} (none : keys ≡ replicate MAPS None) (maps : Slab StoredMap) where
  without_key : (k : ℕ) → get_or keys k None ≡ None
  without_key k = ap (λ (xs : List (Option ℕ)). get_or xs k None) none ∙ none_at MAPS k

  unkeyed : (k key : ℕ) → get_or keys k None ≡ Some key → ⊥
  unkeyed k key at = none-some key (sym (without_key k) ∙ at)

  empty : (k : ℕ) (e : StoredMap) → get_or (by_handle keys maps) k None ≡ Some e → ⊥
  empty k e at = none-some e (sym (no_key maps keys k (without_key k)) ∙ at)

  no_maps : live_maps_of (by_handle keys maps) ≡ replicate MAPS None
  no_maps = ap (λ (xs : List (Option ℕ)). live_maps_of (by_handle xs maps)) none

  no_bytes : total area_of (live_maps_of (by_handle keys maps)) ≡ 0
  unfolding total
  no_bytes = ap (λ (lives : List (Option LiveMap)). total area_of lives) no_maps

pub invariant_of-result : goal.invariant_of-result
invariant_of-result c =
    let none = c.new.ensures in
    let maps = c.in_ok-maps.maps in
    record {
      keys = record {
        long = ap (λ (xs : List (Option ℕ)). length xs) none;
        there = λ k key at. absurd (unkeyed none maps k key at);
        own = λ k j key at bt. absurd (unkeyed none maps k key at);
        all =
            ap (λ (xs : List (Option StoredMap)). count_by is_some xs) c.in_ok-maps.ensures.empty
            ∙ sym (ap (λ (xs : List (Option ℕ)). count_by is_some xs) none);
      };
      room = c.in_ok-maps.ensures.capacity;
      placed = λ k e at. absurd (empty none maps k e at);
      apart = λ k j e f at bt ne. absurd (empty none maps k e at);
      sum = sym (no_bytes none maps);
      few = omega arith;
      aligned = refl;
    }

pub returns-clause-maps : goal.returns-clause-maps
returns-clause-maps c = no_maps c.new.ensures c.in_ok-maps.maps

pub returns-clause-none : goal.returns-clause-none
returns-clause-none c = λ k.
    ap (λ (lives : List (Option LiveMap)). get_or lives k None) (no_maps c.new.ensures c.in_ok-maps.maps)
    ∙ none_at MAPS k

pub returns-clause-bytes : goal.returns-clause-bytes
returns-clause-bytes c = no_bytes c.new.ensures c.in_ok-maps.maps
