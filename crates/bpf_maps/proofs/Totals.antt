-- Sums over the live maps.
use Rattle.std.proofs.Common.{◌≡◌, ◌≢◌, ℕ, zero, suc, ◌+◌, ◌<◌, ◌≤◌, false, List, [], ◌∷◌, length, take}
use Rattle.std.proofs.Common.{Option, Some, None, IsSome, is_some, refl, sym, ap, ◌∙◌, get_or, arith, true≢false}
use Rattle.bpf_maps.specs.Live.{LiveMap, LiveMaps, live_at, live_or, keys_at}
use Rattle.bpf_maps.specs.Sum.{weight, total}
use Rattle.bpf_maps.specs.LiveLaws.{total_same, total_next}

module _ (f : LiveMap → ℕ) where
  -- the sums of two lists whose numbers are equal at all indices but one
  pub total_but_one : (k : ℕ) (xs ys : List (Option LiveMap))
      → ((j : ℕ) → j ≢ k → weight f (get_or ys j None) ≡ weight f (get_or xs j None))
      → total f ys + weight f (get_or xs k None) ≡ total f xs + weight f (get_or ys k None)
  unfolding total
  total_but_one zero [] [] h = refl
  total_but_one zero [] (y ∷ ys) h =
      let r = total_same f [] ys (λ j. h (suc j) (λ e. absurd (omega arith))) in omega arith
  total_but_one zero (x ∷ xs) [] h =
      let r = total_same f xs [] (λ j. h (suc j) (λ e. absurd (omega arith))) in omega arith
  total_but_one zero (x ∷ xs) (y ∷ ys) h =
      let r = total_same f xs ys (λ j. h (suc j) (λ e. absurd (omega arith))) in omega arith
  total_but_one (suc k) [] [] h = refl
  total_but_one (suc k) [] (y ∷ ys) h =
      let r = total_but_one k [] ys (λ j ne. h (suc j) (λ e. ne (omega arith))) in
      let a = h 0 (λ e. absurd (omega arith)) in
      omega arith
  total_but_one (suc k) (x ∷ xs) [] h =
      let r = total_but_one k xs [] (λ j ne. h (suc j) (λ e. ne (omega arith))) in
      let a = h 0 (λ e. absurd (omega arith)) in
      omega arith
  total_but_one (suc k) (x ∷ xs) (y ∷ ys) h =
      let r = total_but_one k xs ys (λ j ne. h (suc j) (λ e. ne (omega arith))) in
      let a = h 0 (λ e. absurd (omega arith)) in
      omega arith

-- the number of an element is at most the sum
pub weight_most : (f : LiveMap → ℕ) (k : ℕ) (xs : List (Option LiveMap)) → weight f (get_or xs k None) ≤ total f xs
unfolding total
weight_most f k [] = omega arith
weight_most f zero (x ∷ xs) = omega arith
weight_most f (suc k) (x ∷ xs) = let r = weight_most f k xs in omega arith

-- ---- the sum over one more handle

keys_of_weight : (o : Option LiveMap) → weight (λ l. length l.keys.entries) o ≡ length (live_or o).keys.entries
keys_of_weight None = refl
keys_of_weight (Some l) = refl

-- the number of keys up to a handle is that of the maps at lower handles plus that of the map at this one
pub more_keys : (t : LiveMaps) (handle : ℕ)
    → handle < length t.maps
    → total (λ l. length l.keys.entries) (take (handle + 1) t.maps)
    ≡ total (λ l. length l.keys.entries) (take handle t.maps) + length (keys_at t handle).entries
more_keys t handle within =
    total_next (λ l. length l.keys.entries) handle t.maps within
    ∙ ap (λ (n : ℕ). total (λ l. length l.keys.entries) (take handle t.maps) + n) (keys_of_weight (live_at t handle))

module _ (f : LiveMap → ℕ) where
  weight_some : (o : Option LiveMap) → IsSome o → weight f o ≡ f (live_or o)
  weight_some None some = absurd (true≢false (sym some))
  weight_some (Some l) some = refl

  weight_none : (o : Option LiveMap) → is_some o ≡ false → weight f o ≡ 0
  weight_none None none = refl
  weight_none (Some l) none = absurd (true≢false none)

  module _ (t : LiveMaps) (handle : ℕ) (within : handle < length t.maps) where
    -- if the handle has a live map, the sum up to it is that over the lower handles plus the number of this map
    pub one_more_live : IsSome (live_at t handle)
        → total f (take (handle + 1) t.maps) ≡ total f (take handle t.maps) + f (live_or (live_at t handle))
    one_more_live live =
        total_next f handle t.maps within
        ∙ ap (λ (n : ℕ). total f (take handle t.maps) + n) (weight_some (live_at t handle) live)

    -- if the handle has no live map, the sum up to it is that over the lower handles
    pub no_more_live : is_some (live_at t handle) ≡ false
        → total f (take (handle + 1) t.maps) ≡ total f (take handle t.maps)
    no_more_live none =
        let next = total_next f handle t.maps within in
        let nothing = weight_none (live_at t handle) none in
        omega arith
