-- Laws of live maps and of the changes by calls, proved here for the proofs of this crate and of
-- the crates above. This project's own. No contract cites them, so they are not part of what has to
-- be trusted.
use Rattle.std.proofs.Common.{◌≡◌, ◌≢◌, ℕ, zero, suc, ◌+◌, ◌<◌, ◌≤◌, ◌⊎◌, inl, inr, false, cond, List, [], ◌∷◌, length, take}
use Rattle.std.proofs.Common.{Option, Some, None, IsSome, is_some, refl, sym, subst, ap, ap₂, ◌∙◌, get_or, arith, true≢false}
use Rattle.std.specs.Prelude.{is_none, position, nat_lt}
use Rattle.std.specs.List.{position_or_len}
use Rattle.std.proofs.lemmas.Bool.{false≢true, lt-ltb, cases_lt}
use Rattle.std.proofs.lemmas.List.Quantifiers.{position-Some}
use Rattle.std.proofs.lemmas.Option.{none-some}
use Rattle.bpf_maps.specs.declared.elements.Elements.{Elements}
use Rattle.bpf_maps.specs.Elements.{elements_of, elements_at}
use Rattle.bpf_maps.specs.Sum.{weight, total}
use Rattle.bpf_maps.specs.Live.{LiveMap, LiveMaps, live_at, live_or, shape_at, free_handle, offset, offset_at, LiesInPart, IsLaid, SameAreas, OnlyKeysChange}

-- if f gives equal numbers at each index of two lists of options, 0 for None and after the end, the
-- sums of these numbers over the lists are equal
pub total_same : {A : Type 0} (f : A → ℕ) (xs ys : List (Option A))
    → ((j : ℕ) → weight f (get_or ys j None) ≡ weight f (get_or xs j None))
    → total f ys ≡ total f xs
unfolding total
total_same f [] [] h = refl
total_same f [] (y ∷ ys) h =
    let r = total_same f [] ys (λ j. h (suc j)) in let a = h 0 in omega arith
total_same f (x ∷ xs) [] h =
    let r = total_same f xs [] (λ j. h (suc j)) in let a = h 0 in omega arith
total_same f (x ∷ xs) (y ∷ ys) h =
    ap₂ (λ (m n : ℕ). m + n) (h 0) (total_same f xs ys (λ j. h (suc j)))

-- if a list of options has an index n (`n < length xs`), the sum over its first n + 1 options is
-- the sum over the first n, plus the number for the option at index n: f x for Some x, 0 for None
-- (`weight`). The induction needs the successor `suc n`; `total_next` has n + 1, for the proofs of
-- the loops that count by handle a tenant's live maps or their keys (`live_count`, `key_sum`), or
-- by descriptor its open objects or programs (`open_count`, `program_count`)
total_after : {A : Type 0} (f : A → ℕ) (n : ℕ) (xs : List (Option A))
    → n < length xs
    → total f (take (suc n) xs) ≡ total f (take n xs) + weight f (get_or xs n None)
unfolding total
total_after f n [] within = absurd (omega arith)
total_after f zero (x ∷ xs) within = omega arith
total_after f (suc n) (x ∷ xs) within =
    let rest = total_after f n xs (omega arith) in omega arith

-- the sum over the first n + 1 options of a list is that over the first n, plus the number that f
-- gives at index n, 0 for None: `total_after`, with n + 1 written for the successor
pub total_next : {A : Type 0} (f : A → ℕ) (n : ℕ) (xs : List (Option A))
    → n < length xs
    → total f (take (n + 1) xs) ≡ total f (take n xs) + weight f (get_or xs n None)
total_next f n xs within =
    let next : n + 1 ≡ suc n = omega arith in
    ap (λ (k : ℕ). total f (take k xs)) next ∙ total_after f n xs within

-- `slots` is the list xs, which has Some at index k, with None there instead: one option less is
-- Some, and at each other index the lists are equal
record IsWithout {A : Type 0} (k : ℕ) (xs : List (Option A)) : Type 0 where
  slots : List (Option A)
  fewer : total (λ x. 1) slots + 1 ≡ total (λ x. 1) xs
  others : (j : ℕ) → j ≢ k → get_or slots j None ≡ get_or xs j None

-- if the list xs has Some at index k (the argument `some`), this gives a list (`slots` of
-- `IsWithout`) that has None at k, equals xs at each other index, and so has one Some less. The
-- first two equations are for lists that can't have Some at k: an empty one, and for k = 0 one that
-- begins with None. For the induction of `enough_present`, which removes one of the n indices with
-- Some in each step
without_option_at : {A : Type 0} (k : ℕ) (xs : List (Option A))
    → IsSome (get_or xs k None)
    → IsWithout k xs
unfolding total
without_option_at k [] some = absurd (false≢true some)
without_option_at zero (None ∷ xs) some = absurd (false≢true some)
without_option_at zero (Some x ∷ xs) some = record {
  slots = None ∷ xs;
  fewer = omega arith;
  others = λ j. none_else j;
}
  where
    none_else : (j : ℕ) → j ≢ 0 → get_or (None ∷ xs) j None ≡ get_or (Some x ∷ xs) j None
    none_else zero h = absurd (h refl)
    none_else (suc j) h = refl
without_option_at (suc k) (x ∷ xs) some =
    let rest = without_option_at k xs some in
    record {
      slots = x ∷ rest.slots;
      fewer = let one = rest.fewer in omega arith;
      others = λ j. later rest j;
    }
  where
    later : (rest : IsWithout k xs) (j : ℕ)
        → j ≢ suc k
        → get_or (x ∷ rest.slots) j None ≡ get_or (x ∷ xs) j None
    later rest zero h = refl
    later rest (suc j) h = rest.others j (λ e. h (omega arith))

-- if a list xs of options has Some at n different indices, at least n of its options are Some:
-- `total` adds 1 for each Some. The indices are `at 0` to `at (n - 1)`; xs has Some at each
-- (`used`), and no two are equal (`apart`). By induction on n: for n = m + 1, `rest` has the list
-- xs with None at index `at m` (`slots`). That has one Some less (`fewer`), and Some at the m other
-- indices. `few_handles` uses the law for n handles that have live maps, with a tenant's list of
-- maps by handle as xs
enough_present : {A : Type 0} (n : ℕ) (at : ℕ → ℕ) (xs : List (Option A))
    → ((i : ℕ) → i < n → IsSome (get_or xs (at i) None))
    → ((i j : ℕ) → i < n → j < n → at i ≡ at j → i ≡ j)
    → n ≤ total (λ x. 1) xs
enough_present zero at xs used apart = omega arith
enough_present (suc m) at xs used apart =
    let rest = without_option_at (at m) xs (used m (omega arith)) in
    let fewer = rest.fewer in
    let most = enough_present m at rest.slots
    (λ i lt.
    subst IsSome
    (sym
    (rest.others (at i)
    (λ e.
    absurd (let same : i ≡ m = apart i m (omega arith) (omega arith) e in omega arith))))
    (used i (omega arith)))
    (λ i j lt less e. apart i j (omega arith) (omega arith) e) in
    omega arith

-- the number of Some in a list xs of options is at most the length of xs: `total (λ x. 1) xs` is
-- this number, since it adds 1 for each Some and 0 for each None. `rest` is the law for the list
-- without its first option. `few_handles` uses it: a tenant has no more live maps than handles
most_present : {A : Type 0} (xs : List (Option A)) → total (λ x. 1) xs ≤ length xs
unfolding total
most_present [] = omega arith
most_present (None ∷ xs) = let rest = most_present xs in omega arith
most_present (Some x ∷ xs) = let rest = most_present xs in omega arith

-- if n different handles have live maps, n is at most the number of handles of a tenant
pub few_handles : (n : ℕ) (handle : ℕ → ℕ) (tenant : LiveMaps)
    → ((i : ℕ) → i < n → IsSome (live_at tenant (handle i)))
    → ((i j : ℕ) → i < n → j < n → handle i ≡ handle j → i ≡ j)
    → n ≤ length tenant.maps
few_handles n handle tenant live apart =
    let few = enough_present n handle tenant.maps live apart in
    let most = most_present tenant.maps in omega arith

-- if the list xs has Some at index k, k is less than the length of xs. An empty list has no Some,
-- since `get_or` gives None past the end; else k is 0, or the law is used for k - 1 and the list
-- without its first item. For `live_within`, with a tenant's maps by handle as xs
some_within : {A : Type 0} (k : ℕ) (xs : List (Option A))
    → IsSome (get_or xs k None)
    → k < length xs
some_within k [] some = absurd (false≢true some)
some_within zero (x ∷ xs) some = omega arith
some_within (suc k) (x ∷ xs) some = let rest = some_within k xs some in omega arith

-- the handle of a live map is less than the number of handles
pub live_within : (k : ℕ) (tenant : LiveMaps) → IsSome (live_at tenant k) → k < length tenant.maps
live_within k tenant live = some_within k tenant.maps live

-- ---- the lowest free handle

-- if two lists of options have equal lengths (`long`), and at each index both have Some, of any
-- values, or both have None (`same`), the first index with None, or the length if no index has None
-- (`position_or_len`), is equal in both. In four equations only one list is empty, or only one
-- begins with None: these contradict `long` or `same`. For `same_lowest`, by which the lowest free
-- handle is equal in two lists by handle, such as a tenant's live maps and their slab keys
same_first_none : {A B : Type 0} (xs : List (Option A)) (ys : List (Option B))
    → length xs ≡ length ys
    → ((k : ℕ) → is_some (get_or xs k None) ≡ is_some (get_or ys k None))
    → position_or_len is_none xs ≡ position_or_len is_none ys
same_first_none [] [] long same = refl
same_first_none [] (y ∷ ys) long same = absurd (omega arith)
same_first_none (x ∷ xs) [] long same = absurd (omega arith)
same_first_none (None ∷ xs) (None ∷ ys) long same = refl
same_first_none (None ∷ xs) (Some y ∷ ys) long same = absurd (false≢true (same 0))
same_first_none (Some x ∷ xs) (None ∷ ys) long same = absurd (true≢false (same 0))
same_first_none (Some x ∷ xs) (Some y ∷ ys) long same =
    ap (λ (n : ℕ). 1 + n) (same_first_none xs ys (omega arith) (λ k. same (suc k)))

-- if two lists of options have one length, and Some at the same indices, the lowest index with None
-- is equal in both; `position` is None if there is no such index
pub same_lowest : {A B : Type 0} (xs : List (Option A)) (ys : List (Option B))
    → length xs ≡ length ys
    → ((k : ℕ) → is_some (get_or xs k None) ≡ is_some (get_or ys k None))
    → position is_none xs ≡ position is_none ys
same_lowest xs ys long same =
    ap₂ (λ (n len : ℕ). cond (nat_lt n len) (Some n) None) (same_first_none xs ys long same) long

-- the lowest free handle is the same if the same handles have a map
pub same_free_handle : (old new : LiveMaps)
    → length new.maps ≡ length old.maps
    → ((k : ℕ) → is_some (live_at new k) ≡ is_some (live_at old k))
    → free_handle new ≡ free_handle old
same_free_handle old new long same = same_lowest new.maps old.maps long same

-- if a list of options has None at index k (`free`), the first index with None (`position_or_len`)
-- is at most k. That k is less than the length has to be required (`within`), since `get_or` is
-- None past the end too. An empty list contradicts `within`; Some at index k, here zero,
-- contradicts `free`. For `some_handle_free`: if some handle is free, there is a lowest free one
front_most : {A : Type 0} (k : ℕ) (xs : List (Option A))
    → k < length xs
    → get_or xs k None ≡ None
    → position_or_len is_none xs ≤ k
front_most k [] within free = absurd (omega arith)
front_most k (None ∷ xs) within free = omega arith
front_most zero (Some x ∷ xs) within free = absurd (none-some x (sym free))
front_most (suc k) (Some x ∷ xs) within free =
    let rest = front_most k xs (omega arith) free in omega arith

-- the lowest free handle is no higher than any free handle
pub lowest_most : (lowest k : ℕ) (tenant : LiveMaps)
    → free_handle tenant ≡ Some lowest
    → live_at tenant k ≡ None
    → lowest ≤ k
lowest_most lowest k tenant is free = by_order (cases_lt k lowest)
  where
    by_order : (k < lowest) ⊎ (lowest ≤ k) → lowest ≤ k
    by_order (inl lower) =
        absurd
        (true≢false
        (sym (ap is_none free) ∙ (position-Some is_none tenant.maps lowest None is).2 k lower))
    by_order (inr high) = high

-- there is a lowest free handle if a handle has no map
pub some_handle_free : (k : ℕ) (tenant : LiveMaps)
    → k < length tenant.maps
    → live_at tenant k ≡ None
    → is_none (free_handle tenant) ≡ false
some_handle_free k tenant within free =
    let most = front_most k tenant.maps within free in
    ap (λ b. is_none (cond b (Some (position_or_len is_none tenant.maps)) None))
    (lt-ltb (position_or_len is_none tenant.maps) (length tenant.maps) (omega arith))

-- the value of an element of a live map lies in the part
pub laid_inside : (tenant : LiveMaps)
    → IsLaid tenant
    → (k p : ℕ)
    → IsSome (live_at tenant k)
    → p < (shape_at tenant k).max_entries
    → LiesInPart (offset_at tenant k p) (shape_at tenant k).value_size
laid_inside tenant laid k p live lt = by (live_at tenant k) refl live lt
  where
    by : (o : Option LiveMap)
        → live_at tenant k ≡ o
        → IsSome o
        → p < (live_or o).keys.shape.max_entries
        → LiesInPart (offset (live_or o) p) (live_or o).keys.shape.value_size
    by None e some lt = absurd (false≢true some)
    by (Some l) e some lt = laid.inside k p l e lt

-- all areas are the same if nothing changes
pub same_areas : (tenant : LiveMaps) → SameAreas tenant tenant
same_areas tenant k l e = (l, e, refl, refl, refl)

-- if a change keeps all areas, a map that is live after it has the same `Elements`, a count and a
-- distance, before and after it
pub same_elements : (old new : LiveMaps) (k : ℕ)
    → SameAreas old new
    → IsSome (live_at new k)
    → elements_at new k ≡ elements_at old k
same_elements old new k areas live = by (live_at new k) refl live
  where
    shown : Option LiveMap → Elements
    shown o = elements_of (live_or o).keys.shape

    by : (o : Option LiveMap)
        → live_at new k ≡ o
        → IsSome o
        → shown (live_at new k) ≡ shown (live_at old k)
    by None e some = absurd (false≢true some)
    by (Some l) e some =
        let was = areas k l e in ap shown e ∙ ap elements_of was.2 ∙ sym (ap shown was.1)

-- if two changes each keep the areas, so do both together, one after the other
pub areas_along : (old mid new : LiveMaps)
    → SameAreas old mid
    → SameAreas mid new
    → SameAreas old new
areas_along old mid new first then k l e =
    let m = then k l e in
    let o = first k m.0 m.1 in
    (o.0, o.1, m.2 ∙ o.2, m.3 ∙ o.3, m.4 ∙ o.4)

-- two changes of one map's keys, one after the other, change only its keys; `key` is the map's
-- handle
pub keys_along : (key : ℕ) (old mid new : LiveMaps)
    → OnlyKeysChange key old mid
    → OnlyKeysChange key mid new
    → OnlyKeysChange key old new
keys_along key old mid new first then = record {
  live = then.live;
  holds = then.holds ∙ first.holds;
  shape = then.shape ∙ first.shape;
  sound = then.sound;
  others = λ other apart. then.others other apart ∙ first.others other apart;
  areas = areas_along old mid new first.areas then.areas;
  room = then.room ∙ first.room;
  laid = then.laid;
  refused = then.refused ∙ first.refused;
}
