-- What callers can conclude about live maps.
use Rattle.std.proofs.Common.{◌≡◌, ◌≢◌, ℕ, ◌+◌, ◌-◌, List, ◌++◌, length, take, drop, Option, IsSome, is_some, Result, Ok, Err, ap, ◌∙◌, arith}
use Rattle.std.specs.Result.{OnErr}
use Rattle.std.proofs.lemmas.List.{drop-drop}
use Rattle.words.specs.Bytes.{written_at}
use Rattle.tagged_model.specs.declared.fault.MapFault.{MapFault}
use Rattle.tagged_model.specs.Table as map
use Rattle.bpf_maps.specs.KeyTable.{KeyTable, Claims, Removes}
use Rattle.bpf_maps.specs.Live.{LiveMap, LiveMaps, live_at, live_or, keys_at, map_in, SameAreas, KeepsMap}
use Rattle.bpf_maps.specs.InPart.{IsValueAt, with_value, ValuesAreWritten, LiveMapsRefineValues}

-- what holds in any case holds if a result is an error
pub on_err : {T E P : Type 0} (r : Result T E) → P → OnErr r P
on_err (Ok x) p = tt
on_err (Err e) p = p

-- the bytes that were copied into a part
pub copied_is : (part copied value : List ℕ) (start at : ℕ) → copied ≡ value → start ≡ at
    → take start part ++ (copied ++ drop (start + length value - start) (drop start part)) ≡ written_at part at value
copied_is part copied value start at same there =
    let few : start + length value - start ≡ length value = omega arith in
    ap (λ (w : List ℕ). take start part ++ (w ++ drop (start + length value - start) (drop start part))) same
    ∙ ap (λ (n : ℕ). take start part ++ (value ++ drop n (drop start part))) few
    ∙ ap (λ (x : List ℕ). take start part ++ (value ++ x)) (drop-drop (length value) start part)
    ∙ ap (λ (n : ℕ). written_at part n value) there

-- ---- refusals

-- a claim that returns a fault does not change the table of keys
pub not_claimed : (v : map.Verdict ℕ) (key : List ℕ) (old new : KeyTable) (fault : MapFault)
    → Claims v key old (Err fault) new → new ≡ old
not_claimed (map.Refused f) key old new fault h = h.1
not_claimed (map.Present p) key old new fault h = absurd (no_element h.0)
  where
    no_element : ◌≡◌ {A = Result ℕ MapFault} (Err fault) (Ok p) → ⊥
    no_element e = cc
not_claimed map.New key old new fault h = absurd h

-- a delete that returns a fault does not change the table of keys
pub not_removed : (v : Result ℕ MapFault) (key : List ℕ) (old new : KeyTable) (fault : MapFault)
    → Removes v key old (Err fault) new → new ≡ old
not_removed (Err f) key old new fault h = h.1
not_removed (Ok p) key old new fault h = absurd (no_element h.0)
  where
    no_element : ◌≡◌ {A = Result (Unit {0}) MapFault} (Err fault) (Ok tt) → ⊥
    no_element e = cc

module _ (along : LiveMapsRefineValues) (part : List ℕ) (old new : LiveMaps) (k : ℕ)
    (areas : SameAreas old new) (live : IsSome (live_at new k)) where
  -- a live map whose table of keys is not changed still has the same keys and values
  pub keeps : keys_at new k ≡ keys_at old k → KeepsMap k old part new part
  keeps keys was = (live, (along part old new k areas live).same keys)

  -- a delete from the table of keys deletes the key from the map of values
  pub removed : (v : Result ℕ MapFault) (key : List ℕ) (done : Unit {0})
      → Removes v key (keys_at old k) (Ok done) (keys_at new k)
      → map_in part new k ≡ map.with_deleted (map_in part old k) key
  removed (Ok p) key done h = (along part old new k areas live).delete key p h.1
  removed (Err f) key done h = absurd (no_fault h.0)
    where
      no_fault : ◌≡◌ {A = Result (Unit {0}) MapFault} (Ok done) (Err f) → ⊥
      no_fault e = cc

  -- a map that the call does not change is still live, with the same keys and values
  pub others_stay : (j : ℕ) → live_at new j ≡ live_at old j → KeepsMap j old part new part
  others_stay j same was =
      let still : IsSome (live_at new j) = ap is_some same ∙ was in
      (still, (along part old new j areas still).same (ap (λ (o : Option LiveMap). (live_or o).keys) same))

-- a value that is written into one map
pub keeps_written : ValuesAreWritten
    → (part : List ℕ) (old new : LiveMaps) (k p : ℕ) (bytes : List ℕ) (j : ℕ)
    → IsValueAt part new k p bytes → j ≢ k
    → KeepsMap j old part new part
    → KeepsMap j old part new (with_value part new k p bytes)
keeps_written writes part old new k p bytes j is differ keeps was =
    let (still, same) = keeps was in
    (still, (writes part new k p bytes is).others j differ still ∙ same)
