-- The state after a deletion.
use Rattle.std.proofs.Common.{◌≡◌, ◌≢◌, ℕ, List, [], length, Result, Ok, Err, refl, sym, ap, ◌∙◌}
use Rattle.std.specs.Result.{result_map_both}
use Rattle.bpf_maps.specs.Live.{LiveMaps, keys_at, shape_at, map_in, value_in, OnlyKeysChange}
use Rattle.bpf_maps.specs.LiveLaws.{keys_along}
use Rattle.bpf_maps.specs.InPart.{LiveMapsRefineValues}
use Rattle.bpf_maps.specs.KeyTable.{KeyTable, table_of, Removes, with_kept, after_run}
use Rattle.tagged_model.specs.MapLaws.{CallsRefineValues}
use Rattle.tagged_model.specs.declared.fault.MapFault.{MapFault}
use Rattle.tagged_model.specs.Table as call
use Rattle.tagged_model.specs.Table.{removal, with_deleted}
use Rattle.tenant.specs.Errno.{map_errno}
use Rattle.tenant.specs.State.{with_map_at}
use Rattle.tenant.specs.Machine.{Answer, gives, refuses, element_taken_out, element_deleted}
use Rattle.tenant.specs.Kept.{KeptTenant, IsWellFormedTenant, state_in}
use Rattle.tenant.specs.inside.Named.{IsMapOf}
use Rattle.tenant.proofs.AtHandles.{same_live}
use Rattle.tenant.proofs.LookUps.{on_map_is, has_size, same_size}
use Rattle.tenant.proofs.OneMap.{one_map, no_map, each_same}
use Rattle.tenant.proofs.StillKept.{with_live, keys_kept}

-- ---- the result of the call

abbrev Done : Type 0
Done = Result (Unit {0}) MapFault

no_ok : (fault : MapFault) → let a : Done = Err fault in let b : Done = Ok tt in a ≢ b
no_ok fault e = cc

same_fault : (a b : MapFault) → let x : Done = Err a in let y : Done = Err b in x ≡ y → a ≡ b
same_fault a b e = cc

-- a deletion that is rejected
refused_delete : (fault : MapFault) (r : Result ℕ MapFault) (key : List ℕ) (old new : KeyTable)
    → Removes r key old (Err fault) new → (r ≡ Err fault) × (new ≡ old)
refused_delete fault (Err other) key old new (is, same) = (ap Err (same_fault other fault (sym is)), same)
refused_delete fault (Ok p) key old new (is, same) = absurd (no_ok fault is)

-- a deletion that removed the key
done_delete : (r : Result ℕ MapFault) (key : List ℕ) (old new : KeyTable)
    → Removes r key old (Ok tt) new → (p : ℕ) × (r ≡ Ok p) × (new ≡ with_kept old key p)
done_delete (Err other) key old new (is, same) = absurd (no_ok other (sym is))
done_delete (Ok p) key old new (is, same) = (p, refl, same)

-- ---- the whole command

-- the key was removed from the map that the descriptor names, or this was rejected
pub record IsRemoved (k : KeptTenant) (t : LiveMaps) (fd m : ℕ) (key : List ℕ) (r : Done) : Type 0 where
  -- the descriptor names the live map of the handle
  pub found : IsMapOf k fd m
  -- the key has the map's key size
  pub size : length key ≡ (shape_at k.live m).key_size
  -- the key is removed from the map's table of keys, or this is rejected
  pub removed : Removes (removal (table_of (keys_at k.live m)) key) key (keys_at k.live m) r (keys_at t m)
  -- only the keys of this map and their elements change
  pub rest : OnlyKeysChange m k.live t
  -- the flag of refused memory is not changed
  pub refused : t.refused ≡ k.live.refused

-- after that the run on the map is ended: no element of it is kept apart
pub record IsEnded (m : ℕ) (old new : LiveMaps) : Type 0 where
  -- the keys of the map and their elements are not changed, and no element is kept apart
  pub ended : keys_at new m ≡ after_run (keys_at old m)
  -- only the keys of this map and their elements change
  pub rest : OnlyKeysChange m old new
  -- the flag of refused memory is not changed
  pub refused : new.refused ≡ old.refused

-- after a deletion that is rejected the tenant is well formed
pub unremoved_kept : {k : KeptTenant} {t : LiveMaps} {fd m : ℕ} {key : List ℕ} {f : MapFault}
    → IsWellFormedTenant k → IsRemoved k t fd m key (Err f)
    → IsWellFormedTenant (with_live k t)
unremoved_kept {k} {t} {fd} {m} {key} {f} is c =
    let (seen, same) =
    refused_delete f (removal (table_of (keys_at k.live m)) key) key (keys_at k.live m) (keys_at t m) c.removed in
    keys_kept is c.found.live c.rest (ap (λ (p : KeyTable). p.kept) same ∙ is.maps.ended m)

-- after a deletion and the end of the run on the map the tenant is well formed
pub removed_kept : {k : KeptTenant} {t u : LiveMaps} {fd m : ℕ} {key : List ℕ} {r : Done}
    → IsWellFormedTenant k → IsRemoved k t fd m key r
    → IsEnded m t u
    → IsWellFormedTenant (with_live k u)
removed_kept {k} {t} {u} {fd} {m} is c e =
    keys_kept is c.found.live (keys_along m k.live t u c.rest e.rest) (ap (λ (p : KeyTable). p.kept) e.ended)

-- the reply, by the result of the removal
abbrev taken_out : List ℕ → KeptTenant → ℕ → List ℕ → Result ℕ MapFault → Answer
taken_out part k m key r =
    element_taken_out (state_in part k) m (map_in part k.live m) key
    (result_map_both (value_in part k.live m) (λ fault. fault) r)

delete_is : CallsRefineValues ℕ (List ℕ)
    → (part : List ℕ) {k : KeptTenant} {t : LiveMaps} {fd m : ℕ} {key : List ℕ} {r : Done}
    → IsRemoved k t fd m key r
    → element_deleted (state_in part k) fd key ≡ taken_out part k m key (removal (table_of (keys_at k.live m)) key)
delete_is calls part {k} {t} {fd} {m} {key} c =
    let s = state_in part k in
    on_map_is part (has_size key)
    (λ p u. element_taken_out s p u key (removal u key))
    c.found (same_size (length key) c.size)
    ∙ ap (element_taken_out s m (map_in part k.live m) key)
    (calls.removal (value_in part k.live m) (table_of (keys_at k.live m)) key)

-- the reply to a deletion that is rejected, and the state after it, are those of the machine
pub delete_refused : LiveMapsRefineValues
    → CallsRefineValues ℕ (List ℕ)
    → (part : List ℕ) {k : KeptTenant} {t : LiveMaps} {fd m : ℕ} {key : List ℕ} {f : MapFault}
    → IsRemoved k t fd m key (Err f)
    → refuses (map_errno f) (state_in part (with_live k t)) ≡ element_deleted (state_in part k) fd key
delete_refused along calls part {k} {t} {fd} {m} {key} {f} c =
    let (seen, same) =
    refused_delete f (removal (table_of (keys_at k.live m)) key) key (keys_at k.live m) (keys_at t m) c.removed in
    let here = (along part k.live t m c.rest.areas c.rest.live).same same in
    let state =
    no_map part part k t (each_same part k.live t m c.found.live c.rest.live here c.rest.others) c.refused in
    ap (refuses (map_errno f)) state ∙ ap (taken_out part k m key) (sym seen) ∙ sym (delete_is calls part c)

-- the reply to a deletion that succeeds, and the state after it, are those of the machine
pub deleted : LiveMapsRefineValues
    → CallsRefineValues ℕ (List ℕ)
    → (part : List ℕ) {k : KeptTenant} {t u : LiveMaps} {fd m : ℕ} {key : List ℕ}
    → IsRemoved k t fd m key (Ok tt) → IsEnded m t u
    → gives [] (state_in part (with_live k u)) ≡ element_deleted (state_in part k) fd key
deleted along calls part {k} {t} {u} {fd} {m} {key} c e =
    let T = map_in part k.live m in
    let (p, seen, kept) =
    done_delete (removal (table_of (keys_at k.live m)) key) key (keys_at k.live m) (keys_at t m) c.removed in
    let rest = keys_along m k.live t u c.rest e.rest in
    let changed : map_in part u m ≡ call.after_run (with_deleted T key) =
    (along part t u m e.rest.areas e.rest.live).end e.ended
    ∙ ap call.after_run ((along part k.live t m c.rest.areas c.rest.live).delete key p kept) in
    let state : state_in part (with_live k u) ≡ with_map_at (state_in part k) m (call.after_run (with_deleted T key)) =
    one_map part part k u m c.found.within rest.live
    (λ other apart. same_live part k.live u other (rest.others other apart))
    changed (e.refused ∙ c.refused) in
    ap (gives []) state ∙ ap (taken_out part k m key) (sym seen) ∙ sym (delete_is calls part c)
