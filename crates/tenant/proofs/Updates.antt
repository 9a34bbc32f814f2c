-- The state after an update.
use Rattle.std.proofs.Common.{◌≡◌, ◌≢◌, ℕ, ◌+◌, Bool, List, [], length, take, drop, Option, Result, Ok, Err, refl, sym, ap, subst, ◌∙◌, arith, length-drop}
use Rattle.std.specs.Prelude.{◌==◌, ◌||◌}
use Rattle.bpf_maps.specs.Live.{LiveMaps, keys_at, shape_at, map_in, value_in, OnlyKeysChange}
use Rattle.bpf_maps.specs.KeyTable.{KeyTable, table_of, Claims}
use Rattle.bpf_maps.specs.InPart.{updated as change, IsValueAt, with_value, ValuesAreWritten, LiveMapsRefineValues}
use Rattle.tagged_model.specs.MapLaws.{CallsRefineValues}
use Rattle.tagged_model.specs.declared.fault.MapFault.{MapFault}
use Rattle.tagged_model.specs.declared.shape.MapShape.{MapShape}
use Rattle.tagged_model.specs.Table.{Verdict, Refused, Present, New, verdict, verdict_with}
use Rattle.tenant.specs.Errno.{map_errno}
use Rattle.tenant.specs.State.{Map, TenantState, with_map_at}
use Rattle.tenant.specs.Machine.{Answer, refuses, gives, element_put, element_updated}
use Rattle.tenant.specs.Kept.{KeptTenant, IsWellFormedTenant, map_at, state_in}
use Rattle.tenant.specs.inside.Named.{IsMapOf}
use Rattle.tenant.proofs.AtHandles.{other_at, same_at, map_of}
use Rattle.tenant.proofs.LookUps.{on_map_is, same_size}
use Rattle.tenant.proofs.StillKept.{with_live, keys_kept}
use Rattle.tenant.proofs.OneMap.{one_map, each_same}

-- the bytes are as many as a key and a value of the map
abbrev pub has_sizes : List ℕ → Map → Bool
has_sizes bytes t = length bytes == t.shape.key_size + t.shape.value_size

-- the key at the start of the bytes, and the value after it
abbrev pub key_of : MapShape → List ℕ → List ℕ
key_of shape bytes = take shape.key_size bytes

abbrev pub value_of : MapShape → List ℕ → List ℕ
value_of shape bytes = drop shape.key_size bytes

-- the reply to an update with a key and a value of the map's sizes
abbrev pub put_of : TenantState → ℕ → List ℕ → ℕ → Map → Answer
put_of s flags bytes handle t =
    element_put s handle t (key_of t.shape bytes) (value_of t.shape bytes) (verdict t (key_of t.shape bytes) flags)

-- ---- the result of a claim

abbrev Claim : Type 0
Claim = Result ℕ MapFault

not_ok : (f : MapFault) (p : ℕ) → let a : Claim = Err f in let b : Claim = Ok p in a ≢ b
not_ok f p e = cc

same_fault : (f g : MapFault) → let a : Claim = Err f in let b : Claim = Err g in a ≡ b → f ≡ g
same_fault f g e = cc

-- a rejected claim changes nothing
refused_claim : (v : Verdict ℕ) (key : List ℕ) (old : KeyTable) (f : MapFault) (new : KeyTable)
    → Claims v key old (Err f) new → new ≡ old
refused_claim (Refused g) key old f new (is, same) = same
refused_claim (Present p) key old f new (is, same) = same
refused_claim New key old f new h = absurd h

-- a claim does not change the elements that are kept apart
claimed_kept : (v : Verdict ℕ) (key : List ℕ) (old : KeyTable) (r : Claim) (new : KeyTable)
    → Claims v key old r new → new.kept ≡ old.kept
claimed_kept (Refused f) key old r new (is, same) = ap (λ (t : KeyTable). t.kept) same
claimed_kept (Present p) key old r new (is, same) = ap (λ (t : KeyTable). t.kept) same
claimed_kept New key old (Ok p) new (free, is) = ap (λ (t : KeyTable). t.kept) is
claimed_kept New key old (Err f) new h = absurd h

-- after a claim the update is done
done_by : (v : Verdict ℕ) (key : List ℕ) (old : KeyTable) (p : ℕ) (new : KeyTable)
    → Claims v key old (Ok p) new
    → (f : ℕ → List ℕ) (s : TenantState) (handle : ℕ) (T : Map) (value : List ℕ)
    → element_put s handle T key value (verdict_with f v)
    ≡ gives [] (with_map_at s handle (change (verdict_with f v) T key value))
done_by (Refused g) key old p new (is, same) f s handle T value = absurd (not_ok g p (sym is))
done_by (Present q) key old p new h f s handle T value = refl
done_by New key old p new h f s handle T value = refl

done_put : (v : Verdict ℕ) (w : Verdict (List ℕ)) (key : List ℕ) (old : KeyTable) (p : ℕ) (new : KeyTable)
    → Claims v key old (Ok p) new → (f : ℕ → List ℕ) → w ≡ verdict_with f v
    → (s : TenantState) (handle : ℕ) (T : Map) (value : List ℕ)
    → element_put s handle T key value w ≡ gives [] (with_map_at s handle (change w T key value))
done_put v w key old p new claimed f same s handle T value =
    subst (λ (x : Verdict (List ℕ)).
    element_put s handle T key value x ≡ gives [] (with_map_at s handle (change x T key value)))
    (sym same)
    (done_by v key old p new claimed f s handle T value)

-- ---- a rejected claim

-- the reply to an update that is rejected, which is never for lack of memory
abbrev Fails : Verdict (List ℕ) → MapFault → List ℕ → TenantState → ℕ → Map → List ℕ → Type 0
Fails w f key s handle T value = element_put s handle T key value w ≡ refuses (map_errno f) s

failed_by : (v : Verdict ℕ) (key : List ℕ) (old : KeyTable) (f : MapFault) (new : KeyTable)
    → Claims v key old (Err f) new
    → (g : ℕ → List ℕ) (s : TenantState) (handle : ℕ) (T : Map) (value : List ℕ)
    → Fails (verdict_with g v) f key s handle T value
failed_by (Refused other) key old f new (is, same) g s handle T value =
    ap (λ (x : MapFault). refuses (map_errno x) s) (sym (same_fault f other is))
failed_by (Present p) key old f new (is, same) g s handle T value = absurd (not_ok f p is)
failed_by New key old f new h g s handle T value = absurd h

failed_put : (v : Verdict ℕ) (w : Verdict (List ℕ)) (key : List ℕ) (old : KeyTable) (f : MapFault)
    (new : KeyTable)
    → Claims v key old (Err f) new → (g : ℕ → List ℕ) → w ≡ verdict_with g v
    → (s : TenantState) (handle : ℕ) (T : Map) (value : List ℕ) → Fails w f key s handle T value
failed_put v w key old f new claimed g same s handle T value =
    subst (λ (x : Verdict (List ℕ)). Fails x f key s handle T value) (sym same)
    (failed_by v key old f new claimed g s handle T value)

-- ---- the whole command

-- the claim is of the key at the start of the bytes, in the map that the descriptor names
pub record IsClaimed (k : KeptTenant) (t : LiveMaps) (fd m flags : ℕ) (bytes : List ℕ) (r : Claim) : Type 0 where
  -- the descriptor names the live map of the handle
  pub found : IsMapOf k fd m
  -- the bytes are as many as a key and a value of the map
  pub size : length bytes ≡ (shape_at k.live m).key_size + (shape_at k.live m).value_size
  -- an element is claimed for the key at the start of the bytes, or this is rejected
  pub claimed : let key =
      key_of (shape_at k.live m) bytes in Claims (verdict (table_of (keys_at k.live m)) key flags)
      key (keys_at k.live m) r (keys_at t m)
  -- only the keys of this map and their elements change
  pub rest : OnlyKeysChange m k.live t
  -- the flag of refused memory is not changed
  pub refused : t.refused ≡ k.live.refused

-- a claim of the key at the start of bytes of the map's sizes is a claim for the update with these bytes
pub claimed_by : {k : KeptTenant} {t : LiveMaps} {fd m flags : ℕ} {bytes key : List ℕ} {r : Claim}
    {shape : MapShape}
    → IsMapOf k fd m → shape ≡ shape_at k.live m
    → length bytes ≡ shape.key_size + shape.value_size
    → key ≡ key_of shape bytes
    → Claims (verdict (table_of (keys_at k.live m)) key flags) key (keys_at k.live m) r (keys_at t m)
    → OnlyKeysChange m k.live t → t.refused ≡ k.live.refused
    → IsClaimed k t fd m flags bytes r
claimed_by {k} {t} {fd} {m} {flags} {bytes} {key} {r} {shape} found same size key_is claimed rest refused = record {
  found = found;
  size = size ∙ ap (λ (s : MapShape). s.key_size + s.value_size) same;
  claimed =
      subst (λ (x : List ℕ).
      Claims (verdict (table_of (keys_at k.live m)) x flags) x (keys_at k.live m) r (keys_at t m))
      (key_is ∙ ap (λ (s : MapShape). key_of s bytes) same)
      claimed;
  rest = rest;
  refused = refused;
}

-- after a claim, also a rejected one, the tenant is well formed
pub still_claimed : {k : KeptTenant} {t : LiveMaps} {fd m flags : ℕ} {bytes : List ℕ} {r : Claim}
    → IsWellFormedTenant k → IsClaimed k t fd m flags bytes r
    → IsWellFormedTenant (with_live k t)
still_claimed {k} {t} {fd} {m} {flags} {bytes} {r} is c =
    let key = key_of (shape_at k.live m) bytes in
    keys_kept is c.found.live c.rest
    (claimed_kept (verdict (table_of (keys_at k.live m)) key flags) key (keys_at k.live m) r (keys_at t m) c.claimed
    ∙ is.maps.ended m)

-- the value has the map's size
pub value_fits : {k : KeptTenant} {t : LiveMaps} {fd m flags : ℕ} {bytes : List ℕ} {r : Claim}
    → IsClaimed k t fd m flags bytes r
    → length (value_of (shape_at k.live m) bytes) ≡ (shape_at t m).value_size
value_fits {k} {t} {fd} {m} {flags} {bytes} {r} c =
    let shape = shape_at k.live m in
    let size = c.size in
    let long : length (value_of shape bytes) ≡ shape.value_size = omega (arith, length-drop shape.key_size bytes) in
    long ∙ sym (ap (λ (s : MapShape). s.value_size) c.rest.shape)

-- the reply is that to the machine's update of this map
update_is : (part : List ℕ) {k : KeptTenant} {t : LiveMaps} {fd m flags : ℕ} {bytes : List ℕ} {r : Claim}
    → IsClaimed k t fd m flags bytes r
    → element_updated (state_in part k) fd flags bytes ≡ put_of (state_in part k) flags bytes m (map_in part k.live m)
update_is part {k} {t} {fd} {m} {flags} {bytes} {r} c =
    on_map_is part (has_sizes bytes) (put_of (state_in part k) flags bytes) c.found (same_size (length bytes) c.size)

-- after the value of a claimed element is written the reply and the state are those of the machine's update
pub updated_at : LiveMapsRefineValues
    → ValuesAreWritten
    → CallsRefineValues ℕ (List ℕ)
    → (part : List ℕ) {k : KeptTenant} {t : LiveMaps} {fd m flags p : ℕ} {bytes : List ℕ}
    → IsClaimed k t fd m flags bytes (Ok p)
    → let value = value_of (shape_at k.live m) bytes in IsValueAt part t m p value → gives []
    (state_in (with_value part t m p value) (with_live k t))
    ≡ element_updated (state_in part k) fd flags bytes
updated_at along written calls part {k} {t} {fd} {m} {flags} {p} {bytes} c at =
    let key = key_of (shape_at k.live m) bytes in
    let value = value_of (shape_at k.live m) bytes in
    let s = state_in part k in
    let T = map_in part k.live m in
    let later = with_value part t m p value in
    let w = verdict T key flags in
    let whole = written part t m p value at in
    let others : (other : ℕ) → other ≢ m → map_at later t other ≡ map_at part k.live other =
    λ other apart.
    other_at part later k.live t other (c.rest.others other apart)
    (λ now. whole.others other apart now ∙ ap (map_of part) (c.rest.others other apart)) in
    let state : state_in later (with_live k t) ≡ with_map_at s m (change w T key value) =
    one_map part later k t m c.found.within c.rest.live others
    ((along part k.live t m c.rest.areas c.rest.live).update flags p key value at c.claimed)
    c.refused in
    ap (gives []) state
    ∙ sym (done_put (verdict (table_of (keys_at k.live m)) key flags) w key (keys_at k.live m) p
    (keys_at t m) c.claimed (value_in part k.live m)
    (calls.verdict (value_in part k.live m) (table_of (keys_at k.live m)) key flags)
    s m T value)
    ∙ sym (update_is part c)

-- the reply to an update that is rejected, and the state after it, are those of the machine
pub update_refused : LiveMapsRefineValues
    → CallsRefineValues ℕ (List ℕ)
    → (part : List ℕ) {k : KeptTenant} {t : LiveMaps} {fd m flags : ℕ} {f : MapFault} {bytes : List ℕ}
    → IsClaimed k t fd m flags bytes (Err f)
    → refuses (map_errno f) (state_in part (with_live k t)) ≡ element_updated (state_in part k) fd flags bytes
update_refused along calls part {k} {t} {fd} {m} {flags} {f} {bytes} c =
    let key = key_of (shape_at k.live m) bytes in
    let value = value_of (shape_at k.live m) bytes in
    let s = state_in part k in
    let T = map_in part k.live m in
    let v = verdict (table_of (keys_at k.live m)) key flags in
    let here : map_in part t m ≡ T =
    (along part k.live t m c.rest.areas c.rest.live).same (refused_claim v key (keys_at k.live m) f
    (keys_at t m) c.claimed) in
    let maps =
    same_at (map_at part t) (map_at part k.live)
    (each_same part k.live t m c.found.live c.rest.live here c.rest.others) in
    let put_is =
    failed_put v (verdict T key flags) key (keys_at k.live m) f (keys_at t m) c.claimed
    (value_in part k.live m)
    (calls.verdict (value_in part k.live m) (table_of (keys_at k.live m)) key flags)
    s m T value in
    let state : state_in part (with_live k t) ≡ s =
    ap (λ (ms : List (Option Map)). record { objects = k.objects; maps = ms; refused = k.refused || t.refused }) maps
    ∙ ap (λ (b : Bool). record s { refused = k.refused || b }) c.refused in
    ap (refuses (map_errno f)) state ∙ sym put_is ∙ sym (update_is part c)
