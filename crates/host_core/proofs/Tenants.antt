-- The states of all tenants, if one of them changes.
use Rattle.std.proofs.Common.{◌≡◌, ◌≢◌, ℕ, zero, suc, ◌+◌, ◌<◌, ◌≤◌, Bool, true, false, List, [], ◌∷◌, ◌++◌, length}
use Rattle.std.proofs.Common.{Bor, Option, Some, None, refl, sym, ap, ap₂, subst, ◌∙◌, arith, get_or, set, length-set}
use Rattle.std.proofs.lemmas.Bool.{ltb-true, ltb-false}
use Rattle.std.proofs.lemmas.List.{map-append}
use Rattle.std.proofs.lemmas.Option.{none-some, same_Some, slice_get_read, slice_get-map}
use Rattle.std.specs.Prelude.{slice_get, option_and_then, option_map, replicate, nat_lt, if◌then◌else◌, Result, Ok, Err, OnOk, OnErr}
use Rattle.std.specs.Slice.{IsItemAt}
use Rattle.arena.specs.Memory.{Memory, part_bytes}
use Rattle.saving.specs.declared.birth.Birth.{Birth}
use Rattle.saving.specs.Recorded.{RecordedTenant, RecordsFrame, tenant_state}
use Rattle.command_frames.specs.Frame.{owner, reply_to}
use Rattle.tenant.specs.Alone.{MayReply}
use Rattle.tenant.specs.Batch.{BatchInput, RunsBatch}
use Rattle.tenant.specs.Errno.{status_of}
use Rattle.tenant.specs.State.{TenantState, new_tenant}
use Rattle.tenant.specs.declared.errno.Errno.TheVariants.{NotPermitted, Invalid}
use Rattle.host_core.specs.Batch.{RunsFor}
use Rattle.host_core.specs.Served.{IsUnrefused}
use Rattle.saving.specs.SaveParts.{parts, frames_of}
use Rattle.host_core.specs.Saving.{Records, saved_part}
use Rattle.host_core.specs.States.{HostState, host_state, states_from, states_in, births_in}
use Rattle.host_core.proofs.Heads.{no_state}

-- at the index that was set, a list has the new element
pub slice_get-set_same : {X : Type 0} (xs : List X) (i : ℕ) (x : X) → i < length xs → slice_get (set xs i x) i ≡ Some x
slice_get-set_same [] i x lt = absurd (omega arith)
slice_get-set_same (y ∷ ys) zero x lt = refl
slice_get-set_same (y ∷ ys) (suc i) x lt = slice_get-set_same ys i x (omega arith)

-- a list is not changed at another index than the one that was set
pub slice_get-set_other : {X : Type 0} (xs : List X) (i k : ℕ) (x : X)
    → k ≢ i → slice_get (set xs i x) k ≡ slice_get xs k
slice_get-set_other [] i k x ne = refl
slice_get-set_other (y ∷ ys) zero zero x ne = absurd (ne refl)
slice_get-set_other (y ∷ ys) zero (suc k) x ne = refl
slice_get-set_other (y ∷ ys) (suc i) zero x ne = refl
slice_get-set_other (y ∷ ys) (suc i) (suc k) x ne = slice_get-set_other ys i k x (λ e. ne (ap suc e))

set_there : {X : Type 0} (xs : List X) (i : ℕ) (x : X) → slice_get xs i ≡ Some x → set xs i x ≡ xs
set_there [] i x found = refl
set_there {X} (y ∷ ys) zero x found = let same : x ≡ y = cc in ap (λ (z : X). z ∷ ys) same
set_there {X} (y ∷ ys) (suc i) x found = ap (λ (l : List X). y ∷ l) (set_there ys i x found)

-- an element that was read by its index is in the list
pub slice_get_in : {X : Type 0} (xs : List X) (i : ℕ) (x : X)
    → i < length xs → x ≡ get_or xs i x → slice_get xs i ≡ Some x
slice_get_in xs i x lt e = slice_get_read xs (length xs) i x refl lt e

-- ---- states

-- a host has as many states as records of tenants
pub states_length : (m : Memory) (t : ℕ) (ks : List RecordedTenant) → length (states_from m t ks) ≡ length ks
unfolding states_from
states_length m t [] = refl
states_length m t (k ∷ ks) = ap suc (states_length m (t + 1) ks)

-- the state of a tenant is represented by its part and its record
state_from : (m : Memory) (t : ℕ) (ks : List RecordedTenant) (i : ℕ)
    → slice_get (states_from m t ks) i ≡ option_map (tenant_state (part_bytes m (t + i))) (slice_get ks i)
unfolding states_from
state_from m t [] i = refl
state_from m t (k ∷ ks) zero =
    let same : t ≡ t + 0 = omega arith in ap (λ (n : ℕ). Some (tenant_state (part_bytes m n) k)) same
state_from m t (k ∷ ks) (suc i) =
    let same : t + 1 + i ≡ t + suc i = omega arith in
    state_from m (t + 1) ks i ∙ ap (λ (n : ℕ). option_map (tenant_state (part_bytes m n)) (slice_get ks i)) same

-- the state of a tenant is that which its part and its record represent, if it is served
pub state_of : (m : Memory) (ks : List RecordedTenant) (i : ℕ)
    → slice_get (states_in m ks) i ≡ option_map (tenant_state (part_bytes m i)) (slice_get ks i)
state_of m ks i =
    let same : 0 + i ≡ i = omega arith in
    state_from m 0 ks i ∙ ap (λ (n : ℕ). option_map (tenant_state (part_bytes m n)) (slice_get ks i)) same

-- one more record adds its tenant's state at the end
pub states_push : (m : Memory) (t : ℕ) (ks : List RecordedTenant) (k : RecordedTenant)
    → states_from m t (ks ++ k ∷ []) ≡ states_from m t ks ++ tenant_state (part_bytes m (t + length ks)) k ∷ []
unfolding states_from
states_push m t [] k = let same : t ≡ t + 0 = omega arith in ap (λ (n : ℕ). tenant_state (part_bytes m n) k ∷ []) same
states_push m t (x ∷ ks) k =
    let same : t + 1 + length ks ≡ t + suc (length ks) = omega arith in
    ap (λ (l : List TenantState). tenant_state (part_bytes m t) x ∷ l)
    (states_push m (t + 1) ks k ∙ ap (λ (n : ℕ). states_from m (t + 1) ks ++ tenant_state (part_bytes m n) k ∷ []) same)

-- ---- one tenant changes

-- the state of a tenant with this record is that which its part and the record represent
pub own_before : (m : Memory) (ks : List RecordedTenant) (i : ℕ) (k : RecordedTenant)
    → slice_get ks i ≡ Some k
    → slice_get (states_in m ks) i ≡ Some (tenant_state (part_bytes m i) k)
own_before m ks i k e = state_of m ks i ∙ ap (option_map (tenant_state (part_bytes m i))) e

-- after a tenant's record is replaced, its state is that which its part and the new record represent
pub own_after : (m : Memory) (ks : List RecordedTenant) (i : ℕ) (k : RecordedTenant)
    → i < length ks
    → slice_get (states_in m (set ks i k)) i ≡ Some (tenant_state (part_bytes m i) k)
own_after m ks i k lt = own_before m (set ks i k) i k (slice_get-set_same ks i k lt)

-- if only its own part changes, the states of the other tenants do not change
pub others_stay : (m n : Memory) (ks : List RecordedTenant) (i other : ℕ) (k : RecordedTenant)
    → other ≢ i → part_bytes n other ≡ part_bytes m other
    → slice_get (states_in n (set ks i k)) other ≡ slice_get (states_in m ks) other
others_stay m n ks i other k ne same =
    state_of n (set ks i k) other
    ∙ ap (option_map (tenant_state (part_bytes n other))) (slice_get-set_other ks i other k ne)
    ∙ ap (λ (bytes : List ℕ). option_map (tenant_state bytes) (slice_get ks other)) same ∙ sym (state_of m ks other)

-- if a tenant's record is replaced, and perhaps memory changes, the number of states does not change
pub count_stays : (m n : Memory) (ks : List RecordedTenant) (i : ℕ) (k : RecordedTenant)
    → length (states_in n (set ks i k)) ≡ length (states_in m ks)
count_stays m n ks i k = states_length n 0 (set ks i k) ∙ length-set ks i k ∙ sym (states_length m 0 ks)

-- the state of a tenant that is served
pub state_there : (m : Memory) (ks : List RecordedTenant) (states : List TenantState) (i : ℕ)
    (k : RecordedTenant)
    → states_in m ks ≡ states → slice_get ks i ≡ Some k
    → slice_get states i ≡ Some (tenant_state (part_bytes m i) k)
state_there m ks states i k is found = ap (λ (s : List TenantState). slice_get s i) (sym is) ∙ own_before m ks i k found

-- what was read by its number is the tenant's record, and gives its state
pub kept_is : (m : Memory) (ks xs : List RecordedTenant) (states : List TenantState) (i : ℕ)
    → states_in m ks ≡ states → xs ≡ ks
    → (r : Option (Bor RecordedTenant)) → IsItemAt xs i r
    → slice_get states i ≡ option_map (λ kept. tenant_state (part_bytes m i) kept.now) r
kept_is m ks xs states i is same (Some kept) at =
    state_there m ks states i kept.now is
    (subst (λ (l : List RecordedTenant). slice_get l i ≡ Some kept.now) same
    (slice_get_in xs i kept.now (ltb-true i (length xs) (sym at.0)) at.1))
kept_is m ks xs states i is same None at =
    let few = ltb-false i (length xs) (sym at.0) in
    let many = states_length m 0 ks in
    no_state states i (omega (arith, few, many, ap length is, ap length same))

-- what is read of a tenant that was found, or not
pub of_kept : {X : Type 0} (of : Option TenantState → X) (part : List ℕ)
    {r : Option (Bor RecordedTenant)} {kept : Bor RecordedTenant} {o : Option TenantState}
    → o ≡ option_map (λ k. tenant_state part k.now) r
    → r ≡ Some kept
    → of (Some (tenant_state part kept.now)) ≡ of o
of_kept of part is found = sym (ap of (is ∙ ap (option_map (λ k. tenant_state part k.now)) found))

-- what is read of a tenant that was not found is what is read of no state
pub of_none : {X : Type 0} (of : Option TenantState → X) (part : List ℕ)
    {r : Option (Bor RecordedTenant)} {o : Option TenantState}
    → o ≡ option_map (λ k. tenant_state part k.now) r → r ≡ None → of None ≡ of o
of_none of part is none = sym (ap of (is ∙ ap (option_map (λ k. tenant_state part k.now)) none))

-- its own state changes by the reply
pub tells_own : (m n : Memory) (ks : List RecordedTenant) (states : List TenantState) (i o : ℕ)
    (k l : RecordedTenant) (frame reply : List ℕ)
    → states_in m ks ≡ states → i ≡ o
    → i < length ks → slice_get ks i ≡ Some k
    → MayReply frame reply (Some (tenant_state (part_bytes m i) k)) (Some (tenant_state (part_bytes n i) l))
    → MayReply frame reply (slice_get states o) (slice_get (states_in n (set ks i l)) o)
tells_own m n ks states i o k l frame reply is own lt found seen =
    let before = state_there m ks states i k is found in
    let after = own_after n ks i l lt in
    let here =
    subst (λ (x : Option TenantState). MayReply frame reply (slice_get states i) x) (sym after)
    (subst (λ (x : Option TenantState). MayReply frame reply x (Some (tenant_state (part_bytes n i) l)))
    (sym before) seen) in
    subst (λ (j : ℕ). MayReply frame reply (slice_get states j) (slice_get (states_in n (set ks i l)) j)) own here

-- the reply to a frame of a tenant that is not served
pub tells_none : (states : List TenantState) (i : ℕ) (frame reply : List ℕ)
    → slice_get states i ≡ None
    → reply ≡ reply_to frame (status_of (if nat_lt (length frame) 4 then Invalid else NotPermitted)) []
    → MayReply frame reply (slice_get states i) (slice_get states i)
tells_none states i frame reply none seen =
    subst (λ (x : Option TenantState). MayReply frame reply x x) (sym none) (false, (refl, seen))

-- ---- the flag

-- the flag of a tenant that is served is the flag of its state
module _ (m : Memory) (ks : List RecordedTenant) (states : List TenantState) (i : ℕ)
    (k : RecordedTenant) (is : states_in m ks ≡ states) (found : slice_get ks i ≡ Some k)
    (flag : Bool)
    (seen : (part : List ℕ) → flag ≡ (tenant_state part k).refused) where
  -- if the flag is clear, no memory was refused to the tenant
  pub seen_unrefused : flag ≡ false → IsUnrefused (slice_get states i)
  seen_unrefused clear =
      subst IsUnrefused (sym (state_there m ks states i k is found)) (sym (seen (part_bytes m i)) ∙ clear)

  -- if the flag is set, memory was refused to the tenant
  pub seen_refused : flag ≡ true → ¬ IsUnrefused (slice_get states i)
  seen_refused set unrefused =
      let here : (tenant_state (part_bytes m i) k).refused ≡ false =
      subst IsUnrefused (state_there m ks states i k is found) unrefused in
      let wrong : true ≡ false = sym set ∙ seen (part_bytes m i) ∙ here in cc wrong

-- a tenant that is not served has no state, and so no flag
pub none_unrefused : (states : List TenantState) (i : ℕ) → length states ≤ i → IsUnrefused (slice_get states i)
none_unrefused states i few = subst IsUnrefused (sym (no_state states i few)) tt

-- ---- new tenants

replicate_push : {X : Type 0} (n : ℕ) (x : X) → replicate n x ++ x ∷ [] ≡ replicate (suc n) x
replicate_push zero x = refl
replicate_push {X = X} (suc n) x = ap (λ (l : List X). x ∷ l) (replicate_push n x)

-- if n tenants are new, and one more has the record of a new one, n + 1 are new
pub new_more : (m : Memory) (first : ℕ) (ks : List RecordedTenant) (k : RecordedTenant) (n : ℕ)
    → states_from m first ks ≡ replicate n new_tenant
    → ((part : List ℕ) → tenant_state part k ≡ new_tenant)
    → states_from m first (ks ++ k ∷ []) ≡ replicate (n + 1) new_tenant
new_more m first ks k n new is =
    let counted : suc n ≡ n + 1 = omega arith in
    states_push m first ks k
    ∙ ap (λ (l : List TenantState). l ++ tenant_state (part_bytes m (first + length ks)) k ∷ []) new
    ∙ ap (λ (s : TenantState). replicate n new_tenant ++ s ∷ []) (is (part_bytes m (first + length ks)))
    ∙ replicate_push n new_tenant
    ∙ ap (λ (i : ℕ). replicate i new_tenant) counted

-- ---- a batch

-- a batch of a tenant that is served
pub runs_own : (m n : Memory) (ks : List RecordedTenant) (states : List TenantState) (i fd : ℕ)
    (k l : RecordedTenant) (room written : List ℕ) (inputs : List BatchInput)
    → states_in m ks ≡ states → i < length ks
    → slice_get ks i ≡ Some k
    → RunsBatch fd (tenant_state (part_bytes m i) k) inputs room written (tenant_state (part_bytes n i) l)
    → RunsFor fd (slice_get states i) inputs room written (slice_get (states_in n (set ks i l)) i)
runs_own m n ks states i fd k l room written inputs is lt found runs =
    let before = state_there m ks states i k is found in
    let after = own_after n ks i l lt in
    subst (λ (x : Option TenantState). RunsFor fd x inputs room written (slice_get (states_in n (set ks i l)) i))
    (sym before) (tenant_state (part_bytes n i) l, runs, after)

-- a tenant whose record is not changed
pub put_back : (m n : Memory) (ks : List RecordedTenant) (i : ℕ) (k l : RecordedTenant)
    → slice_get ks i ≡ Some k → l ≡ k
    → n ≡ m
    → host_state n (set ks i l) ≡ host_state m ks
put_back m n ks i k l found same still =
    ap₂ (λ (x : Memory) (y : RecordedTenant). host_state x (set ks i y)) still same
    ∙ ap (host_state m) (set_there ks i k found)

-- an implication in the value of a result
pub with_ok : {A E : Type 0} {P Q : Type 0} (r : Result A E) → (P → Q) → OnOk r P → OnOk r Q
with_ok (Ok x) f p = f p
with_ok (Err e) f p = tt

-- if what holds of a result with an error implies something, that holds of it too
pub with_err : {A E : Type 0} {P Q : Type 0} (r : Result A E) → (P → Q) → OnErr r P → OnErr r Q
with_err (Ok x) f p = tt
with_err (Err e) f p = f p

-- ---- births

-- the states and the births of a host
pub states_are : (m : Memory) (ks : List RecordedTenant) (h : HostState)
    → host_state m ks ≡ h → states_in m ks ≡ h.states
states_are m ks h is = ap (λ (x : HostState). x.states) is

births_of : (ks : List RecordedTenant) (i : ℕ)
    → slice_get (births_in ks) i ≡ option_map (λ (t : RecordedTenant). t.births) (slice_get ks i)
births_of ks i = slice_get-map (λ (t : RecordedTenant). t.births) ks i

births_count : (ks : List RecordedTenant) → length (births_in ks) ≡ length ks
births_count [] = refl
births_count (k ∷ ks) = ap suc (births_count ks)

-- a tenant whose births do not change
pub births_stay : (ks : List RecordedTenant) (i : ℕ) (k l : RecordedTenant)
    → slice_get ks i ≡ Some k → l.births ≡ k.births
    → births_in (set ks i l) ≡ births_in ks
births_stay [] i k l found same = refl
births_stay (x ∷ ks) zero k l found same =
    let head : l.births ≡ x.births = same ∙ ap (λ (t : RecordedTenant). t.births) (sym (same_Some x k found)) in
    ap (λ (bs : List Birth). bs ∷ births_in ks) head
births_stay (x ∷ ks) (suc i) k l found same =
    ap (λ (bss : List (List Birth)). x.births ∷ bss) (births_stay ks i k l found same)

-- if n tenants have no births, and one more has none, n + 1 have none
pub no_births_more : (ks : List RecordedTenant) (k : RecordedTenant) (n : ℕ)
    → births_in ks ≡ replicate n [] → k.births ≡ []
    → births_in (ks ++ k ∷ []) ≡ replicate (n + 1) []
no_births_more ks k n new none =
    let counted : suc n ≡ n + 1 = omega arith in
    let empty : List Birth = [] in
    map-append (λ (t : RecordedTenant). t.births) ks (k ∷ [])
    ∙ ap (λ (bss : List (List Birth)). bss ++ k.births ∷ []) new
    ∙ ap (λ (bs : List Birth). replicate n empty ++ bs ∷ []) none
    ∙ replicate_push n empty
    ∙ ap (λ (i : ℕ). replicate i empty) counted

-- a frame of a tenant that is not served does not change the births
pub records_none : (h : HostState) (frame reply : List ℕ)
    → slice_get h.states (owner frame) ≡ None → Records frame reply h h
records_none h frame reply none = record {
  own = λ s births there others. absurd (none-some s (sym none ∙ there));
  others = λ other ne. refl;
  count = refl;
}

-- the births of the tenant of a frame after its command
pub records_own : (m n : Memory) (ks : List RecordedTenant) (h : HostState) (i : ℕ)
    (k l : RecordedTenant) (frame reply : List ℕ)
    → host_state m ks ≡ h → i ≡ owner frame
    → i < length ks → slice_get ks i ≡ Some k
    → RecordsFrame frame reply (tenant_state (part_bytes m i) k) (tenant_state (part_bytes n i) l) k.births l.births
    → Records frame reply h (host_state n (set ks i l))
records_own m n ks h i k l frame reply is own lt found seen =
    subst (λ (x : HostState). Records frame reply x after) is
    (record {
      own = owns;
      others = others;
      count = births_count (set ks i l) ∙ length-set ks i l ∙ sym (births_count ks);
    })
  where
    after : HostState
    after = host_state n (set ks i l)

    state_then : slice_get after.states (owner frame) ≡ Some (tenant_state (part_bytes n i) l)
    state_then = ap (slice_get after.states) (sym own) ∙ own_after n ks i l lt

    births_then : slice_get after.births (owner frame) ≡ Some l.births
    births_then =
        ap (slice_get after.births) (sym own)
        ∙ births_of (set ks i l) i
        ∙ ap (option_map (λ (t : RecordedTenant). t.births)) (slice_get-set_same ks i l lt)

    owns : (s : TenantState) (births : List Birth)
        → slice_get (states_in m ks) (owner frame) ≡ Some s
        → slice_get (births_in ks) (owner frame) ≡ Some births
        → (t : TenantState)
        × (later : List Birth)
        × (slice_get after.states (owner frame) ≡ Some t)
        × (slice_get after.births (owner frame) ≡ Some later)
        × RecordsFrame frame reply s t births later
    owns s births there born =
        let state_is : tenant_state (part_bytes m i) k ≡ s =
        same_Some _ s (sym (ap (slice_get (states_in m ks)) (sym own) ∙ own_before m ks i k found) ∙ there) in
        let births_is : k.births ≡ births =
        same_Some _ births
        (sym (ap (slice_get (births_in ks)) (sym own)
        ∙ births_of ks i
        ∙ ap (option_map (λ (t : RecordedTenant). t.births)) found)
        ∙ born) in (
          tenant_state (part_bytes n i) l,
          l.births,
          state_then,
          births_then,
          subst (λ (x : TenantState). RecordsFrame frame reply x (tenant_state (part_bytes n i) l) births l.births)
              state_is
              (subst (λ (bs : List Birth).
              RecordsFrame frame reply (tenant_state (part_bytes m i) k) (tenant_state (part_bytes n i) l) bs l.births)
              births_is seen),
        )

    others : (other : ℕ) → other ≢ owner frame → slice_get after.births other ≡ slice_get (births_in ks) other
    others other ne =
        births_of (set ks i l) other
        ∙ ap (option_map (λ (t : RecordedTenant). t.births)) (slice_get-set_other ks i other l (λ e. ne (e ∙ own)))
        ∙ sym (births_of ks other)

-- ---- saves

abbrev pub saved_of : ℕ → ℕ → Option TenantState → Option (List Birth) → Option (List ℕ)
saved_of tenant part s bs =
    option_and_then (λ (x : TenantState).
    option_and_then (λ (births : List Birth). option_map (frames_of tenant) (slice_get (parts x births) part)) bs)
    s

-- a tenant that is served
pub saved_there : (m : Memory) (ks : List RecordedTenant) (h : HostState) (t part : ℕ) (k : RecordedTenant)
    → host_state m ks ≡ h → slice_get ks t ≡ Some k
    → option_map (frames_of t) (slice_get (parts (tenant_state (part_bytes m t) k) k.births) part) ≡ saved_part h t part
saved_there m ks h t part k is found =
    sym (ap (λ (x : HostState). saved_part x t part) (sym is)
    ∙ ap₂ (saved_of t part) (own_before m ks t k found)
    (births_of ks t ∙ ap (option_map (λ (x : RecordedTenant). x.births)) found))

-- a tenant that is not served
pub saved_nowhere : (h : HostState) (t part : ℕ) → slice_get h.states t ≡ None → saved_part h t part ≡ None
saved_nowhere h t part none = ap (λ (s : Option TenantState). saved_of t part s (slice_get h.births t)) none

-- a batch is run, or is rejected
pub by_result : {T E : Type 0} {X Y : Type 0} (Z : Type 0) (r : Result T E)
    → (X → Z) → (Y → Z) → OnOk r X → OnErr r Y → Z
by_result Z (Ok v) ran rejected ok err = ran ok
by_result Z (Err e) ran rejected ok err = rejected err
