-- Each tenant of a host has a history, so its save restores it.
use Rattle.std.proofs.Common.{◌≡◌, ◌≢◌, inl, inr, ℕ, zero, suc, Bool, true, false, List, [], ◌∷◌, ◌++◌, length, Option, Some, None}
use Rattle.std.proofs.Common.{Result, Ok, Err, refl, sym, ap, ap₂, subst, ◌∙◌, nat_eq, true≢false, arith, eqb-true, eq-eqb, ◌<◌, ◌^◌, map}
use Rattle.std.specs.Prelude.{replicate, slice_get}
use Rattle.std.specs.List.{AllByRecursion, flat_map}
use Rattle.std.proofs.lemmas.Grind.{flat_map-append}
use Rattle.std.proofs.lemmas.List.{map-append}
use Rattle.std.proofs.lemmas.List.Folds.{flat_map-map}
use Rattle.std.proofs.lemmas.Option.{none-some, same_Some, slice_get-map}
use Rattle.byteorder.specs.Endian.{little_bytes}
use Rattle.command_frames.specs.declared.command.BadFrame.{BadFrame}
use Rattle.command_frames.specs.Command.{Command, parsed, prog_test_run}
use Rattle.command_frames.specs.Frame.{framed, owner}
use Rattle.tenant.specs.Alone.{IsFrameResult, MayReply}
use Rattle.tenant.specs.Batch.{BatchInput, RunsInOrder}
use Rattle.tenant.specs.Machine.{Answer, Answers, gives}
use Rattle.tenant.specs.State.{TenantState, new_tenant}
use Rattle.saving.specs.declared.birth.Birth.{Birth}
use Rattle.saving.specs.Births.{births_after}
use Rattle.command_frames.specs.Encoded.{frame_of}
use Rattle.command_frames.specs.Laws.{FramesHaveOwners}
use Rattle.saving.specs.Laws.{IsHistory, HistoriesAreRestored}
use Rattle.saving.specs.Restored.{restored}
use Rattle.saving.specs.SaveParts.{PartsAreWhole, parts, frames_of}
use Rattle.saving.specs.Recorded.{RecordsFrame, births_after_frame}
use Rattle.host_core.specs.Batch.{RunsFor, ChangesTenant}
use Rattle.host_core.specs.Handled.{Handles}
use Rattle.host_core.specs.Saving.{Records, Call, Calls, AreParts, AreRestored, TenantsAreRestored}
use Rattle.host_core.specs.States.{HostState, new_host}
use Rattle.host_core.specs.inside.Reached.{IsReached, AreReached}
use Rattle.host_core.proofs.Tenants.{saved_of}

-- ---- one tenant

-- a history with one more command
further : (commands : List Command) (s t : TenantState) (births later : List Birth) (refused : Bool)
    (c : Command) (a : Answer)
    → IsHistory s births commands t later → Answers refused t c a
    → IsHistory s births (commands ++ c ∷ []) a.after (births_after c a later)
further [] s t births later refused c a (same, same_births) answers = (
  refused,
  a,
  subst (λ (x : TenantState). Answers refused x c a) same answers,
  (refl, ap (births_after c a) same_births),
)
further (d ∷ ds) s t births later refused c a (r, b, first, rest) answers = (
  r,
  b,
  first,
  further ds b.after t (births_after d b births) later refused c a rest answers,
)

by_command : (s : TenantState) (births : List Birth) (refused : Bool) (c : Command) (a : Answer)
    → IsReached s births → Answers refused s c a
    → IsReached a.after (births_after c a births)
by_command s births refused c a (commands, history) answers = (
  commands ++ c ∷ [],
  further commands new_tenant s [] births refused c a history answers,
)

by_frame : (frame reply : List ℕ) (s t : TenantState) (births later : List Birth)
    → IsReached s births → RecordsFrame frame reply s t births later
    → IsReached t later
by_frame frame reply s t births later reached seen = by (parsed frame) seen.answers seen.recorded
  where
    by : (p : Result Command BadFrame)
        → IsFrameResult seen.refused s p seen.answer
        → later ≡ births_after_frame p seen.answer births
        → IsReached t later
    by (Err fault) answers recorded =
        let same : t ≡ s = seen.left ∙ ap (λ (a : Answer). a.after) answers in
        subst (λ (x : TenantState). IsReached x later) (sym same)
        (subst (λ (bs : List Birth). IsReached s bs) (sym recorded) reached)
    by (Ok c) answers recorded =
        subst (λ (x : TenantState). IsReached x later) (sym seen.left)
        (subst (λ (bs : List Birth). IsReached seen.answer.after bs) (sym recorded)
        (by_command s births seen.refused c seen.answer reached answers))

by_runs : (births : List Birth) (fd : ℕ) (s t : TenantState) (inputs : List BatchInput) (results : List ℕ)
    → IsReached s births → RunsInOrder fd s inputs results t → IsReached t births
unfolding RunsInOrder
by_runs births fd s t [] [] reached same = subst (λ (x : TenantState). IsReached x births) (sym same) reached
by_runs births fd s t [] (r ∷ rs) reached wrong = absurd wrong
by_runs births fd s t (input ∷ inputs) [] reached wrong = absurd wrong
by_runs births fd s t (input ∷ inputs) (r ∷ rs) reached (between, answers, rest) =
    by_runs births fd between t inputs rs
    (by_command s births false (prog_test_run fd input.words input.packet)
    (gives (little_bytes 4 r) between) reached answers)
    rest

-- ---- all tenants

get_too : {X Y : Type 0} (xs : List X) (ys : List Y) (i : ℕ) (x : X)
    → length ys ≡ length xs → slice_get xs i ≡ Some x
    → (y : Y) × (slice_get ys i ≡ Some y)
get_too [] ys i x same e = absurd (none-some x e)
get_too (z ∷ xs) [] i x same e = let wrong : 0 ≡ suc (length xs) = same in absurd (omega arith)
get_too (z ∷ xs) (y ∷ ys) zero x same e = (y, refl)
get_too (z ∷ xs) (y ∷ ys) (suc i) x same e =
    let more : suc (length ys) ≡ suc (length xs) = same in get_too xs ys i x (omega arith) e

others_reached : (before after : HostState) (t : ℕ) (s : TenantState) (births : List Birth)
    → AreReached before
    → slice_get after.states t ≡ slice_get before.states t
    → slice_get after.births t ≡ slice_get before.births t
    → slice_get after.states t ≡ Some s → slice_get after.births t ≡ Some births
    → IsReached s births
others_reached before after t s births reached same same_births there born =
    reached.each t s births (sym same ∙ there) (sym same_births ∙ born)

-- after a host handles a frame, each of its tenants still has a history
pub by_handle : (before after : HostState) (frame reply : List ℕ)
    → AreReached before
    → Handles before.states frame reply after.states
    → Records frame reply before after
    → AreReached after
by_handle before after frame reply reached handles records = record {
  many = records.count ∙ reached.many ∙ sym handles.count;
  each = λ t s births there born. at t s births there born (nat_eq t (owner frame)) refl;
}
  where
    own : (s : TenantState) (births : List Birth) (o : Option TenantState)
        → slice_get before.states (owner frame) ≡ o
        → slice_get after.states (owner frame) ≡ Some s
        → slice_get after.births (owner frame) ≡ Some births
        → IsReached s births
    own s births None e there born =
        let seen =
        subst (λ (x : Option TenantState). MayReply frame reply x (slice_get after.states (owner frame)))
        e handles.own in
        absurd (none-some s (sym seen.1.0 ∙ there))
    own s births (Some x) e there born =
        let (bs, born_before) = get_too before.states before.births (owner frame) x reached.many e in
        let (t, later, state_is, births_are, seen) = records.own x bs e born_before in
        let same : t ≡ s = same_Some t s (sym state_is ∙ there) in
        let same_births : later ≡ births = same_Some later births (sym births_are ∙ born) in
        subst (λ (u : TenantState). IsReached u births) same (subst (λ (ls : List Birth). IsReached t ls) same_births
        (by_frame frame reply x t bs later (reached.each (owner frame) x bs e born_before) seen))

    at : (t : ℕ) (s : TenantState) (births : List Birth)
        → slice_get after.states t ≡ Some s → slice_get after.births t ≡ Some births
        → (b : Bool) → nat_eq t (owner frame) ≡ b
        → IsReached s births
    at t s births there born true e =
        let same : t ≡ owner frame = eqb-true t (owner frame) e in
        own s births (slice_get before.states (owner frame)) refl
        (ap (slice_get after.states) (sym same) ∙ there)
        (ap (slice_get after.births) (sym same) ∙ born)
    at t s births there born false e =
        let other : t ≢ owner frame = λ same. absurd (true≢false (sym (eq-eqb t (owner frame) same) ∙ e)) in
        others_reached before after t s births reached (handles.others t other) (records.others t other) there born

-- after a host runs a program on packets, each of its tenants still has a history
pub by_packets : (before after : HostState) (tenant fd : ℕ) (inputs : List BatchInput)
    (room written : List ℕ)
    → AreReached before
    → RunsFor fd (slice_get before.states tenant) inputs room written (slice_get after.states tenant)
    → ChangesTenant tenant before.states after.states
    → after.births ≡ before.births
    → AreReached after
by_packets before after tenant fd inputs room written reached runs changes same_births =
    record {
      many = ap length same_births ∙ reached.many ∙ sym changes.count;
      each = λ t s births there born. at t s births there born (nat_eq t tenant) refl;
    }
  where
    own : (s : TenantState) (births : List Birth) (o : Option TenantState)
        → slice_get before.states tenant ≡ o → slice_get after.states tenant ≡ Some s
        → slice_get after.births tenant ≡ Some births
        → IsReached s births
    own s births None e there born =
        absurd (subst (λ (x : Option TenantState). RunsFor fd x inputs room written (slice_get after.states tenant))
        e runs)
    own s births (Some x) e there born =
        let (last, (results, in_order, front), is) =
        subst (λ (y : Option TenantState). RunsFor fd y inputs room written (slice_get after.states tenant)) e runs in
        let same : last ≡ s = same_Some last s (sym is ∙ there) in
        subst (λ (u : TenantState). IsReached u births) same
        (by_runs births fd x last inputs results
        (reached.each tenant x births e
        (ap (λ (bss : List (List Birth)). slice_get bss tenant) (sym same_births) ∙ born))
        in_order)

    at : (t : ℕ) (s : TenantState) (births : List Birth)
        → slice_get after.states t ≡ Some s → slice_get after.births t ≡ Some births
        → (b : Bool) → nat_eq t tenant ≡ b
        → IsReached s births
    at t s births there born true e =
        let same : t ≡ tenant = eqb-true t tenant e in
        own s births (slice_get before.states tenant) refl
        (ap (slice_get after.states) (sym same) ∙ there)
        (ap (slice_get after.births) (sym same) ∙ born)
    at t s births there born false e =
        let other : t ≢ tenant = λ same. absurd (true≢false (sym (eq-eqb t tenant same) ∙ e)) in
        others_reached before after t s births reached (changes.others t other)
        (ap (λ (bss : List (List Birth)). slice_get bss t) same_births)
        there born

-- ---- a new host

get_replicated : {X : Type 0} (n : ℕ) (x y : X) (i : ℕ) → slice_get (replicate n x) i ≡ Some y → y ≡ x
get_replicated zero x y i e = absurd (none-some y e)
get_replicated (suc n) x y zero e = sym (same_Some x y e)
get_replicated (suc n) x y (suc i) e = get_replicated n x y i e

same_length : {X Y : Type 0} (n : ℕ) (x : X) (y : Y) → length (replicate n x) ≡ length (replicate n y)
same_length zero x y = refl
same_length (suc n) x y = ap suc (same_length n x y)

-- each tenant of a new host has a history
pub new_reached : (count : ℕ) → AreReached (new_host count)
new_reached count = record {
  many = same_length count (let none : List Birth = [] in none) new_tenant;
  each = λ t s births there born. (
    [],
    (
      get_replicated count new_tenant s t there,
      get_replicated count (let none : List Birth = [] in none) births t born,
    ),
  );
}

-- ---- a save

-- the frames of the parts, joined, are the frames of all commands
together : (tenant : ℕ) (ps : List (List Command))
    → flat_map (λ (bytes : List ℕ). bytes) (map (frames_of tenant) ps)
    ≡ flat_map framed (map (frame_of tenant) (flat_map (λ (part : List Command). part) ps))
together tenant [] = refl
together tenant (p ∷ ps) =
    ap₂ (λ (xs ys : List ℕ). xs ++ ys) (sym (flat_map-map framed (frame_of tenant) p)) (together tenant ps)
    ∙ sym (flat_map-append framed (map (frame_of tenant) p)
    (map (frame_of tenant) (flat_map (λ (part : List Command). part) ps)))
    ∙ ap (flat_map framed) (sym (map-append (frame_of tenant) p (flat_map (λ (part : List Command). part) ps)))

-- each of them is a frame of the tenant
owned : FramesHaveOwners
    → (tenant : ℕ) → tenant < 2 ^ 16 → (cs : List Command)
    → AllByRecursion (λ (frame : List ℕ). owner frame ≡ tenant) (map (frame_of tenant) cs)
owned law tenant few [] = tt
owned law tenant few (c ∷ cs) = (law tenant c few, owned law tenant few cs)

parts_of : (host : HostState) (tenant : ℕ) (s : TenantState) (births : List Birth)
    → slice_get host.states tenant ≡ Some s → slice_get host.births tenant ≡ Some births
    → AreParts host tenant (map (frames_of tenant) (parts s births))
parts_of host tenant s births there born = λ part.
    ap₂ (saved_of tenant part) there born ∙ sym (slice_get-map (frames_of tenant) (parts s births) part)

pub tenants_are_restored : HistoriesAreRestored
    → FramesHaveOwners → PartsAreWhole
    → (host : HostState) → AreReached host
    → AreRestored host
tenants_are_restored law owners whole host reached tenant s few there =
    let (births, born) = get_too host.states host.births tenant s reached.many there in
    let (commands, history) = reached.each tenant s births there born in (
      map (frames_of tenant) (parts s births),
      map (frame_of tenant) (restored s births),
      parts_of host tenant s births there born,
      together tenant (parts s births)
          ∙ ap (λ (cs : List Command). flat_map framed (map (frame_of tenant) cs)) (whole s births),
      owned owners tenant few (restored s births),
      law tenant commands s births history,
    )

-- ---- calls one after another

by_call : (before after : HostState) → AreReached before → Call before after → AreReached after
by_call before after reached (inl (frame, reply, handles, records)) =
    by_handle before after frame reply reached handles records
by_call before after reached (inr (inl (tenant, fd, inputs, room, written, runs, changes, same_births))) =
    by_packets before after tenant fd inputs room written reached runs changes same_births
by_call before after reached (inr (inr same)) = subst AreReached (sym same) reached

by_calls : (calls : List HostState) (before after : HostState)
    → AreReached before → Calls before calls after → AreReached after
by_calls [] before after reached same = subst AreReached (sym same) reached
by_calls (next ∷ later) before after reached (call, calls) =
    by_calls later next after (by_call before next reached call) calls

-- after any calls on a new host, the frames that are saved of each tenant restore it
pub after_calls : HistoriesAreRestored → FramesHaveOwners → PartsAreWhole → TenantsAreRestored
after_calls law owners whole count calls host made =
    tenants_are_restored law owners whole host (by_calls calls (new_host count) host (new_reached count) made)
