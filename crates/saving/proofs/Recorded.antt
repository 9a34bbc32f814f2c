-- The invariant of a tenant holds for all bytes of its part, and each command preserves it.
use Rattle.std.proofs.Common.{◌≡◌, ℕ, ◌+◌, ◌≤◌, Bool, List, [], ◌∷◌, ◌++◌, true, false, length, reverse}
use Rattle.std.proofs.Common.{filter, IsSome, Result, Ok, Err, OnOk, OnErr, refl, sym, ap, subst, ◌∙◌}
use Rattle.byteorder.specs.Endian.{little_bytes}
use Rattle.std.specs.Prelude.{if◌then◌else◌}
use Rattle.std.proofs.lemmas.List.{reverse-append, append-nil}
use Rattle.std.proofs.lemmas.List.Elements.{filter-append}
use Rattle.command_frames.specs.declared.command.Head.{Head}
use Rattle.command_frames.specs.Command.{Command, prog_test_run}
use Rattle.fd_table.specs.Table.{most}
use Rattle.tenant.specs.declared.errno.Errno.{Errno}
use Rattle.tenant.specs.declared.errno.Errno.TheVariants.{NotPermitted, NoEntry, TooBig, BadDescriptor, NoMemory}
use Rattle.tenant.specs.declared.errno.Errno.TheVariants.{AccessDenied, BadAddress, Exists, Invalid, TooManyOpen, NoSpace}
use Rattle.tenant.specs.declared.reply.Reply.{Reply}
use Rattle.tenant.specs.declared.reply.Reply.TheVariants as reply
use Rattle.tenant.specs.Errno.{status_of}
use Rattle.tenant.specs.Kept.{KeptTenant, state_in, map_at}
use Rattle.tenant.specs.Batch.{BatchInput, RunsInOrder, RunsBatch}
use Rattle.tenant.specs.Machine.{Answer, Answers, cause_errno, gives}
use Rattle.tenant.specs.Replies.{shown_reply}
use Rattle.bpf_maps.specs.Limits.{most_maps}
use Rattle.tenant.specs.State.{TenantState, new_tenant, live}
use Rattle.tenant.specs.KeptLaws.{length-at, some_at_each}
use Rattle.saving.specs.Alike.{HoldsItsMaps}
use Rattle.saving.specs.Births.{Birth, AreBirths, with_opened, births_after}
use Rattle.saving.specs.Laws.{MapsAreHeld, BirthsAreKept}
use Rattle.saving.specs.Recorded.{IsRecorded}
use Rattle.saving.specs.inside.Frames.{RepliesToCommand}
use Rattle.saving.specs.inside.Opened.{births_after_reply}
use Rattle.saving.proofs.Births.{same_births}

-- ---- whether a map is live does not depend on the bytes of a part

live_in_each : (k : KeptTenant) (p q : List ℕ) (handle : ℕ)
    → IsSome (live (state_in p k) handle) → IsSome (live (state_in q k) handle)
live_in_each k p q handle some = sym (some_at_each p q k.live handle) ∙ some

held_in_each : (k : KeptTenant) (p q : List ℕ) → HoldsItsMaps (state_in p k) → HoldsItsMaps (state_in q k)
held_in_each k p q h = record {
  descriptors = h.descriptors;
  handles = length-at (map_at q k.live);
  live_if_named = λ handle named. live_in_each k p q handle (h.live_if_named handle named);
  named_if_live = λ handle some. h.named_if_live handle (live_in_each k q p handle some);
}

births_in_each : (k : KeptTenant) (p q : List ℕ) (births : List Birth)
    → AreBirths (state_in p k) births → AreBirths (state_in q k) births
births_in_each k p q births are = same_births (state_in p k) (state_in q k) births refl (live_in_each k p q) are

recorded_by : (k : KeptTenant) (births : List Birth) (p : List ℕ)
    → HoldsItsMaps (state_in p k) → AreBirths (state_in p k) births
    → IsRecorded (record { kept = k; births = births })
recorded_by k births p held are = λ q. (held_in_each k p q held, births_in_each k p q births are)

-- ---- a new tenant, and each command

module _ (maps : MapsAreHeld) (law : BirthsAreKept) where
  -- the invariant holds for a new tenant without births
  pub recorded_new : (k : KeptTenant) (births : List Birth)
      → ((part : List ℕ) → state_in part k ≡ new_tenant)
      → births ≡ []
      → IsRecorded (record { kept = k; births = births })
  recorded_new k births new none = λ part. (
    subst HoldsItsMaps (sym (new part)) maps.new,
    subst (λ (bs : List Birth). AreBirths (state_in part k) bs) (sym none)
        (subst (λ (s : TenantState). AreBirths s []) (sym (new part)) law.new),
  )

  module _ (k : KeptTenant) (births : List Birth)
      (is : IsRecorded (record { kept = k; births = births }))
      (p : List ℕ) where
    -- after a command the births are at most as many as descriptors and handles together
    pub few_after : (refused : Bool) (command : Command) (a : Answer)
        → Answers refused (state_in p k) command a
        → length (births_after command a births) ≤ most + most_maps
    few_after refused command a answers =
        let (held, are) = is p in
        law.few a.after (births_after command a births)
        (maps.kept refused (state_in p k) command a held answers)
        (law.kept refused (state_in p k) command a births held are answers)

    -- if the invariant holds before a command, it holds after it, with the births after it
    pub recorded_after : {command : Command} {h : Head} {reply : List ℕ} (l : KeptTenant)
        (later : List Birth) (q : List ℕ)
        → RepliesToCommand command h reply (state_in p k) (state_in q l) births later
        → IsRecorded (record { kept = l; births = later })
    recorded_after {command} l later q t =
        let (held, are) = is p in
        recorded_by l later q
        (subst HoldsItsMaps (sym t.left) (maps.kept t.refused (state_in p k) command t.answer held t.answers))
        (subst (λ (bs : List Birth). AreBirths (state_in q l) bs) (sym t.recorded)
        (subst (λ (s : TenantState). AreBirths s (births_after command t.answer births))
        (sym t.left)
        (law.kept t.refused (state_in p k) command t.answer births held are t.answers)))

  -- ---- a list of test runs

  runs_keep : (births : List Birth) (fd : ℕ) (s t : TenantState) (inputs : List BatchInput)
      (results : List ℕ)
      → HoldsItsMaps s → AreBirths s births
      → RunsInOrder fd s inputs results t
      → HoldsItsMaps t × AreBirths t births
  unfolding RunsInOrder
  runs_keep births fd s t [] [] held are same = (
    subst HoldsItsMaps (sym same) held,
    subst (λ (u : TenantState). AreBirths u births) (sym same) are,
  )
  runs_keep births fd s t [] (r ∷ rs) held are wrong = absurd wrong
  runs_keep births fd s t (input ∷ inputs) [] held are wrong = absurd wrong
  runs_keep births fd s t (input ∷ inputs) (r ∷ rs) held are (between, seen, rest) =
      let command = prog_test_run fd input.words input.packet in
      let a = gives (little_bytes 4 r) between in
      runs_keep births fd between t inputs rs (maps.kept false s command a held seen)
      (law.kept false s command a births held are seen) rest

  -- after a batch the invariant still holds, whether the packets were run or the batch was rejected
  pub recorded_runs : {U E : Type 0} (r : Result U E) (k l : KeptTenant) (births : List Birth)
      (p q : List ℕ) (fd : ℕ) (inputs : List BatchInput) (room written : List ℕ)
      → IsRecorded (record { kept = k; births = births })
      → OnOk r (RunsBatch fd (state_in p k) inputs room written (state_in q l))
      → OnErr r (l ≡ k)
      → IsRecorded (record { kept = l; births = births })
  recorded_runs (Ok done) k l births p q fd inputs room written is runs same =
      let (held, are) = is p in
      let (t, after) = runs_keep births fd (state_in p k) (state_in q l) inputs runs.0 held are runs.1 in
      recorded_by l births q t after
  recorded_runs (Err e) k l births p q fd inputs room written is runs same =
      subst (λ (x : KeptTenant). IsRecorded (record { kept = x; births = births })) (sym same) is

-- if one statement implies another, it does so in the error of a result
pub with_err : {U E : Type 0} {P Q : Type 0} (r : Result U E) → (P → Q) → OnErr r P → OnErr r Q
with_err (Ok x) f p = tt
with_err (Err e) f p = f p

-- ---- the births that the code records after a reply

no_birth : (errno : Errno) (s : TenantState) (births : List Birth) → births ≡ with_opened (status_of errno) s births
no_birth NotPermitted s births = refl
no_birth NoEntry s births = refl
no_birth TooBig s births = refl
no_birth BadDescriptor s births = refl
no_birth NoMemory s births = refl
no_birth AccessDenied s births = refl
no_birth BadAddress s births = refl
no_birth Exists s births = refl
no_birth Invalid s births = refl
no_birth TooManyOpen s births = refl
no_birth NoSpace s births = refl

-- the births that the code records by a reply are those by the status that it represents
pub births_opened : (r : Result Reply Errno) (s : TenantState) (births : List Birth)
    → births_after_reply r s.objects births ≡ with_opened (shown_reply r s).status (shown_reply r s).after births
births_opened (Ok reply.Done) s births = refl
births_opened (Ok (reply.Opened fd)) s births = refl
births_opened (Ok (reply.Value value)) s births = refl
births_opened (Ok (reply.Key key)) s births = refl
births_opened (Ok (reply.Number number)) s births = refl
births_opened (Ok (reply.Refused refusal)) s births = no_birth (cause_errno refusal.cause) s births
births_opened (Err errno) s births = no_birth errno s births

-- ---- births with the latest first

-- to filter a list and then reverse it is to reverse it and then filter it
pub filter-reverse : {A : Type 0} (test : A → Bool) (xs : List A) → reverse (filter test xs) ≡ filter test (reverse xs)
filter-reverse test [] = refl
filter-reverse {A} test (x ∷ xs) =
    by (test x) refl
    ∙ ap (λ (ys : List A). ys ++ filter test (x ∷ [])) (filter-reverse test xs)
    ∙ sym (filter-append test (reverse xs) (x ∷ []))
    ∙ ap (filter test) (sym (reverse-append (x ∷ []) xs))
  where
    by : (b : Bool) → test x ≡ b → reverse (filter test (x ∷ xs)) ≡ reverse (filter test xs) ++ filter test (x ∷ [])
    by true e =
        ap (λ (b : Bool). reverse (if b then x ∷ filter test xs else filter test xs)) e
        ∙ reverse-append (x ∷ []) (filter test xs)
        ∙ ap (λ (b : Bool). reverse (filter test xs) ++ (if b then x ∷ [] else [])) (sym e)
    by false e =
        ap (λ (b : Bool). reverse (if b then x ∷ filter test xs else filter test xs)) e
        ∙ sym (append-nil (reverse (filter test xs)))
        ∙ ap (λ (b : Bool). reverse (filter test xs) ++ (if b then x ∷ [] else [])) (sym e)
