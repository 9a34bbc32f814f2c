-- A program is installed as its frame loads it.
use Rattle.std.proofs.Common.{◌≡◌, ◌≢◌, ℕ, ◌^◌, ◌<◌, Bool, List, [], length, Some, None}
use Rattle.std.proofs.Common.{Result, Ok, Err, IfOk, IfErr, refl, set, sym, ap, subst, ◌∙◌, arith}
use Rattle.std.specs.Prelude.{ℤ, slice_get, if◌then◌else◌}
use Rattle.std.proofs.lemmas.Bool.{le-ltb}
use Rattle.arena.specs.Memory.{Memory, part_bytes}
use Rattle.command_frames.specs.Frame.{owner, reply_to}
use Rattle.insn_set.specs.declared.insn.Insn.{Insn}
use Rattle.saving.specs.Installs.{load_frame, load_reply}
use Rattle.command_frames.specs.Laws.{FramesHaveOwners}
use Rattle.saving.specs.Recorded.{RecordedTenant, RecordsFrame, tenant_state}
use Rattle.saving.specs.Restored.{load_of}
use Rattle.tenant.specs.declared.errno.Errno.TheVariants.{NotPermitted, BadAddress, Invalid}
use Rattle.tenant.specs.Alone.{MayReply, unserved_errno}
use Rattle.tenant.specs.Errno.{status_of}
use Rattle.tenant.specs.Laws.{FaultsHaveNoPayload}
use Rattle.tenant.specs.Machine.{targets}
use Rattle.tenant.specs.State.{TenantState}
use Rattle.verifier.specs.Fits.{Fits}
use Rattle.verifier.specs.Verified.{Accepted}
use Rattle.host_core.specs.Handled.{Handles}
use Rattle.host_core.specs.Installs.{Installs, FitsTenant}
use Rattle.host_core.specs.Saving.{Records}
use Rattle.host_core.specs.States.{HostState, host_state, states_in}
use Rattle.host_core.specs.inside.Reached.{AreReached}
use Rattle.host_core.proofs.Faults.{served_is_no_fault, refusal_is_no_fault}
use Rattle.host_core.proofs.Histories.{by_handle}
use Rattle.host_core.proofs.Tenants.{state_there, others_stay, count_stays, states_are, tells_own, tells_none, records_none, records_own}

-- what holds of the value or of the error of a result
pub cases_of : {T E : Type 0} (Z : Type 0) (r : Result T E) (A B C : T → Type 0) (F : E → Type 0)
    → ((x : T) → A x → B x → C x → Z) → ((e : E) → F e → Z)
    → IfOk r A → IfOk r B
    → IfOk r C → IfErr r F
    → Z
cases_of Z (Ok x) A B C F f g a b c e = f x a b c
cases_of Z (Err x) A B C F f g a b c e = g x e

-- if the value of a result has three properties, from which a fourth one follows, it has the fourth
pub all_ok : {T E : Type 0} (r : Result T E) (A B C D : T → Type 0)
    → ((x : T) → A x → B x → C x → D x) → IfOk r A → IfOk r B → IfOk r C → IfOk r D
all_ok (Ok x) A B C D f a b c = f x a b c
all_ok (Err e) A B C D f a b c = tt

-- if a property of the error of a result implies another one, the error has the other one too
pub with_error : {T E : Type 0} (r : Result T E) (A B : E → Type 0) → ((e : E) → A e → B e) → IfErr r A → IfErr r B
with_error (Ok x) A B f a = tt
with_error (Err e) A B f a = f e a

-- ---- a tenant that is not served

module _ (owners : FramesHaveOwners) (h : HostState) (t : ℕ) (small : t < 2 ^ 16)
    (unserved : slice_get h.states t ≡ None) (insns : List Insn) (status : ℤ)
    (is : status ≡ status_of NotPermitted) where
  nowhere : slice_get h.states (owner (load_frame t insns)) ≡ None
  nowhere = ap (slice_get h.states) (owners t (load_of insns) small) ∙ unserved

  refused :
      load_reply t insns status ≡ reply_to (load_frame t insns) (status_of (unserved_errno (load_frame t insns))) []
  refused =
      ap (λ (z : ℤ). reply_to (load_frame t insns) z []) is
      ∙ sym (ap (λ (b : Bool). reply_to (load_frame t insns) (status_of (if b then Invalid else NotPermitted)) [])
      (le-ltb (length (load_frame t insns)) 4 (omega arith)))

  -- a program for a tenant that is not served has the reply NotPermitted, and the host does not change
  pub installs_nowhere : Installs t insns status h h
  installs_nowhere = record {
    handled = record {
      own =
          tells_none h.states (owner (load_frame t insns)) (load_frame t insns)
          (load_reply t insns status) nowhere refused;
      others = λ other ne. refl;
      count = refl;
      no_fault = refusal_is_no_fault (load_frame t insns) (load_reply t insns status) refused;
    };
    recorded = records_none h (load_frame t insns) (load_reply t insns status) nowhere;
  }

-- ---- a tenant that is served

module _ (m : Memory) (ks : List RecordedTenant) (h : HostState) (view : host_state m ks ≡ h)
    (t : ℕ) (k : RecordedTenant) (found : slice_get ks t ≡ Some k) (a : Accepted) where
  there : slice_get h.states t ≡ Some (tenant_state (part_bytes m t) k)
  there = state_there m ks h.states t k (states_are m ks h view) found

  -- if a program fits the state that a tenant's record represents, whatever its part is, it fits the tenant
  pub fits_there : ((part : List ℕ) → Fits a (targets (tenant_state part k))) → FitsTenant a (slice_get h.states t)
  fits_there fits = subst (FitsTenant a) (sym there) (fits (part_bytes m t))

  -- if a program does not fit the state that a tenant's record represents, whatever its part is, it is stale there
  pub stale_there : ((part : List ℕ) → ¬ Fits a (targets (tenant_state part k))) → ¬ FitsTenant a (slice_get h.states t)
  stale_there stale fits = stale (part_bytes m t) (subst (FitsTenant a) there fits)

module _ (owners : FramesHaveOwners) (law : FaultsHaveNoPayload) (m : Memory)
    (ks : List RecordedTenant) (h : HostState) (view : host_state m ks ≡ h) (t : ℕ)
    (small : t < 2 ^ 16) (room : t < length ks) (k l : RecordedTenant)
    (found : slice_get ks t ≡ Some k) (insns : List Insn) (status : ℤ)
    (replied : MayReply (load_frame t insns) (load_reply t insns status)
    (Some (tenant_state (part_bytes m t) k)) (Some (tenant_state (part_bytes m t) l)))
    (recorded : RecordsFrame (load_frame t insns) (load_reply t insns status) (tenant_state (part_bytes m t) k)
    (tenant_state (part_bytes m t) l) k.births l.births)
    (no_fault : load_reply t insns status ≢ reply_to (load_frame t insns) (status_of BadAddress) []) where
  own : t ≡ owner (load_frame t insns)
  own = sym (owners t (load_of insns) small)

  handled : Handles h.states (load_frame t insns) (load_reply t insns status) (states_in m (set ks t l))
  handled = record {
    own =
        tells_own m m ks h.states t (owner (load_frame t insns)) k l (load_frame t insns)
        (load_reply t insns status) (states_are m ks h view)
        own room found replied;
    others = λ other ne.
        others_stay m m ks t other l (λ e. ne (e ∙ own)) refl
        ∙ ap (λ (s : List TenantState). slice_get s other) (states_are m ks h view);
    count = count_stays m m ks t l ∙ ap length (states_are m ks h view);
    no_fault =
        served_is_no_fault law (load_frame t insns) (load_reply t insns status)
        (Some (tenant_state (part_bytes m t) k)) (Some (tenant_state (part_bytes m t) l)) replied no_fault;
  }

  records : Records (load_frame t insns) (load_reply t insns status) h (host_state m (set ks t l))
  records = records_own m m ks h t k l (load_frame t insns) (load_reply t insns status) view own room found recorded

  -- if a tenant replies to the frame that loads a program, and records it, the host installs the program
  pub installs_there : Installs t insns status h (host_state m (set ks t l))
  installs_there = record { handled = handled; recorded = records }

  -- each tenant still has a history
  pub reached_there : AreReached h → AreReached (host_state m (set ks t l))
  reached_there reached =
      by_handle h (host_state m (set ks t l)) (load_frame t insns) (load_reply t insns status) reached handled records
