-- A batch has the replies and the states of the calls with its frames, one after the other, by induction over its packets.
use Rattle.std.proofs.Common.{◌≡◌, ℕ, zero, suc, ◌<◌, false, List, [], ◌∷◌, length, set, get_or}
use Rattle.std.proofs.Common.{Option, Some, None, refl, sym, ap, subst, ◌∙◌, inl, inr, arith, length-set}
use Rattle.std.specs.Prelude.{pos, slice_get, Result, ◌⊎◌}
use Rattle.std.proofs.lemmas.Bool.{cases_eq}
use Rattle.byteorder.specs.Endian.{little_bytes}
use Rattle.command_frames.specs.declared.command.BadFrame.{BadFrame}
use Rattle.command_frames.specs.Command.{Command}
use Rattle.command_frames.specs.Frame.{owner, reply_to}
use Rattle.tenant.specs.Alone.{IsFrameResult, MayReply, IsFault}
use Rattle.tenant.specs.Batch.{RunsInOrder}
use Rattle.tenant.specs.Machine.{gives}
use Rattle.tenant.specs.State.{TenantState}
use Rattle.host_core.specs.Batch.{ChangesTenant, BatchIsItsCalls}
use Rattle.host_core.specs.Handled.{Handles, Turn}
use Rattle.host_core.proofs.Tenants.{slice_get-set_same, slice_get-set_other}

-- lists with the same element at each index
same_indices : {X : Type 0} (xs ys : List X)
    → length ys ≡ length xs → ((i : ℕ) → slice_get ys i ≡ slice_get xs i) → ys ≡ xs
same_indices [] [] long each = refl
same_indices [] (y ∷ ys) long each = let wrong : suc (length ys) ≡ 0 = long in absurd (omega arith)
same_indices (x ∷ xs) [] long each = let wrong : 0 ≡ suc (length xs) = long in absurd (omega arith)
same_indices {X} (x ∷ xs) (y ∷ ys) long each =
    let more : suc (length ys) ≡ suc (length xs) = long in
    let first : Some y ≡ Some x = each 0 in
    let same : y ≡ x = cc in
    ap (λ (z : X). z ∷ ys) same ∙ ap (λ (zs : List X). x ∷ zs) (same_indices xs ys (omega arith) (λ i. each (suc i)))

within : {X : Type 0} (xs : List X) (i : ℕ) (x : X) → slice_get xs i ≡ Some x → i < length xs
within [] i x found = let wrong : None ≡ Some x = found in cc
within (y ∷ xs) zero x found = omega arith
within (y ∷ xs) (suc i) x found = let rest = within xs i x found in omega arith

-- the reply to a run with a result is no fault
result_is_no_fault : (frame payload : List ℕ) → ¬ IsFault (reply_to frame (pos 0) payload)
result_is_no_fault frame payload e =
    let same : 0 ≡ 242 = ap (λ (b : List ℕ). get_or b 0 0) e in absurd (omega (arith, same))

-- no packet was run
none_run : (t : ℕ) (before after : List TenantState) (s last : TenantState)
    → slice_get before t ≡ Some s → last ≡ s
    → slice_get after t ≡ Some last → ChangesTenant t before after
    → after ≡ before
none_run t before after s last found same left changes =
    same_indices before after changes.count (λ i. by i (cases_eq i t))
  where
    by : (i : ℕ) → (i ≡ t) ⊎ (i ≡ t → ⊥) → slice_get after i ≡ slice_get before i
    by i (inl here) =
        ap (slice_get after) here
        ∙ left
        ∙ ap (λ (x : TenantState). Some x) same
        ∙ sym found
        ∙ ap (slice_get before) (sym here)
    by i (inr other) = changes.others i other

-- one packet was run
one_run : (t : ℕ) (frame payload : List ℕ) (before : List TenantState) (s between : TenantState)
    → owner frame ≡ t → slice_get before t ≡ Some s
    → MayReply frame (reply_to frame (pos 0) payload) (Some s) (Some between)
    → Handles before frame (reply_to frame (pos 0) payload) (set before t between)
one_run t frame payload before s between own found seen =
    let reply = reply_to frame (pos 0) payload in
    let after = set before t between in
    let last : slice_get after t ≡ Some between = slice_get-set_same before t between (within before t s found) in
    let at_t : MayReply frame reply (slice_get before t) (slice_get after t) =
    subst (λ (x : Option TenantState). MayReply frame reply (slice_get before t) x) (sym last)
    (subst (λ (x : Option TenantState). MayReply frame reply x (Some between)) (sym found) seen) in record {
      own = subst (λ (n : ℕ). MayReply frame reply (slice_get before n) (slice_get after n)) (sym own) at_t;
      others = λ other ne. slice_get-set_other before t other between (λ (e : other ≡ t). ne (e ∙ sym own));
      count = length-set before t between;
      no_fault = result_is_no_fault frame payload;
    }

changes_rest : (t : ℕ) (before after : List TenantState) (between : TenantState)
    → ChangesTenant t before after → ChangesTenant t (set before t between) after
changes_rest t before after between changes = record {
  others = λ other ne. changes.others other ne ∙ sym (slice_get-set_other before t other between ne);
  count = changes.count ∙ sym (length-set before t between);
}

pub batch_is_its_calls : BatchIsItsCalls
unfolding RunsInOrder
batch_is_its_calls t fd [] [] [] before after s last owned tests found runs left changes = (
  [],
  refl,
  refl,
  none_run t before after s last found runs left changes,
)
batch_is_its_calls t fd [] [] (result ∷ results) before after s last owned tests found runs left changes = absurd runs
batch_is_its_calls t fd [] (input ∷ inputs) results before after s last owned tests found runs left changes =
    absurd tests
batch_is_its_calls t fd (frame ∷ frames) [] results before after s last owned tests found runs left changes =
    absurd tests
batch_is_its_calls t fd (frame ∷ frames) (input ∷ inputs) [] before after s last owned tests found runs left changes =
    absurd runs
batch_is_its_calls t fd (frame ∷ frames) (input ∷ inputs) (result ∷ results) before after s last
    owned tests found runs left changes =
    let (between, seen, rest) = runs in
    let answer = gives (little_bytes 4 result) between in
    let answers = subst (λ (r : Result Command BadFrame). IsFrameResult false s r answer) (sym tests.0) seen in
    let states = set before t between in
    let reply = reply_to frame (pos 0) (little_bytes 4 result) in
    let turn : Turn = record { frame = frame; reply = reply; states = states } in
    let (turns, frames_are, replies_are, later) =
    batch_is_its_calls t fd frames inputs results states after between last owned.1 tests.1
    (slice_get-set_same before t between (within before t s found))
    rest left (changes_rest t before after between changes) in (
      turn ∷ turns,
      ap (λ (fs : List (List ℕ)). frame ∷ fs) frames_are,
      ap (λ (rs : List (List ℕ)). reply ∷ rs) replies_are,
      (
        one_run t frame (little_bytes 4 result) before s between owned.0 found (false, (answer, answers, refl, refl)),
        later,
      ),
    )
