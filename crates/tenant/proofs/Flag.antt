-- What a tenant's flag, and its replies, say of refused memory.
use Rattle.std.proofs.Common.{Result, Ok, Err, subst, ◌≡◌, ℕ, Bool, true, false, List, [], ◌∷◌}
use Rattle.std.proofs.Common.{length, Option, Some, None, refl, sym, ap, ◌∙◌, ◌⊎◌, inl, inr, get_or}
use Rattle.std.specs.Prelude.{nat_lt, if◌then◌else◌}
use Rattle.command_frames.specs.declared.command.BadFrame.{BadFrame}
use Rattle.command_frames.specs.declared.command.BadFrame.TheVariants as bad
use Rattle.command_frames.specs.Command.{Command, parsed}
use Rattle.command_frames.specs.Frame.{reply_to}
use Rattle.tenant.specs.declared.errno.Errno.TheVariants.{NotPermitted, NoMemory, Invalid}
use Rattle.tenant.specs.Alone.{IsFrameResult, RepliesUnder, MayReply, IsRefusedMemory, IsServedAlone, AloneWithRefusals, frame_errno}
use Rattle.tenant.specs.Errno.{status_of}
use Rattle.tenant.specs.Laws.{takes_memory, ClearFlagMeansNoRefusal, ClearFlagMeansAlone, OnlyCreationsAndLoadsAreRefused, UnrefusedRepliesMeanAlone}
use Rattle.tenant.specs.Machine.{Answer, Answers, refuses_for_memory}
use Rattle.tenant.specs.State.{TenantState}
use Rattle.tenant.proofs.Memory.{low, unlike, answer_other, flag_kept, seen_or_refused}

-- ---- the flag

-- if the flag is clear after a command, its result is the one without refusals, and the flag was clear before
clear_answer : (r : Bool) (s : TenantState) (command : Command) (a : Answer)
    → Answers r s command a → a.after.refused ≡ false
    → Answers false s command a × (s.refused ≡ false)
clear_answer r s command a is e = by (seen_or_refused r s command a is)
  where
    by : Answers false s command a ⊎ ((takes_memory command ≡ true) × (a ≡ refuses_for_memory s))
        → Answers false s command a × (s.refused ≡ false)
    by (inl seen) = (seen, sym (flag_kept s command a seen) ∙ e)
    by (inr (takes, same)) =
        absurd (let wrong : true ≡ false = sym (ap (λ (x : Answer). x.after.refused) same) ∙ e in cc wrong)

pub clear_flag_means_no_refusal : ClearFlagMeansNoRefusal
clear_flag_means_no_refusal r s command a is clear = (clear_answer r s command a is clear).0

clear_frame : (r : Bool) (s : TenantState) (p : Result Command BadFrame) (a : Answer)
    → IsFrameResult r s p a → a.after.refused ≡ false
    → IsFrameResult false s p a × (s.refused ≡ false)
clear_frame r s (Err fault) a is e = (is, sym (ap (λ (x : Answer). x.after.refused) is) ∙ e)
clear_frame r s (Ok command) a is e = clear_answer r s command a is e

-- a tenant has a state, and its flag is clear
abbrev HasClear : Option TenantState → Type 0
HasClear None = ⊥
HasClear (Some s) = s.refused ≡ false

clear_seen : (frame reply : List ℕ) (before after : Option TenantState)
    → MayReply frame reply before after → HasClear after
    → RepliesUnder false frame reply before after × HasClear before
clear_seen frame reply None after (r, seen) e = absurd (subst HasClear seen.0 e)
clear_seen frame reply (Some s) after (r, seen_by_r) e =
    let (a, answers, seen, goes) = seen_by_r in
    let both = clear_frame r s (parsed frame) a answers (subst HasClear goes e) in
    ((a, both.0, seen, goes), both.1)

clear_both : (before after : Option TenantState) (frames replies : List (List ℕ))
    → AloneWithRefusals before frames replies after
    → HasClear after
    → IsServedAlone before frames replies after × HasClear before
clear_both before after [] [] h e = (h, subst HasClear h e)
clear_both before after [] (reply ∷ replies) h e = absurd h
clear_both before after (frame ∷ frames) [] h e = absurd h
clear_both before after (frame ∷ frames) (reply ∷ replies) (between, seen, rest) e =
    let later = clear_both between after frames replies rest e in
    let here = clear_seen frame reply before between seen later.1 in
    ((between, here.0, later.0), here.1)

-- if the flag of a tenant is clear at the end, its replies are those of its machine without refusals
pub clear_flag_means_alone : ClearFlagMeansAlone
clear_flag_means_alone before after frames replies h e = (clear_both before (Some after) frames replies h e).0

-- ---- the replies

-- the result without refusals, or that memory was refused
frame_seen : (r : Bool) (s : TenantState) (p : Result Command BadFrame) (a : Answer)
    → IsFrameResult r s p a → IsFrameResult false s p a ⊎ (a ≡ refuses_for_memory s)
frame_seen r s (Err fault) a is = inl is
frame_seen r s (Ok command) a is = by (seen_or_refused r s command a is)
  where
    by : Answers false s command a ⊎ ((takes_memory command ≡ true) × (a ≡ refuses_for_memory s))
        → Answers false s command a ⊎ (a ≡ refuses_for_memory s)
    by (inl seen) = inl seen
    by (inr (takes, same)) = inr same

unrefused_seen : (frame reply : List ℕ) (before after : Option TenantState)
    → MayReply frame reply before after → ¬ IsRefusedMemory reply
    → RepliesUnder false frame reply before after
unrefused_seen frame reply None after (r, seen) differs = seen
unrefused_seen frame reply (Some s) after (r, (a, answers, seen, goes)) differs =
    by (frame_seen r s (parsed frame) a answers)
  where
    by : IsFrameResult false s (parsed frame) a ⊎ (a ≡ refuses_for_memory s)
        → RepliesUnder false frame reply (Some s) after
    by (inl alone) = (a, alone, seen, goes)
    by (inr same) =
        let is : reply ≡ reply_to frame (status_of NoMemory) [] =
        seen ∙ ap (λ (x : Answer). reply_to frame x.status x.payload) same in
        absurd (differs (subst IsRefusedMemory (sym is) refl))

-- if none of the replies is that memory was refused, they are those of its machine without refusals
pub unrefused_replies_mean_alone : UnrefusedRepliesMeanAlone
unrefused_replies_mean_alone before after [] [] h none = h
unrefused_replies_mean_alone before after [] (reply ∷ replies) h none = absurd h
unrefused_replies_mean_alone before after (frame ∷ frames) [] h none = absurd h
unrefused_replies_mean_alone before after (frame ∷ frames) (reply ∷ replies) (between, seen, rest) none = (
  between,
  unrefused_seen frame reply before between seen none.0,
  unrefused_replies_mean_alone between after frames replies rest none.1,
)

-- ---- which replies

unserved : (short : Bool) (frame : List ℕ)
    → ¬ IsRefusedMemory (reply_to frame (status_of (if short then Invalid else NotPermitted)) [])
unserved true frame e = unlike 234 refl (ap (λ (b : List ℕ). get_or b 0 0) e)
unserved false frame e = unlike 255 refl (ap (λ (b : List ℕ). get_or b 0 0) e)

no_command : (fault : BadFrame) (s : TenantState) (frame : List ℕ)
    → ¬ IsRefusedMemory (reply_to frame (status_of (frame_errno fault)) [])
no_command bad.TooLong s frame e = unlike 249 refl (ap (λ (b : List ℕ). get_or b 0 0) e)
no_command bad.Unknown s frame e = unlike 234 refl (ap (λ (b : List ℕ). get_or b 0 0) e)
no_command bad.Body s frame e = unlike 234 refl (ap (λ (b : List ℕ). get_or b 0 0) e)

seen_to : (r : Bool) (s : TenantState) (frame : List ℕ) (command : Command) (a : Answer)
    → Answers r s command a → parsed frame ≡ Ok command
    → low a.status ≡ 244
    → (takes : Bool) → takes_memory command ≡ takes
    → (c : Command) × (parsed frame ≡ Ok c) × (takes_memory c ≡ true)
seen_to r s frame command a is same e true takes = (command, same, takes)
seen_to r s frame command a is same e false differs = absurd ((answer_other s r command a is differs).0 e)

pub only_creations_and_loads_are_refused : OnlyCreationsAndLoadsAreRefused
only_creations_and_loads_are_refused frame reply None after (r, (goes, seen)) e =
    absurd (unserved (nat_lt (length frame) 4) frame (subst IsRefusedMemory seen e))
only_creations_and_loads_are_refused frame reply (Some s) after (r, (a, answers, seen, goes)) e =
    by (parsed frame) refl answers
  where
    by : (p : Result Command BadFrame)
        → parsed frame ≡ p → IsFrameResult r s p a
        → (command : Command) × (parsed frame ≡ Ok command) × (takes_memory command ≡ true)
    by (Err fault) same is =
        absurd (no_command fault s frame
        (subst IsRefusedMemory (seen ∙ ap (λ (x : Answer). reply_to frame x.status x.payload) is) e))
    by (Ok command) same is =
        seen_to r s frame command a is same
        (ap (λ (b : List ℕ). get_or b 0 0) (subst IsRefusedMemory seen e))
        (takes_memory command) refl
