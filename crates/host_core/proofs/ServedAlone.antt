-- If a tenant was refused no memory, its replies are those of its own machine without refusals.
use Rattle.std.proofs.Common.{◌≡◌, ℕ, zero, suc, Bool, true, false, take, drop, List, [], ◌∷◌, Option, Some, None, refl, subst}
use Rattle.std.specs.Prelude.{◌==◌, slice_get, if◌then◌else◌}
use Rattle.std.proofs.lemmas.Bool.{eq-eqb}
use Rattle.command_frames.specs.Frame.{owner}
use Rattle.tenant.specs.Laws.{ClearFlagMeansAlone, UnrefusedRepliesMeanAlone, OneAlone}
use Rattle.tenant.specs.State.{TenantState}
use Rattle.tenant.specs.Alone.{frames_of, replies_of, IsRefusedMemory, NoneIsRefusedMemory, IsServedAlone, AloneWithRefusals}
use Rattle.host_core.specs.Laws.{UnrefusedAreServedAlone, CallsAreServedAlone, EachIsServedAloneUntilRefused, EachStretchIsServedAlone, SameFramesSameReplies}
use Rattle.host_core.specs.Handled.{Handles, Turn, frames_in, replies_in, HandlesInOrder, states_after}
use Rattle.host_core.specs.Served.{IsUnrefused}

-- a tenant that is served is still served at the end
stays_served : (s : TenantState) (frames replies : List (List ℕ)) → ¬ AloneWithRefusals (Some s) frames replies None
stays_served s [] [] h = cc h
stays_served s (frame ∷ frames) (reply ∷ replies) (between, (refused, (a, answers, seen, goes)), rest) =
    stays_served a.after frames replies
    (subst (λ (o : Option TenantState). AloneWithRefusals o frames replies None) goes rest)
stays_served s [] (reply ∷ replies) h = absurd h
stays_served s (frame ∷ frames) [] h = absurd h

-- a tenant that is not served is never served
unserved : (frames replies : List (List ℕ)) (after : Option TenantState)
    → AloneWithRefusals None frames replies after → IsServedAlone None frames replies after
unserved [] [] after h = h
unserved (frame ∷ frames) (reply ∷ replies) after (between, (refused, (goes, seen)), rest) = (
  None,
  (refl, seen),
  unserved frames replies after
      (subst (λ (o : Option TenantState). AloneWithRefusals o frames replies after) goes rest),
)
unserved [] (reply ∷ replies) after h = absurd h
unserved (frame ∷ frames) [] after h = absurd h

alone_by : ClearFlagMeansAlone
    → (before after : Option TenantState) (frames replies : List (List ℕ))
    → AloneWithRefusals before frames replies after
    → IsUnrefused after
    → IsServedAlone before frames replies after
alone_by clear before (Some after) frames replies h unrefused = clear before after frames replies h unrefused
alone_by clear None None frames replies h unrefused = unserved frames replies None h
alone_by clear (Some s) None frames replies h unrefused = absurd (stays_served s frames replies h)

pub unrefused_are_served_alone : ClearFlagMeansAlone → UnrefusedAreServedAlone
unrefused_are_served_alone clear before after frames replies h t unrefused =
    alone_by clear (slice_get before t) (slice_get after t) (frames_of t frames)
    (replies_of t frames replies) (h t) unrefused

-- a tenant that begins alike in two streams, with the same frames, has the same replies if no memory is refused to it
pub same_frames_same_replies : OneAlone → SameFramesSameReplies
same_frames_same_replies one t before after before_too after_too frames replies frames_too
    replies_too seen seen_too unrefused unrefused_too starts agree =
    let here =
    subst (λ (o : Option TenantState).
    IsServedAlone o (frames_of t frames) (replies_of t frames replies) (slice_get after t))
    starts (seen t unrefused) in
    let moved =
    subst (λ (fs : List (List ℕ)).
    IsServedAlone (slice_get before_too t) fs (replies_of t frames replies) (slice_get after t))
    agree here in
    (one (slice_get before_too t) (slice_get after t) (slice_get after_too t)
    (frames_of t frames_too) (replies_of t frames replies)
    (replies_of t frames_too replies_too) moved (seen_too t unrefused_too)).0

-- the first n turns
first_turns : (before after : List TenantState) (turns : List Turn) (n : ℕ)
    → HandlesInOrder before turns after
    → HandlesInOrder before (take n turns) (states_after before (take n turns))
first_turns before after [] zero h = refl
first_turns before after [] (suc n) h = refl
first_turns before after (turn ∷ turns) zero h = refl
first_turns before after (turn ∷ turns) (suc n) (first, later) = (first, first_turns turn.states after turns n later)

-- a tenant has exactly the replies of its own machine until memory is refused to it
pub each_until_refused : CallsAreServedAlone → EachIsServedAloneUntilRefused
each_until_refused law before after turns n h =
    (law before (states_after before (take n turns)) (take n turns) (first_turns before after turns n h)).1

-- the turns after the first m
later_turns : (before after : List TenantState) (turns : List Turn) (m : ℕ)
    → HandlesInOrder before turns after
    → HandlesInOrder (states_after before (take m turns)) (drop m turns) after
later_turns before after [] zero h = h
later_turns before after [] (suc m) h = h
later_turns before after (turn ∷ turns) zero h = h
later_turns before after (turn ∷ turns) (suc m) (first, later) = later_turns turn.states after turns m later

-- in a stretch of turns without a reply that memory was refused, a tenant has exactly the replies of its own machine
pub each_stretch : UnrefusedRepliesMeanAlone → CallsAreServedAlone → EachStretchIsServedAlone
each_stretch seen_so law before after turns m n h t none =
    let start = states_after before (take m turns) in
    let stretch = take n (drop m turns) in
    let end = states_after start stretch in
    let seen =
    (law start end stretch (first_turns start after (drop m turns) n (later_turns before after turns m h))).0 t in
    seen_so (slice_get start t) (slice_get end t) (frames_of t (frames_in stretch))
    (replies_of t (frames_in stretch) (replies_in stretch))
    seen none

-- the reply to one more frame, if it is not that memory was refused
pub one_more_seen : EachStretchIsServedAlone
    → {before between after : List TenantState} {frame first next reply : List ℕ}
    → Handles before frame first between → Handles between next reply after
    → ¬ IsRefusedMemory reply
    → IsServedAlone (slice_get between (owner next)) (next ∷ []) (reply ∷ []) (slice_get after (owner next))
one_more_seen law {before} {between} {after} {frame} {first} {next} {reply} one two differs =
    let turns : List Turn =
    record { frame = frame; reply = first; states = between }
    ∷ record { frame = next; reply = reply; states = after }
    ∷ [] in
    by (owner next == owner next) (eq-eqb (owner next) (owner next) refl)
    (law before after turns 1 1 (one, (two, refl)) (owner next))
  where
    by : (own : Bool)
        → own ≡ true
        → (NoneIsRefusedMemory (if own then reply ∷ [] else [])
        → IsServedAlone (slice_get between (owner next)) (if own then next ∷ [] else [])
        (if own then reply ∷ [] else []) (slice_get after (owner next)))
        → IsServedAlone (slice_get between (owner next)) (next ∷ []) (reply ∷ []) (slice_get after (owner next))
    by true is seen = seen (differs, tt)
    by false is seen = absurd (let wrong : false ≡ true = is in cc wrong)
