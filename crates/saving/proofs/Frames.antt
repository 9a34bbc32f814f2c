-- Two states that are alike give the same replies to a list of frames.
use Rattle.std.proofs.Common.{◌≡◌, ℕ, Bool, false, List, [], ◌∷◌, Option, Some, Result, Ok, Err, refl, sym, ap₂, subst, ◌∙◌}
use Rattle.std.specs.Prelude.{ℤ}
use Rattle.command_frames.specs.declared.command.BadFrame.{BadFrame}
use Rattle.command_frames.specs.Command.{Command, parsed}
use Rattle.command_frames.specs.Frame.{reply_to}
use Rattle.tenant.specs.State.{TenantState}
use Rattle.tenant.specs.Machine.{Answer, refuses}
use Rattle.tenant.specs.Alone.{frame_errno, IsFrameResult, RepliesUnder, MayReply, RepliesInOrder, IsServedAlone}
use Rattle.tenant.specs.Laws.{OneAlone}
use Rattle.saving.specs.Alike.{IsAlike, HoldsItsMaps}
use Rattle.saving.specs.Laws.{MapsAreHeld, AlikeIsBisimulation, AlikeStatesReplyAlike}

-- two states that hold their maps and are alike
record AreAlike (s t : TenantState) : Type 0 where
  one : HoldsItsMaps s
  two : HoldsItsMaps t
  alike : IsAlike s t

module _ (one_reply_list : OneAlone) (held : MapsAreHeld) (bisimulation : AlikeIsBisimulation) where
  -- the reply to a frame in the other state, and the state after it
  record FrameToo (refused : Bool) (t : TenantState) (p : Result Command BadFrame) (a : Answer) : Type 0 where
    b : Answer
    answers : IsFrameResult refused t p b
    status : b.status ≡ a.status
    payload : b.payload ≡ a.payload
    after : AreAlike a.after b.after

  frame_too : (refused : Bool) (s t : TenantState) (p : Result Command BadFrame) (a : Answer)
      → AreAlike s t → IsFrameResult refused s p a → FrameToo refused t p a
  frame_too refused s t (Err fault) a h is =
      subst (λ (x : Answer). FrameToo refused t (Err fault) x) (sym is)
      (record { b = refuses (frame_errno fault) t; answers = refl; status = refl; payload = refl; after = h })
  frame_too refused s t (Ok command) a h is =
      let (b, answers, alike) = bisimulation refused s t command a h.one h.two h.alike is in
      record {
        b = b;
        answers = answers;
        status = alike.status;
        payload = alike.payload;
        after = record {
          one = held.kept refused s command a h.one is;
          two = held.kept refused t command b h.two answers;
          alike = alike.after;
        };
      }

  -- the frames have these replies and lead to some state
  abbrev Reaches : (List ℕ → List ℕ → Option TenantState → Option TenantState → Type 0)
      → TenantState → List (List ℕ) → List (List ℕ) → Type 0
  Reaches tells t frames replies = (end : Option TenantState) × RepliesInOrder tells (Some t) frames replies end

  -- the reply in the other state, and a state after it that is alike
  record ReplyToo
      (tells : List ℕ → List ℕ → Option TenantState → Option TenantState → Type 0)
      (t : TenantState) (frame reply : List ℕ) (after : Option TenantState) : Type 0 where
    left : TenantState
    right : TenantState
    left_is : after ≡ Some left
    seen : tells frame reply (Some t) (Some right)
    alike : AreAlike left right

  reply_under : (refused : Bool) (s t : TenantState) (frame reply : List ℕ) (after : Option TenantState)
      → AreAlike s t
      → RepliesUnder refused frame reply (Some s) after
      → ReplyToo (RepliesUnder refused) t frame reply after
  reply_under refused s t frame reply after h (a, is, said, goes) =
      let too = frame_too refused s t (parsed frame) a h is in
      record {
        left = a.after;
        right = too.b.after;
        left_is = goes;
        seen = (
          too.b,
          too.answers,
          said
              ∙ ap₂ (λ (status : ℤ) (payload : List ℕ). reply_to frame status payload)
              (sym too.status) (sym too.payload),
          refl,
        );
        alike = too.after;
      }

  may_reply : (s t : TenantState) (frame reply : List ℕ) (after : Option TenantState)
      → AreAlike s t → MayReply frame reply (Some s) after
      → ReplyToo MayReply t frame reply after
  may_reply s t frame reply after h (refused, seen) =
      let too = reply_under refused s t frame reply after h seen in
      record {
        left = too.left;
        right = too.right;
        left_is = too.left_is;
        seen = (refused, too.seen);
        alike = too.alike;
      }

  in_order : (tells : List ℕ → List ℕ → Option TenantState → Option TenantState → Type 0)
      → ((s t : TenantState) (frame reply : List ℕ) (after : Option TenantState) → AreAlike s t
      → tells frame reply (Some s) after → ReplyToo tells t frame reply after)
      → (frames replies : List (List ℕ)) (s t : TenantState) (after : Option TenantState)
      → AreAlike s t
      → RepliesInOrder tells (Some s) frames replies after
      → Reaches tells t frames replies
  in_order tells each [] [] s t after h is = (Some t, refl)
  in_order tells each [] (reply ∷ replies) s t after h is = absurd is
  in_order tells each (frame ∷ frames) [] s t after h is = absurd is
  in_order tells each (frame ∷ frames) (reply ∷ replies) s t after h (between, seen, rest) =
      let too = each s t frame reply between h seen in
      let (end, later) =
      in_order tells each frames replies too.left too.right after too.alike
      (subst (λ (x : Option TenantState). RepliesInOrder tells x frames replies after) too.left_is rest) in
      (end, (Some too.right, too.seen, later))

  alone_too : (s t : TenantState) (frames replies : List (List ℕ)) (after : Option TenantState)
      → HoldsItsMaps s → HoldsItsMaps t
      → IsAlike s t → IsServedAlone (Some s) frames replies after
      → Reaches (RepliesUnder false) t frames replies
  alone_too s t frames replies after one two alike is =
      in_order (RepliesUnder false) (reply_under false) frames replies s t after
      (record { one = one; two = two; alike = alike }) is

  -- states that are alike give each list of frames the same replies, whether memory is refused or not
  pub replies_alike : AlikeStatesReplyAlike
  replies_alike = record {
    alone = alone_too;
    refused = λ s t frames replies after one two alike is.
        in_order MayReply may_reply frames replies s t after (record { one = one; two = two; alike = alike }) is;
    same = λ s t frames replies others after end one two alike is too.
        let (other, seen) = alone_too s t frames replies after one two alike is in
        (one_reply_list (Some t) end other frames others replies too seen).0;
  }
