-- A command has one result, and a frame one reply.
use Rattle.std.proofs.Common.{◌≡◌, ℕ, Bool, true, false, List, [], ◌∷◌, Option, Some, None, Result, Ok, Err, refl, sym, ap, ap₂, subst, ◌∙◌}
use Rattle.std.specs.Prelude.{◌==◌, MatchBool}
use Rattle.command_frames.specs.declared.command.BadFrame.{BadFrame}
use Rattle.command_frames.specs.Frame.{reply_to}
use Rattle.command_frames.specs.Command.{Command, prog_load, parsed}
use Rattle.fd_table.specs.Table as table
use Rattle.verifier.specs.Laws.{OneJudgement}
use Rattle.tenant.specs.State.{TenantState}
use Rattle.tenant.specs.Machine.{Answer, result_of_judgement, targets, LoadsAs, LoadsUnder}
use Rattle.tenant.specs.Alone.{IsFrameResult, IsServedAlone}
use Rattle.tenant.specs.Laws.{OneCommandResult, OneReply, OneAlone}

loads_as : OneJudgement
    → (refused : Bool) (s : TenantState) (fd : ℕ) (slots : List ℕ) (a b : Answer)
    → LoadsAs refused s fd slots a → LoadsAs refused s fd slots b
    → a ≡ b
loads_as one true s fd slots a b x y = x ∙ sym y
loads_as one false s fd slots a b (j, is, seen) (k, is_too, seen_too) =
    seen ∙ ap (result_of_judgement s fd) (one (targets s) slots j k is is_too) ∙ sym seen_too

loads_under : OneJudgement
    → (refused : Bool) (s : TenantState) (o : Option ℕ) (slots : List ℕ) (a b : Answer)
    → LoadsUnder refused s o slots a → LoadsUnder refused s o slots b
    → a ≡ b
loads_under one refused s None slots a b x y = x ∙ sym y
loads_under one refused s (Some fd) slots a b x y = loads_as one refused s fd slots a b x y

loads_by : OneJudgement
    → (socket refused : Bool) (s : TenantState) (o : Option ℕ) (slots : List ℕ) (x a b : Answer)
    → MatchBool socket (LoadsUnder refused s o slots a) (a ≡ x)
    → MatchBool socket (LoadsUnder refused s o slots b) (b ≡ x)
    → a ≡ b
loads_by one true refused s o slots x a b h k = loads_under one refused s o slots a b h k
loads_by one false refused s o slots x a b h k = h ∙ sym k

-- a command has one result, if slots have one judgement
pub one_command_result_is : OneJudgement → OneCommandResult
one_command_result_is one refused s (prog_load kind slots) a b x y =
    loads_by one (kind == 1) refused s (table.lowest s.objects) slots _ a b x y
one_command_result_is one refused s other a b x y = x ∙ sym y

-- ---- frames

one_frame : OneCommandResult
    → (refused : Bool) (s : TenantState) (r : Result Command BadFrame) (a b : Answer)
    → IsFrameResult refused s r a → IsFrameResult refused s r b
    → a ≡ b
one_frame one refused s (Err fault) a b x y = x ∙ sym y
one_frame one refused s (Ok command) a b x y = one refused s command a b x y

-- a frame has one reply, if a command has one result
pub one_reply_is : OneCommandResult → OneReply
one_reply_is one refused frame x y None a b h k = (h.1 ∙ sym k.1, h.0 ∙ sym k.0)
one_reply_is one refused frame x y (Some s) a b (p, h, x_is, a_is) (q, k, y_is, b_is) =
    let same : p ≡ q = one_frame one refused s (parsed frame) p q h k in (
      x_is ∙ ap (λ (r : Answer). reply_to frame r.status r.payload) same ∙ sym y_is,
      a_is ∙ ap (λ (r : Answer). Some r.after) same ∙ sym b_is,
    )

-- the frames of a tenant have one list of replies without refusals, if a frame has one reply
pub one_alone_is : OneReply → OneAlone
one_alone_is one before a b [] [] [] h k = (refl, h ∙ sym k)
one_alone_is one before a b [] (x ∷ xs) ys h k = absurd h
one_alone_is one before a b [] [] (y ∷ ys) h k = absurd k
one_alone_is one before a b (f ∷ fs) [] ys h k = absurd h
one_alone_is one before a b (f ∷ fs) (x ∷ xs) [] h k = absurd k
one_alone_is one before a b (f ∷ fs) (x ∷ xs) (y ∷ ys) (m, seen, h) (n, seen_too, k) =
    let here = one false f x y before m n seen seen_too in
    let rest =
    one_alone_is one m a b fs xs ys h (subst (λ (o : Option TenantState). IsServedAlone o fs ys b) (sym here.1) k) in
    (ap₂ (λ (z : List ℕ) (zs : List (List ℕ)). z ∷ zs) here.0 rest.0, rest.1)
