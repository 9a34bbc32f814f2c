-- `install` of `Session`: if `install` of `Host` gives the program back, the host is unchanged, and so is the session, as a session with an
-- equal host and equal other fields is equal (`same_session`).
use Rattle.std.proofs.Common.{◌≡◌, ◌≤◌, ℕ, ap, ◌∙◌}
use Rattle.std.specs.Prelude.{vec_capacity}
use Rattle.std.proofs.Props.{props}
use Rattle.std.proofs.lemmas.Result.{IfErr-weaker}
use Rattle.host_core.specs.Frame.{longest_reply}
use Rattle.host_core.specs.States.{HostState}
use Rattle.bpfhost_c.specs.declared.session.Session.{Session}
use Rattle.bpfhost_c.proofs.session.Session.install.Goals as goal

≤-prop : (a b : ℕ) → IsProp (a ≤ b)
≤-prop a b = hlevel props

-- a session with an equal host is the same
same_session : (s : Session) (h : HostState) (room : longest_reply ≤ vec_capacity s.reply)
    → h ≡ s.host
    → record { host = h; reply = s.reply; saved = s.saved; alloc = s.alloc; room = room } ≡ s
same_session s h room e =
    ap (λ (x : HostState).
    let t : Session = record { host = x; reply = s.reply; saved = s.saved; alloc = s.alloc; room = room } in t)
    e
    ∙ ap (λ (r : longest_reply ≤ vec_capacity s.reply).
    let t : Session = record { host = s.host; reply = s.reply; saved = s.saved; alloc = s.alloc; room = r } in t)
    (≤-prop longest_reply (vec_capacity s.reply) room s.room)

pub returns-clause-stale : goal.returns-clause-stale
returns-clause-stale c =
    IfErr-weaker c.install.result _ _
    (λ kept stale. (stale.0, same_session c.args.self.now c.install.new.self _ stale.1, stale.2))
    c.install.ensures.stale
