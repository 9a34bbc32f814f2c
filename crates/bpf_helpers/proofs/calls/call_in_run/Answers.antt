-- `call_in_run`: by cases of the helper, the contract of the function that the branch calls gives a result that represents that of the
-- machine's call (`Followed`); an update keeps no element apart (`updates_apart`).
use Rattle.std.proofs.Common.{sym, subst}
use Rattle.tagged_model.specs.declared.helper.Helper.{Helper}
use Rattle.bpf_helpers.specs.Calls.{CallFollows}
use Rattle.bpf_helpers.specs.States.{answers as gives, call_state}
use Rattle.bpf_helpers.proofs.Followed.{look_up_follows, update_follows, load_follows}
use Rattle.bpf_helpers.proofs.SameApart.{updates_apart}
use Rattle.bpf_helpers.proofs.calls.call_in_run.Goals as goal

pub returns-in-LookUp-clause-follows : goal.returns-in-LookUp-clause-follows
returns-in-LookUp-clause-follows c =
    let here =
    call_state c.args.caller.tenant c.args.caller.bind.now c.args.caller.packet.now c.args.arena.now c.args.maps.now in
    let look = c.look_up_among in
    subst (λ (h : Helper). CallFollows here c.args.words.now h (gives look.result c.args.arena.now c.args.maps.now))
    (sym c.in-LookUp.is)
    (look_up_follows c.returns_keep_simulation.ensures c.call_premises.ensures c.args.words.now
    look.result here look.ensures.value)

pub returns-in-LoadBytes-clause-follows : goal.returns-in-LoadBytes-clause-follows
returns-in-LoadBytes-clause-follows c =
    let here =
    call_state c.args.caller.tenant c.args.caller.bind.now c.args.caller.packet.now c.args.arena.now c.args.maps.now in
    let load = c.load_bytes_inside in
    subst (λ (h : Helper). CallFollows here c.args.words.now h (gives load.result load.new.arena c.args.maps.now))
    (sym c.in-LoadBytes.is)
    (load_follows c.returns_keep_simulation.ensures c.call_premises.ensures c.args.words.now
    load.result load.new.arena here (load.ensures.loaded c.args.maps.now))

pub returns-in-Update-clause-follows : goal.returns-in-Update-clause-follows
returns-in-Update-clause-follows c =
    let here =
    call_state c.args.caller.tenant c.args.caller.bind.now c.args.caller.packet.now c.args.arena.now c.args.maps.now in
    let reply = gives c.update_inside.result c.update_inside.new.arena c.update_inside.new.maps in
    subst (λ (h : Helper). CallFollows here c.args.words.now h reply) (sym c.in-Update.is)
    (update_follows c.returns_keep_simulation.ensures c.call_premises.ensures c.args.words.now
    reply here c.update_inside.ensures.updated)

pub returns-in-Update-clause-apart : goal.returns-in-Update-clause-apart
returns-in-Update-clause-apart c =
    updates_apart
    (call_state c.args.caller.tenant c.args.caller.bind.now c.args.caller.packet.now c.args.arena.now c.args.maps.now)
    _ _
    (gives c.update_inside.result c.update_inside.new.arena c.update_inside.new.maps)
    c.update_inside.ensures.updated
