-- `test_run`: the maps of the program are bound for `run_with`, since in a well-formed tenant they are live and have the program's shapes.
-- By its contract the run preserves which maps are live, their shapes and references, so the tenant is still well formed; and it represents
-- the tagged run of the program that the descriptor names, so the reply and the state are the machine's.
use Rattle.std.proofs.Common.{ℕ, List, sym, ap, subst, ◌∙◌}
use Rattle.arena.specs.Memory.{part_bytes}
use Rattle.fd_table.specs.Table.{named}
use Rattle.flat_machine.specs.Runs.{AreBound}
use Rattle.tagged_model.specs.declared.value.Outcome.{Outcome}
use Rattle.tenant.specs.Kept.{KeptTenant, state_in}
use Rattle.tenant.specs.Machine.{outcome_result, run_of}
use Rattle.tenant.proofs.StillKept.{kept_in, with_live}
use Rattle.tenant.proofs.TestRunEnds.{seen_of}
use Rattle.tenant.proofs.TestRunKept.{kept_after}
use Rattle.tenant.proofs.TestRunKeys.{are_bound, bound_of}
use Rattle.tenant.proofs.tenant.Tenant.test_run.Goals as goal

pub run_with-outcome-requires-clause-bound : goal.run_with-outcome-requires-clause-bound
run_with-outcome-requires-clause-bound c =
    let k = kept_in c.self.inside in
    subst (λ (ps : List ℕ). AreBound c.program.result.now ps k.live) (sym c.maps.ensures)
    (are_bound c.self.invariant
    (bound_of c.args.fd c.self.invariant c.in_ok-program.ensures.found)
    c.maps_are_listed.ensures c.program.result.now c.program.ensures.code
    c.program.ensures.objects)

pub invariant_of-self : goal.invariant_of-self
invariant_of-self c = kept_after c.self.invariant c.run_with-outcome.ensures.maps

pub returns-clause-answer : goal.returns-clause-answer
returns-clause-answer c =
    let k = kept_in c.self.inside in
    let t = c.args.tenant in
    let part = part_bytes c.args.arena.now t in
    let words = c.args.words.now in
    let packet = c.args.packet.now in
    let run = c.run_with-outcome in
    let later = part_bytes run.new.arena t in
    let after = state_in later (with_live k run.new.maps) in
    let is =
    seen_of c.maps_are_listed.ensures c.args.fd c.self.invariant c.in_ok-program.ensures.found
    c.if-packet-gt-LONGEST_PACKET.false
    c.maps.ensures c.program.ensures.code c.context_words-context.ensures run.ensures.runs
    run.ensures.maps run.ensures.values in
    ap (λ (o : Outcome). outcome_result o after) (sym c.in-Value.is)
    ∙ is
    ∙ ap (λ (x : KeptTenant). run_of (state_in part x) words packet (named x.objects c.args.fd)) c.self.view_is
