-- `run_packets` of `Tenant`: the runs are the packets' test runs, in their order, by the contract of `run_packets` of `flat_machine`; by
-- the invariant the program's maps are bound to it, and the tenant is still well formed. An error is, by cases, that of `program_at`, of
-- too few results, or of `Packets::new`; without packets nothing is run.
use Rattle.std.proofs.Common.{◌≡◌, ◌≤◌, ℕ, List, length, take, Some, None, sym, ap, subst, ◌∙◌, option_map, arith}
use Rattle.std.specs.Prelude.{Result, Ok, Err, IsErrAnd}
use Rattle.std.specs.List.{All}
use Rattle.std.specs.Result.{result_err}
use Rattle.std.proofs.lemmas.Bool.{eqb-true}
use Rattle.std.proofs.lemmas.List.{take_all}
use Rattle.fd_table.specs.Table.{named}
use Rattle.flat_machine.specs.Packets.{BatchInput, packets_in, inputs_of}
use Rattle.flat_machine.specs.Runs.{AreBound, standing}
use Rattle.tenant.specs.Batch.{RunsInOrder, object_refusal, packet_errno, packets_refusal}
use Rattle.tenant.specs.Kept.{KeptTenant, state_in}
use Rattle.tenant.specs.Machine.{longest_packet}
use Rattle.tenant.proofs.Batches.{with_room, without_room, refused_first, none_run, runs_in_order}
use Rattle.tenant.proofs.StillKept.{kept_in, with_live}
use Rattle.tenant.proofs.TestRunKept.{kept_after}
use Rattle.tenant.proofs.TestRunKeys.{are_bound, bound_of}
use Rattle.tenant.proofs.tenant.Tenant.run_packets.Goals as goal

pub run_packets-requires-clause-bound : goal.run_packets-requires-clause-bound
run_packets-requires-clause-bound c =
    let k = kept_in c.self.inside in
    subst (λ (ps : List ℕ). AreBound c.program.result.now ps k.live) (sym c.maps.ensures)
    (are_bound c.self.invariant
    (bound_of c.args.fd c.self.invariant c.in_ok-program.ensures.found)
    c.maps_are_listed.ensures c.program.result.now c.program.ensures.code
    c.program.ensures.objects)

pub invariant_of-self : goal.invariant_of-self
invariant_of-self c = kept_after c.self.invariant c.run_packets.ensures.maps

-- an error that is passed on
passed_on : {T E : Type 0} (r : Result T E) (e : E) → IsErrAnd r (λ f. f ≡ e) → result_err r ≡ Some e
passed_on (Ok x) e is = absurd is
passed_on (Err f) e is = ap Some is

pub returns-in_err-program-clause-refusal : goal.returns-in_err-program-clause-refusal
returns-in_err-program-clause-refusal c =
    passed_on c.from_residual.result _ c.from_residual.ensures.1
    ∙ refused_first (packets_refusal (length c.args.batch.contexts.now) (length c.args.batch.bytes.now)
    c.args.batch.ends.now (length c.args.results.now))
    (ap (λ (x : KeptTenant). named x.objects c.args.fd) c.self.view_is)
    c.in_err-program.ensures.refusal

pub returns-then-results-ends-clause-refusal : goal.returns-then-results-ends-clause-refusal
returns-then-results-ends-clause-refusal c =
    let program =
    subst (λ (x : KeptTenant). object_refusal (named x.objects c.args.fd) ≡ None) c.self.view_is
    (sym c.in_ok-program.ensures.refusal) in
    sym (without_room (named c.args.self.now.objects c.args.fd) (length c.args.batch.contexts.now)
    (length c.args.batch.bytes.now) c.args.batch.ends.now (length c.args.results.now)
    program c.if-results-ends.true)

pub returns-in-Err-clause-refusal : goal.returns-in-Err-clause-refusal
returns-in-Err-clause-refusal c =
    let program =
    subst (λ (x : KeptTenant). object_refusal (named x.objects c.args.fd) ≡ None) c.self.view_is
    (sym c.in_ok-program.ensures.refusal) in
    ap Some c.of_packet.ensures
    ∙ ap (λ o. option_map packet_errno o) c.in-Err.ensures.fault
    ∙ sym (with_room (named c.args.self.now.objects c.args.fd) (length c.args.batch.contexts.now)
    (length c.args.batch.bytes.now) c.args.batch.ends.now (length c.args.results.now)
    program c.if-results-ends.false)

pub returns-in-Ok-clause-refusal : goal.returns-in-Ok-clause-refusal
returns-in-Ok-clause-refusal c =
    let program =
    subst (λ (x : KeptTenant). object_refusal (named x.objects c.args.fd) ≡ None) c.self.view_is
    (sym c.in_ok-program.ensures.refusal) in
    ap (λ o. option_map packet_errno o) c.in-Ok.ensures.fault
    ∙ sym (with_room (named c.args.self.now.objects c.args.fd) (length c.args.batch.contexts.now)
    (length c.args.batch.bytes.now) c.args.batch.ends.now (length c.args.results.now)
    program c.if-results-ends.false)

pub returns-in-Ok-clause-runs : goal.returns-in-Ok-clause-runs
returns-in-Ok-clause-runs c =
    none_run c.args.fd _ _ c.args.results.now
    (ap length (sym c.in-Ok.ensures.packets) ∙ c.in-Ok.ensures.count
    ∙ eqb-true (length c.args.batch.ends.now) 0 (sym c.is_empty.ensures ∙ c.if-is_empty.true))

pub returns-in-Ok-2-clause-refusal : goal.returns-in-Ok-2-clause-refusal
returns-in-Ok-2-clause-refusal c =
    let program =
    subst (λ (x : KeptTenant). object_refusal (named x.objects c.args.fd) ≡ None) c.self.view_is
    (sym c.in_ok-program.ensures.refusal) in
    ap (λ o. option_map packet_errno o) c.in-Ok-2.ensures.fault
    ∙ sym (with_room (named c.args.self.now.objects c.args.fd) (length c.args.batch.contexts.now)
    (length c.args.batch.bytes.now) c.args.batch.ends.now (length c.args.results.now)
    program c.if-results-ends.false)

pub returns-in-Ok-2-clause-runs : goal.returns-in-Ok-2-clause-runs
returns-in-Ok-2-clause-runs c =
    let k = kept_in c.self.inside in
    let t = c.args.tenant in
    let inputs = inputs_of c.args.batch.contexts.now (packets_in c.args.batch.bytes.now c.args.batch.ends.now) in
    let run = c.run_packets in
    let before = standing k.live c.args.arena.now t c.new-trace.result.steps in
    let after = standing run.new.maps run.new.arena t run.new.trace.steps in
    let fits : length c.in-Ok.field-0 ≤ length c.args.results.now =
    omega (arith, c.in-Ok.ensures.count, c.if-results-ends.false) in
    let all : take (length c.args.results.now) c.in-Ok.field-0 ≡ inputs =
    take_all (length c.args.results.now) c.in-Ok.field-0 fits ∙ c.in-Ok.ensures.packets in
    let short : All (λ (input : BatchInput). length input.packet ≤ longest_packet)
    (take (length c.args.results.now) c.in-Ok.field-0) =
    subst (λ (is : List BatchInput). All (λ (input : BatchInput). length input.packet ≤ longest_packet) is)
    (sym (take_all (length c.args.results.now) c.in-Ok.field-0 fits))
    c.packets_are_short.ensures in
    let (results, each, written) = run.ensures.runs in
    let order =
    runs_in_order c.maps_are_listed.ensures c.args.fd k _ c.in_ok-program.ensures.found
    c.program.result.now.code c.maps.result.now c.maps.ensures
    c.program.ensures.code (take (length c.args.results.now) c.in-Ok.field-0)
    results before after c.self.invariant short each in (
      results,
      subst (λ (is : List BatchInput).
          RunsInOrder c.args.fd (state_in before.part c.args.self.now) is results
          (state_in after.part (with_live k after.maps)))
          all
          (subst (λ (x : KeptTenant).
          RunsInOrder c.args.fd (state_in before.part x)
          (take (length c.args.results.now) c.in-Ok.field-0) results
          (state_in after.part (with_live k after.maps)))
          c.self.view_is order),
      written,
    )
