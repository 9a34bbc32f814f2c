-- `run_packets` of `SavableTenant`: the invariant still holds, since each test run preserves it by the laws `maps_are_held` and
-- `births_are_kept`, and a rejected batch changes nothing; the runs are those of the contract of `Tenant::run_packets`.
use Rattle.std.proofs.Common.{OnOk, subst}
use Rattle.arena.specs.Memory.{part_bytes}
use Rattle.tenant.specs.Batch.{RunsBatch, packets_in, inputs_of}
use Rattle.tenant.specs.Kept.{state_in}
use Rattle.saving.specs.Recorded.{RecordedTenant, tenant_state}
use Rattle.saving.proofs.Recorded.{recorded_runs, with_err}
use Rattle.saving.proofs.savable.SavableTenant.run_packets.Goals as goal

pub invariant_of-self : goal.invariant_of-self
invariant_of-self c =
    recorded_runs c.maps_are_held.ensures c.births_are_kept.ensures c.run_packets.result
    c.self.inside.tenant c.run_packets.new.self c.self.inside.births
    (part_bytes c.args.arena.now c.args.tenant) (part_bytes c.run_packets.new.arena c.args.tenant) c.args.fd
    (inputs_of c.args.batch.contexts.now (packets_in c.args.batch.bytes.now c.args.batch.ends.now)) c.args.results.now
    c.run_packets.new.results c.self.invariant c.run_packets.ensures.runs
    (with_err c.run_packets.result (λ still. still.0) c.run_packets.ensures.unchanged)

pub returns-clause-runs : goal.returns-clause-runs
returns-clause-runs c =
    subst (λ (t : RecordedTenant). OnOk c.run_packets.result
    (RunsBatch c.args.fd (tenant_state (part_bytes c.args.arena.now c.args.tenant) t)
    (inputs_of c.args.batch.contexts.now (packets_in c.args.batch.bytes.now c.args.batch.ends.now)) c.args.results.now
    c.run_packets.new.results
    (state_in (part_bytes c.run_packets.new.arena c.args.tenant) c.run_packets.new.self)))
    c.self.view_is c.run_packets.ensures.runs
