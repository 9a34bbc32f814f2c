-- The effect of a call on many packets. This project's own.
use Rattle.std.specs.Prelude.{◌≡◌, ◌≢◌, ◌==◌, ℕ, ℤ, pos, true, false, List, length, take, slice_get, if◌then◌else◌}
use Rattle.host_core.specs.Batch.{RunsFor, ChangesTenant, IsAllowedFor, refusal_for, batch_status}
use Rattle.host_core.specs.TenantBatch.{packets_in, inputs_of, are_contexts}
use Rattle.host_core.specs.State.{TenantState}

-- A batch of the program at descriptor fd of a tenant, with its status. The packets lie one after
-- another in `bytes`, up to their `ends`; `contexts` has the context words of each, or one list for
-- all. `before` and `after` are the states of all tenants. If the status is 0, each packet was run,
-- and `written` is the array `room` with the results at its front; else none was run, and neither
-- the states nor the array have changed.
pub record RunsPackets (tenant fd : ℕ) (contexts : List (List ℕ)) (bytes ends room written : List ℕ)
    (status : ℤ) (before after : List TenantState) : Type 0 where
  pub seen : status
      ≡ batch_status
      (refusal_for (slice_get before tenant) fd (length contexts) (length bytes) ends
      (length room))
  pub runs : status ≡ pos 0
      → RunsFor fd (slice_get before tenant)
      (inputs_of contexts (packets_in bytes ends)) room written (slice_get after tenant)
  pub refused : status ≢ pos 0 → (after ≡ before) × (written ≡ room)
  pub others : ChangesTenant tenant before after

-- the contexts of the first n of `packets` packets. If each packet has its own, these are the first
-- n contexts. Else all contexts are returned: one context is for all packets, and with any other
-- number of contexts the batch is rejected
abbrev pub front_contexts : ℕ → ℕ → List (List ℕ) → List (List ℕ)
front_contexts packets n contexts = if length contexts == packets then take n contexts else contexts

-- A bound on executed instructions, unless it is 0, makes a batch shorter: its first packets are a
-- batch, as many as the bound allows (`packets`). A batch with neither one context nor one for each
-- packet is not made shorter, since it is rejected as a whole. `ran` is the number of packets that
-- were run.
pub record RunsBounded (tenant fd bound : ℕ) (contexts : List (List ℕ))
    (bytes ends room written : List ℕ) (status : ℤ) (ran : ℕ)
    (before after : List TenantState) : Type 0 where
  pub packets : ℕ
  pub allowed : are_contexts (length contexts) (length ends) ≡ true
      → IsAllowedFor (slice_get before tenant) fd bound (length ends) packets
  pub whole : are_contexts (length contexts) (length ends) ≡ false → packets ≡ length ends
  pub runs : RunsPackets tenant fd (front_contexts (length ends) packets contexts) bytes
      (take packets ends) room written status before after
  pub counted : status ≡ pos 0 → ran ≡ packets
  pub none_ran : status ≢ pos 0 → ran ≡ 0
