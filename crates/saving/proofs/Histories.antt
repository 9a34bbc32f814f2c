-- Each state that a tenant can reach is restored by its save.
use Rattle.std.proofs.Common.{List, [], ◌∷◌, sym, subst}
use Rattle.command_frames.specs.Command.{Command}
use Rattle.tenant.specs.State.{TenantState, new_tenant}
use Rattle.saving.specs.Births.{Birth, AreBirths, births_after}
use Rattle.saving.specs.Restorable.{IsRestorable}
use Rattle.saving.specs.Laws.{AlikeStatesReplyAlike, BirthsAreKept, RestorableIsKept, RestoredByFrames, IsHistory, HistoriesAreRestored}

record IsReady (s : TenantState) (births : List Birth) : Type 0 where
  can : IsRestorable s
  are : AreBirths s births

ready_after : BirthsAreKept
    → RestorableIsKept
    → (commands : List Command) (s t : TenantState) (births later : List Birth) → IsReady s births
    → IsHistory s births commands t later
    → IsReady t later
ready_after birth can [] s t births later is (same, same_births) =
    subst (λ (bs : List Birth). IsReady t bs) (sym same_births)
    (subst (λ (x : TenantState). IsReady x births) (sym same) is)
ready_after birth can (c ∷ cs) s t births later is (refused, a, answers, rest) =
    ready_after birth can cs a.after t (births_after c a births) later (record {
      can = can.kept refused s c a is.can answers;
      are = birth.kept refused s c a births is.can.held is.are answers;
    }) rest

pub histories_are_restored : BirthsAreKept
    → RestorableIsKept → RestoredByFrames
    → AlikeStatesReplyAlike
    → HistoriesAreRestored
histories_are_restored birth can restores replies tenant commands s births history =
    let is =
    ready_after birth can commands new_tenant s [] births (record { can = can.new; are = birth.new }) history in
    let (t, given, seen, good, alike, holds) = restores tenant s births is.can is.are in (
      t,
      given,
      seen,
      good,
      (λ frames xs after alone. replies.alone s t frames xs after is.can.held holds alike alone),
      (λ frames xs ys after end alone too. replies.same s t frames xs ys after end is.can.held holds alike alone too),
    )
