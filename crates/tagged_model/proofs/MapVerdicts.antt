-- Consequences of the verdict on an update for its key.
use Rattle.std.proofs.Common.{◌≡◌, ℕ, ◌==◌, nat_le, if◌then◌else◌, List, Option, Some, None, refl, sym, ◌∙◌}
use Rattle.std.proofs.lemmas.Bool.{cond_both}
use Rattle.tagged_model.specs.declared.shape.MapKind.{MapKind}
use Rattle.tagged_model.specs.declared.shape.MapKind.TheVariants.{Hash, Array}
use Rattle.tagged_model.specs.declared.fault.MapFault.{MapFault}
use Rattle.tagged_model.specs.declared.fault.MapFault.TheVariants.{NoEntry, TooBig, Memory, Exists, Invalid}
use Rattle.tagged_model.specs.Table.{Table, Verdict, Refused, Present, New, no_exist, exist, look_up, is_full, of_absent, of_found, verdict}
use Rattle.tagged_model.specs.MapLaws.{MapVerdictsMatchLookUps}

-- a property of each possible verdict
module _ {A : Type 0} (t : Table A) (key : List ℕ) (flags : ℕ) (P : Verdict A → Type 0)
    (refused : P (Refused Invalid) × P (Refused NoEntry) × P (Refused TooBig) × P (Refused Exists))
    (present : (a : A) → look_up t key ≡ Some a → P (Present a))
    (new : look_up t key ≡ None → P New) where
  of_kind : look_up t key ≡ None → (k : MapKind) → P (of_absent k (is_full t) flags)
  of_kind absent Array = refused.2
  of_kind absent Hash =
      cond_both (flags == exist) (Refused NoEntry) (if is_full t then Refused TooBig else New) P (λ _. refused.1)
      (λ _. cond_both (is_full t) (Refused TooBig) New P (λ _. refused.2) (λ _. new absent))

  of_object : (o : Option A) → look_up t key ≡ o → P (of_found t flags o)
  of_object None e = of_kind e t.shape.kind
  of_object (Some a) e =
      cond_both (flags == no_exist) (Refused Exists) (Present a) P (λ _. refused.3) (λ _. present a e)

  each : P (verdict t key flags)
  each =
      cond_both (nat_le flags exist) (of_found t flags (look_up t key)) (Refused Invalid) P
      (λ _. of_object (look_up t key) refl) (λ _. refused.0)

module _ {A : Type 0} where
  not_present : (fault : MapFault) (object : A) → ◌≡◌ {A = Verdict A} (Refused fault) (Present object) → ⊥
  not_present fault object e = cc

  not_new : (fault : MapFault) → ◌≡◌ {A = Verdict A} (Refused fault) New → ⊥
  not_new fault e = cc

-- by the verdict on an update, a present key is found and a new one is not, and memory never runs out
pub tell : (A : Type 0) → MapVerdictsMatchLookUps A
tell A = record {
  present = λ t key flags object.
      each t key flags (λ v. v ≡ Present object → look_up t key ≡ Some object) (
        λ e. absurd (not_present Invalid object e),
        λ e. absurd (not_present NoEntry object e),
        λ e. absurd (not_present TooBig object e),
        λ e. absurd (not_present Exists object e),
      )
      (λ a found e. found ∙ same a object e)
      (λ absent e. absurd (new_is object e));
  new = λ t key flags.
      each t key flags (λ v. v ≡ New → look_up t key ≡ None) (
        λ e. absurd (not_new Invalid e),
        λ e. absurd (not_new NoEntry e),
        λ e. absurd (not_new TooBig e),
        λ e. absurd (not_new Exists e),
      )
      (λ a found e. absurd (new_is a (sym e)))
      (λ absent e. absent);
  memory = λ t key flags.
      each t key flags (λ v. v ≡ Refused Memory → ⊥)
      (λ e. invalid e, λ e. no_entry e, λ e. too_big e, λ e. exists e)
      (λ a found e. not_present Memory a (sym e))
      (λ absent e. not_new Memory (sym e));
}
  where
    same : (a b : A) → ◌≡◌ {A = Verdict A} (Present a) (Present b) → Some a ≡ Some b
    same a b e = cc

    new_is : (a : A) → ◌≡◌ {A = Verdict A} New (Present a) → ⊥
    new_is a e = cc

    invalid : ◌≡◌ {A = Verdict A} (Refused Invalid) (Refused Memory) → ⊥
    invalid e = cc

    no_entry : ◌≡◌ {A = Verdict A} (Refused NoEntry) (Refused Memory) → ⊥
    no_entry e = cc

    too_big : ◌≡◌ {A = Verdict A} (Refused TooBig) (Refused Memory) → ⊥
    too_big e = cc

    exists : ◌≡◌ {A = Verdict A} (Refused Exists) (Refused Memory) → ⊥
    exists e = cc
