-- Consequences of the verdicts on an update and on a deletion.
use Rattle.std.proofs.Common.{◌≡◌, ℕ, ◌==◌, nat_le, if◌then◌else◌, List, Option, Some, None, Ok, refl, ap, subst}
use Rattle.std.proofs.lemmas.Bool.{cond_both}
use Rattle.tagged_model.specs.declared.fault.MapFault.TheVariants.{NoEntry, TooBig, Exists, Invalid}
use Rattle.tagged_model.specs.declared.shape.MapKind.{MapKind}
use Rattle.tagged_model.specs.declared.shape.MapKind.TheVariants.{Hash, Array}
use Rattle.tagged_model.specs.Table.{Table, removal_of, Verdict, Refused, Present, New, no_exist, exist, is_full, of_absent, of_found, look_up, verdict}

-- the verdict Present has the object of the key
abbrev Tells : Option ℕ → Verdict ℕ → Type 0
Tells found (Refused fault) = Unit {0}
Tells found (Present number) = found ≡ Some number
Tells found New = Unit {0}

verdict_tells : (t : Table ℕ) (key : List ℕ) (flags : ℕ) → Tells (look_up t key) (verdict t key flags)
verdict_tells t key flags =
    cond_both (nat_le flags exist) (of_found t flags (look_up t key)) (Refused Invalid)
    (Tells (look_up t key)) (λ _. of_object (look_up t key))
    (λ _. tt)
  where
    of_kind : (k : MapKind) → Tells None (of_absent {A = ℕ} k (is_full t) flags)
    of_kind Array = tt
    of_kind Hash =
        cond_both (flags == exist) (Refused NoEntry) (if is_full t then Refused TooBig else New) (Tells None) (λ _. tt)
        (λ _. cond_both (is_full t) (Refused TooBig) New (Tells None) (λ _. tt) (λ _. tt))

    of_object : (o : Option ℕ) → Tells o (of_found t flags o)
    of_object None = of_kind t.shape.kind
    of_object (Some a) =
        cond_both (flags == no_exist) (Refused Exists) (Present a) (Tells (Some a)) (λ _. tt) (λ _. refl)

-- if the verdict on an update has the object of a present key, the look-up of the key finds it
pub present_found : (t : Table ℕ) (key : List ℕ) (flags number : ℕ)
    → verdict t key flags ≡ Present number → look_up t key ≡ Some number
present_found t key flags number e = subst (Tells (look_up t key)) e (verdict_tells t key flags)

-- if a deletion has an object to delete, the look-up of the key has found it
pub removal_found : (kind : MapKind) (o : Option ℕ) (p : ℕ) → removal_of kind o ≡ Ok p → o ≡ Some p
removal_found Array o p e = absurd (let z : ⊥ = cc in z)
removal_found Hash None p e = absurd (let z : ⊥ = cc in z)
removal_found Hash (Some a) p e = ap (λ (n : ℕ). Some n) (let z : a ≡ p = cc in z)
