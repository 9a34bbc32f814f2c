-- The invariant of an accepted program.
use Rattle.std.proofs.Common.{◌≡◌, ℕ, List, subst, sym, ap, ◌∙◌}
use Rattle.insn_set.specs.declared.insn.Insn.{Insn}
use Rattle.tagged_model.specs.declared.shape.Named.{Named}
use Rattle.verifier.specs.declared.cost.Cost.{Cost}
use Rattle.verifier.specs.Cost.{IsCostOf}
use Rattle.verifier.specs.Maps.{maps_of, objects_at}
use Rattle.verifier.specs.Verdict.{IsAccepted}
use Rattle.verifier.specs.Verified.{IsVerified}

-- a copy of the program, its maps and its cost
pub copy_is_whole : (code copy : List Insn) (named objects : List Named) (maps : List ℕ) (cost : Cost)
    → copy ≡ code → IsAccepted code named
    → objects ≡ objects_at (maps_of code) named → maps ≡ maps_of code
    → IsCostOf cost code
    → IsVerified (record { code = copy; objects = objects }) × (maps ≡ maps_of copy) × IsCostOf cost copy
copy_is_whole code copy named objects maps cost was accepted shaped listed costs = (
  record {
    named = named;
    accepted = subst (λ (is : List Insn). IsAccepted is named) (sym was) accepted;
    shaped = shaped ∙ ap (λ (is : List Insn). objects_at (maps_of is) named) (sym was);
  },
  listed ∙ ap maps_of (sym was),
  subst (IsCostOf cost) (sym was) costs,
)
