-- `replace_objects`: by the contract of `fits` the maps have their shapes in `named` too, so the program is accepted with it, and is what
-- its bytes are judged to be. The kept objects are those of its maps, by the contract of `objects_at`; its maps and its cost are unchanged.
use Rattle.std.proofs.Common.{List, ℕ, Ok, sym, ap, subst, ◌∙◌}
use Rattle.insn_set.specs.Program.{program_bytes}
use Rattle.verifier.specs.Fits.{Fits}
use Rattle.verifier.specs.Judgement.{Judges}
use Rattle.verifier.specs.Maps.{objects_at}
use Rattle.verifier.specs.Verified.{Accepted}
use Rattle.verifier.specs.inside.Kept.{as_accepted}
use Rattle.verifier.proofs.OtherObjects.{fits_accepted, fits_judged}
use Rattle.verifier.proofs.verified.Verified.replace_objects.Goals as goal

pub invariant_of-self : goal.invariant_of-self
invariant_of-self c =
    let named = c.args.named.now in
    let a = as_accepted c.self.inside in (
      record {
        named = named;
        accepted =
            fits_accepted a named c.self.invariant.0
            (subst (λ (x : Accepted). Fits x named) (sym c.self.view_is) (c.fits.ensures.0 c.if-not-fits.false));
        shaped =
            c.in_ok-self-inside.ensures
            ∙ ap (λ (fds : List ℕ). objects_at fds named) (c.deref.ensures.value ∙ c.self.invariant.1);
      },
      c.self.invariant.1,
      c.self.invariant.2,
    )

pub returns-clause-judged : goal.returns-clause-judged
returns-clause-judged c =
    let named = c.args.named.now in
    subst (λ (a : Accepted). Fits a named → Judges named (program_bytes a.code) (Ok a.code)) c.self.view_is
    (fits_judged (as_accepted c.self.inside) named c.code.ensures.program c.self.invariant.0)
    (c.fits.ensures.0 c.if-not-fits.false)
