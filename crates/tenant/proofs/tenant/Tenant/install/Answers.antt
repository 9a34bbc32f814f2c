-- `install` of `Tenant`: the program is given back exactly if it does not fit, by `fits`. Else `open_program` opens what `program_here`
-- makes of it: a result of the machine for the load of its slots.
use Rattle.std.proofs.Common.{Ok, refl, sym, ap, subst, ◌∙◌}
use Rattle.std.proofs.lemmas.Bool.{true≢false}
use Rattle.insn_set.specs.Program.{program_bytes}
use Rattle.verifier.specs.Fits.{Fits}
use Rattle.verifier.specs.Judgement.{Judges}
use Rattle.verifier.specs.Verified.{Accepted}
use Rattle.tenant.specs.Kept.{state_in}
use Rattle.tenant.specs.Machine.{opens, targets}
use Rattle.tenant.proofs.LoadingRefusals.{MayLoad, program_opened}
use Rattle.tenant.proofs.tenant.Tenant.install.Goals as goal

pub returns-then-not-fits-clause-stale : goal.returns-then-not-fits-clause-stale
returns-then-not-fits-clause-stale c = (
  refl,
  refl,
  λ part fits.
      true≢false (sym ((c.fits.ensures part).1 (subst (λ (a : Accepted). Fits a (targets (state_in part c.args.self.now)))
      (sym c.deref.ensures) fits))
      ∙ c.if-not-fits.true),
)

pub returns-then-is_full-clause-fits : goal.returns-then-is_full-clause-fits
returns-then-is_full-clause-fits c = λ part.
    subst (λ (a : Accepted). Fits a (targets (state_in part c.args.self.now))) c.deref.ensures
    ((c.fits.ensures part).0 c.if-not-fits.false)

pub program_here-requires : goal.program_here-requires
program_here-requires c = record {
  fits = λ part.
      subst (λ (a : Accepted). Fits a (targets (state_in part c.args.self.now)))
      (c.deref.ensures ∙ sym c.into_inner.ensures) ((c.fits.ensures part).0 c.if-not-fits.false);
}

pub returns-in-Ok-clause-loaded : goal.returns-in-Ok-clause-loaded
returns-in-Ok-clause-loaded c = λ part.
    let s = state_in part c.args.self.now in
    let fd = c.open_program.result in
    let l = c.in-Ok.program in
    subst (MayLoad s 1 (program_bytes c.args.program.value.code))
    (sym (ap (opens fd) (c.open_program.ensures.opened part)))
    (program_opened s 1 fd (program_bytes c.args.program.value.code) l refl c.open_program.ensures.lowest
    (subst (λ (a : Accepted). Judges (targets s) (program_bytes a.code) (Ok l.insns))
    c.into_inner.ensures (c.in-Ok.ensures.judges part)) (c.in-Ok.ensures.found part))

pub returns-in-Ok-clause-fits : goal.returns-in-Ok-clause-fits
returns-in-Ok-clause-fits c = λ part.
    subst (λ (a : Accepted). Fits a (targets (state_in part c.args.self.now))) c.deref.ensures
    ((c.fits.ensures part).0 c.if-not-fits.false)

pub returns-in-Err-clause-fits : goal.returns-in-Err-clause-fits
returns-in-Err-clause-fits c = λ part.
    subst (λ (a : Accepted). Fits a (targets (state_in part c.args.self.now))) c.deref.ensures
    ((c.fits.ensures part).0 c.if-not-fits.false)
