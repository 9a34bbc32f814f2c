-- `close` of `Tenant`: reply and state are the machine's, and the tenant is still well formed. An absent descriptor changes nothing. Else,
-- by cases of its object, `release` takes one reference from a live map, or `release_all` takes a program's references, which the invariant
-- counts; `closed_is` and `closed_kept` conclude from the references and maps that are left.
use Rattle.std.proofs.Common.{◌≡◌, ℕ, ◌+◌, ◌≤◌, List, Option, Some, None, sym, ap, subst, ◌∙◌}
use Rattle.bpf_maps.specs.Live.{references_at}
use Rattle.fd_table.specs.Table.{named}
use Rattle.tenant.specs.declared.errno.Errno.TheVariants.{BadDescriptor}
use Rattle.tenant.specs.declared.object.OpenObject.{OpenObject}
use Rattle.tenant.specs.declared.object.OpenObject.TheVariants as object
use Rattle.tenant.specs.Kept.{KeptTenant, IsWellFormedTenant, times_listed, holders, state_in}
use Rattle.tenant.specs.Machine.{refuses, closed}
use Rattle.tenant.proofs.Named.{named_held, named_is_live}
use Rattle.tenant.proofs.Closes.{IsClosed, closed_kept, closed_is, nothing_closed}
use Rattle.tenant.proofs.Releases.{IsReleased, left_released, holds_released}
use Rattle.tenant.proofs.StillKept.{kept_in, with_both}
use Rattle.tenant.proofs.tenant.Tenant.close.Goals as goal
use Rattle.tenant.proofs.tenant.Tenant.close.Goals.{In_default}

-- ---- the descriptor is not open

module _ (c : In_default) where
  none : named c.self.inside.objects c.args.fd ≡ None
  none = sym c.close.ensures.named ∙ c.in_default.is

  unchanged : c.close.new.self ≡ c.self.inside.objects
  unchanged = c.close.ensures.closed ∙ nothing_closed c.self.inside.objects c.args.fd none

pub invariant_of-self : goal.invariant_of-self
invariant_of-self c =
    subst (λ (os : List (Option OpenObject)).
    IsWellFormedTenant (with_both (kept_in c.self.inside) os c.self.inside.maps))
    (sym (unchanged c)) c.self.invariant

pub returns-in_default-clause-answer : goal.returns-in_default-clause-answer
returns-in_default-clause-answer c =
    let k = kept_in c.self.inside in
    let s = state_in c.args.part.now k in
    ap (λ (os : List (Option OpenObject)). refuses BadDescriptor (state_in c.args.part.now (with_both k os k.live)))
    (unchanged c)
    ∙ ap (closed s c.args.fd) (sym (none c))
    ∙ ap (λ (x : KeptTenant). closed (state_in c.args.part.now x) c.args.fd (named x.objects c.args.fd)) c.self.view_is

-- ---- a map

pub release-requires-clause-live : goal.release-requires-clause-live
release-requires-clause-live c =
    let found =
    named_is_live c.self.invariant c.args.fd (sym c.close.ensures.named ∙ c.in-Some.is ∙ ap Some c.in-Map.is) in
    found.live

module _ (c : goal.After-slice_known-in-Map-1) where
  map_closed : IsClosed (kept_in c.self.inside) c.close.new.self c.release.new.self c.args.part.now
      c.release.new.part c.args.fd (object.Map c.in-Map.map)
  map_closed =
      let k = kept_in c.self.inside in
      let e = c.release.ensures in
      let opened : named k.objects c.args.fd ≡ Some (object.Map c.in-Map.map) =
      sym c.close.ensures.named ∙ c.in-Some.is ∙ ap Some c.in-Map.is in
      let live = (named_is_live c.self.invariant c.args.fd opened).live in
      let released : IsReleased k.live c.release.new.self c.args.part.now c.release.new.part c.in-Map.map = record {
        less = e.less;
        gone = e.gone;
        others = e.others;
        refused = e.refused;
        maps = e.maps;
        kept = e.kept;
        whole = e.length;
      } in
      record {
        opened = opened;
        closed = c.close.ensures.closed;
        left = left_released c.self.invariant.maps live released;
        fewer = holds_released c.self.invariant.maps live released;
      }

pub invariant_of-self-in-Map : goal.invariant_of-self-in-Map
invariant_of-self-in-Map c = closed_kept c.self.invariant (map_closed c)

pub returns-in-Map-clause-answer : goal.returns-in-Map-clause-answer
returns-in-Map-clause-answer c = closed_is c.self.view_is c.self.invariant (map_closed c)

-- ---- a program

pub release_all-requires-clause-held : goal.release_all-requires-clause-held
release_all-requires-clause-held c = λ q.
    let k = kept_in c.self.inside in
    let o = object.Program c.in-Program.program in
    let opened : named k.objects c.args.fd ≡ Some o =
    sym c.close.ensures.named ∙ c.in-Some.is ∙ ap Some c.in-Program.is in
    subst (λ (n : ℕ). times_listed q c.maps.result.now ≤ n) (sym (c.self.invariant.held q))
    (subst (λ (ps : List ℕ). times_listed q ps ≤ holders q k.objects) (sym c.maps.ensures)
    (named_held k.objects c.args.fd o opened q))

module _ (c : goal.After-drop-program-inside-in-Program-4) where
  program_closed : IsClosed (kept_in c.self.inside) c.close.new.self c.release_all.new.maps c.args.part.now
      c.release_all.new.part c.args.fd (object.Program c.in-Program.program)
  program_closed = record {
    opened = sym c.close.ensures.named ∙ c.in-Some.is ∙ ap Some c.in-Program.is;
    closed = c.close.ensures.closed;
    left = c.release_all.ensures.left;
    fewer = λ q.
        ap (λ (ps : List ℕ). references_at c.release_all.new.maps q + times_listed q ps) (sym c.maps.ensures)
        ∙ c.release_all.ensures.holds q;
  }

pub invariant_of-self-in-Program : goal.invariant_of-self-in-Program
invariant_of-self-in-Program c = closed_kept c.self.invariant (program_closed c)

pub returns-in-Program-clause-answer : goal.returns-in-Program-clause-answer
returns-in-Program-clause-answer c = closed_is c.self.view_is c.self.invariant (program_closed c)
