-- `targets` of `Tenant`: the list is that of the machine. One more descriptor adds the target of its object at the end, or nothing if it is
-- free, by the contracts of `target` and `push`; after the last turn the whole table was passed.
use Rattle.std.proofs.Common.{◌≡◌, ℕ, ◌+◌, ◌-◌, List, ◌++◌, length, take, Vec, Global, Option, Some, refl, sym, ap, subst, ◌∙◌, arith}
use Rattle.std.proofs.Math.Seq.{take-length}
use Rattle.std.proofs.lemmas.List.{append-nil}
use Rattle.fd_table.specs.Table.{first_descriptor, named}
use Rattle.tagged_model.specs.Cells.{and_then}
use Rattle.tagged_model.specs.declared.shape.Named.{Named}
use Rattle.tagged_model.specs.declared.shape.Target.{Target}
use Rattle.tenant.specs.declared.object.OpenObject.{OpenObject}
use Rattle.tenant.specs.Kept.{KeptTenant, IsWellFormedTenant, state_in}
use Rattle.tenant.specs.Machine.{object_target, entry_of, targets_from}
use Rattle.tenant.proofs.Targets.{targets-none, targets-more}
use Rattle.tenant.proofs.tenant.Tenant.targets.Goals as goal
use Rattle.tenant.proofs.tenant.Tenant.targets.Goals.{in-Some+in_ok-push, in_default}

pub loop-fd-init : goal.loop-fd-init
loop-fd-init c = λ part.
    c.in_ok-found.ensures.items ∙ sym (targets-none (state_in part c.args.self.now) first_descriptor)

pub loop-fd-preserved : goal.loop-fd-preserved
loop-fd-preserved c = λ part.
    let s = state_in part c.args.self.now in
    let xs = c.args.self.now.objects in
    let fd = c.loop-fd.fd in
    let all : length xs ≡ 64 = (subst (λ (k : KeptTenant). IsWellFormedTenant k) c.self.view_is c.self.invariant).all in
    let before = c.loop-fd.invariant part in
    let more : targets_from s first_descriptor (take (fd + 1 - first_descriptor) xs)
    ≡ targets_from s first_descriptor (take (fd - first_descriptor) xs)
    ++ entry_of fd (and_then (named xs fd) (object_target s)) =
    targets-more s xs fd (named xs fd) (omega arith) (omega arith) refl in
    let seen : entry_of fd c.target.result ≡ entry_of fd (and_then (named xs fd) (object_target s)) =
    ap (entry_of fd) (c.target.ensures part) in
    let before_all = targets_from s first_descriptor (take (fd - first_descriptor) xs) in
    elim c.match-target.branch [
      | in-Some+in_ok-push w ↦
          ap (λ (v : Vec Named Global). v.items) w.found-is ∙ w.in_ok-push.ensures.items
          ∙ ap (λ (ns : List Named). ns ++ entry_of fd (Some w.in-Some.target)) before
          ∙ ap (λ (o : Option Target). before_all ++ entry_of fd o) (sym w.in-Some.is)
          ∙ ap (λ (ns : List Named). before_all ++ ns) seen
          ∙ sym more
      | in_default w ↦
          ap (λ (v : Vec Named Global). v.items) w.found-is
          ∙ before
          ∙ sym (append-nil before_all)
          ∙ ap (λ (o : Option Target). before_all ++ entry_of fd o) (sym w.in_default.is)
          ∙ ap (λ (ns : List Named). before_all ++ ns) seen
          ∙ sym more
    ]

pub returns : goal.returns
returns c = λ part.
    let xs = c.args.self.now.objects in
    let all : length xs ≡ 64 = (subst (λ (k : KeptTenant). IsWellFormedTenant k) c.self.view_is c.self.invariant).all in
    let n : c.loop-fd.fd - first_descriptor ≡ length xs = omega arith in
    c.loop-fd.invariant part
    ∙ ap (λ (ys : List (Option OpenObject)). targets_from (state_in part c.args.self.now) first_descriptor ys)
    (ap (λ (m : ℕ). take m xs) n ∙ take-length xs)
