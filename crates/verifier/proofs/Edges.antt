-- An edge has facts only if the instruction has this edge.
use Rattle.std.proofs.Common.{◌≡◌, ℕ, ℤ, true, Option, Some, None, Result, Ok, Err, refl, subst}
use Rattle.insn_set.specs.declared.insn.Insn.{Insn}
use Rattle.insn_set.specs.View.{View, Access, binary, unary, jump, branch, access, wide_load, call, exit, loads, stores, changes, view}
use Rattle.insn_set.specs.Profile.{profile_of}
use Rattle.reg_kinds.specs.declared.kind.Kind.{Kind}
use Rattle.reg_kinds.specs.declared.kind.Kind.TheVariants as kind
use Rattle.reg_kinds.specs.declared.facts.Facts.{Facts}
use Rattle.reg_kinds.specs.declared.reason.Reason.{Reason}
use Rattle.reg_kinds.specs.Reason.{and_then_ok}
use Rattle.reg_kinds.specs.Kinds.{kind_at}
use Rattle.insn_set.specs.Atomic.{access_size}
use Rattle.transfer.specs.Branches.{Edges}
use Rattle.transfer.specs.Branches.{falls as falls_on}
use Rattle.transfer.specs.Arithmetic.{check_readable, arithmetic_kind, of_scalar}
use Rattle.transfer.specs.Effects.{source_kind, first_operand_kind, assigns, load_kind, store_facts}
use Rattle.transfer.specs.Effects.{atomic_facts, access_edges, wide_kind, known, exits_with, effect_of, effect}
use Rattle.transfer.specs.Calls.{call_facts}
use Rattle.tagged_model.specs.Named.{Shapes}
use Rattle.tagged_model.specs.Helpers.{helper_of}
use Rattle.insn_set.specs.Flow.{falls_by, jumps_by}

-- ---- facts exist

abbrev pub AreThere : Option Facts → Type 0
AreThere None = ⊥
AreThere (Some f) = Unit {0}

-- an edge has facts only if the instruction has this edge
pub record LeadOnly (v : View) (e : Edges) : Type 0 where
  -- facts are on the falling edge only if the instruction can pass control to the next one
  pub falling : AreThere e.falling → falls_by (profile_of v).successors ≡ true
  -- facts are on the jumping edge only if the instruction can jump
  pub jumping : AreThere e.jumping → jumps_by (profile_of v).successors ≡ true

abbrev IfOk : (Edges → Type 0) → Result Edges Reason → Type 0
IfOk P (Err r) = Unit {0}
IfOk P (Ok e) = P e

after_given : {A : Type 0} (P : Edges → Type 0) (r : Result A Reason) (go : A → Result Edges Reason)
    → ((x : A) → IfOk P (go x)) → IfOk P (and_then_ok r go)
after_given P (Err e) go h = tt
after_given P (Ok x) go h = h x

if_ok : (P : Edges → Type 0) (r : Result Edges Reason) (e : Edges) → IfOk P r → r ≡ Ok e → P e
if_ok P (Err reason) e h q = absurd (let z : ⊥ = cc in z)
if_ok P (Ok d) e h q = let same : d ≡ e = cc in subst P same h

-- an instruction that only falls through
falls_alone : (v : View) (f : Facts)
    → falls_by (profile_of v).successors ≡ true
    → LeadOnly v (record { falling = Some f; jumping = None })
falls_alone v f h = record { falling = λ _. h; jumping = λ z. absurd z }

assigned_alone : (v : View) (f : Facts) (dst : ℕ) (r : Result Kind Reason)
    → falls_by (profile_of v).successors ≡ true → IfOk (LeadOnly v) (assigns f dst r)
assigned_alone v f dst r h = after_given (LeadOnly v) r _ (λ k. falls_alone v _ h)

ends_nowhere : (k : Kind) → IfOk (LeadOnly exit) (exits_with k)
ends_nowhere (kind.Scalar r) = record { falling = λ z. absurd z; jumping = λ z. absurd z }
ends_nowhere k = tt

either_way : (v : View) (r : Result Edges Reason)
    → falls_by (profile_of v).successors ≡ true → jumps_by (profile_of v).successors ≡ true
    → IfOk (LeadOnly v) r
either_way v (Err e) h g = tt
either_way v (Ok e) h g = record { falling = λ _. h; jumping = λ _. g }

module _ (shapes : Shapes) (at : ℕ) (f : Facts) where
  access_leads : (v : View) (what : Access) (off : ℤ) (k : Kind)
      → falls_by (profile_of v).successors ≡ true
      → IfOk (LeadOnly v) (access_edges shapes f what off k)
  access_leads v (loads size signed dst) off k h = assigned_alone v f dst (load_kind shapes f size signed off k) h
  access_leads v (stores size src) off k h =
      after_given (LeadOnly v) (check_readable (source_kind f true src)) _
      (λ l. after_given (LeadOnly v) (store_facts shapes f size off k l) _ (λ g. falls_alone v g h))
  access_leads v (changes size op src) off k h =
      after_given (LeadOnly v) (check_readable (kind_at f src)) _
      (λ l. after_given (LeadOnly v) (atomic_facts shapes f (access_size size) off k l) _ (λ g. falls_alone v g h))

  view_leads : (v : View) → IfOk (LeadOnly v) (effect_of shapes at v f)
  view_leads (binary wide op dst src) =
      let v = binary wide op dst src in
      after_given (LeadOnly v) (first_operand_kind op (kind_at f dst)) _
      (λ a. after_given (LeadOnly v) (check_readable (source_kind f wide src)) _
      (λ b. assigned_alone v f dst (arithmetic_kind wide op a b) refl))
  view_leads (unary wide op dst src) =
      after_given (LeadOnly (unary wide op dst src)) (check_readable (kind_at f src)) _
      (λ k. assigned_alone (unary wide op dst src) f dst (of_scalar wide op k) refl)
  view_leads (jump off) = record { falling = λ z. absurd z; jumping = λ _. refl }
  view_leads (branch wide cond dst src off) =
      either_way (branch wide cond dst src off) (effect_of shapes at (branch wide cond dst src off) f) refl refl
  view_leads (access what base off) =
      after_given (LeadOnly (access what base off)) (check_readable (kind_at f base)) _
      (λ k. access_leads (access what base off) what off k refl)
  view_leads (wide_load dst value) = assigned_alone (wide_load dst value) f dst (wide_kind shapes value) refl
  view_leads (call id) =
      after_given (LeadOnly (call id)) (known (helper_of id)) _
      (λ h. after_given (LeadOnly (call id)) (call_facts shapes at h f) falls_on (λ g. falls_alone (call id) g refl))
  view_leads exit = after_given (LeadOnly exit) (check_readable (kind_at f 0)) exits_with ends_nowhere

-- an instruction that may be run has facts only on the edges that it has
pub leads_only : (shapes : Shapes) (at : ℕ) (i : Insn) (f : Facts) (e : Edges)
    → effect shapes at i f ≡ Ok e → LeadOnly (view i) e
leads_only shapes at i f e q = if_ok (LeadOnly (view i)) (effect shapes at i f) e (view_leads shapes at f (view i)) q
