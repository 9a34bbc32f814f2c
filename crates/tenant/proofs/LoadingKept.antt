-- The state after a load that opens a program.
use Rattle.std.proofs.Common.{◌≡◌, ◌≢◌, ℕ, ◌+◌, ◌-◌, ◌≤◌, ◌<◌, Bool, true, false, List, get_or}
use Rattle.std.proofs.Common.{Option, Some, None, sym, ap, ap₂, subst, ◌∙◌, inl, inr, arith, length-set}
use Rattle.std.specs.Prelude.{◌==◌, ◌||◌, ◌⊎◌, if◌then◌else◌}
use Rattle.bpf_maps.specs.Live.{LiveMaps, references_at}
use Rattle.fd_table.specs.Table.{first_descriptor, lowest, with_open}
use Rattle.tenant.specs.declared.object.OpenObject.{OpenObject}
use Rattle.tenant.specs.declared.object.OpenObject.TheVariants as object
use Rattle.tenant.specs.Kept.{KeptTenant, IsWellFormedTenant, IsBound, times_listed, times_named, by_descriptor, map_at, state_in}
use Rattle.tenant.specs.Loaded.{LoadedProgram, map_handles}
use Rattle.tenant.specs.inside.Loading.{IsHeldMore, with_program}
use Rattle.tenant.specs.State.{Map}
use Rattle.tenant.proofs.AtHandles.{same_at}
use Rattle.tenant.proofs.StillKept.{with_both, bound_along}
use Rattle.tenant.proofs.Opened.{set_cases, descriptor_free, opened_sum}
use Rattle.tenant.proofs.Sums.{total-most}

abbrev pub kept_opened : KeptTenant → LiveMaps → ℕ → LoadedProgram → KeptTenant
kept_opened k t fd l = with_both k (with_open k.objects fd (object.Program l)) t

-- ---- a map has at most as many holds as there are descriptors

one_at_most : (b : Bool) → (if b then 1 else 0) ≤ 1
one_at_most true = omega arith
one_at_most false = omega arith

weight-most : (k : KeptTenant)
    → IsWellFormedTenant k
    → (q i : ℕ) (o : OpenObject) → get_or k.objects i None ≡ Some o
    → times_named q o ≤ 1
weight-most k is q i (object.Map p) there = one_at_most (p == q)
weight-most k is q i (object.Program l) there = (is.bound i l there).once q

-- the number of a map's holds and of those of a new program together fits in 32 bits
pub few_hold : {k : KeptTenant} {l : LoadedProgram}
    → IsWellFormedTenant k → IsBound k.live l
    → (q : ℕ) → references_at k.live q + times_listed q (map_handles l) < 4294967296
few_hold {k} {l} is bound q =
    let held = is.held q in
    let most = total-most (times_named q) k.objects (λ i o there. weight-most k is q i o there) in
    let all = is.all in
    let once = bound.once q in
    omega arith

-- ---- the invariant

still_bound : {old t : LiveMaps} {m : LoadedProgram} → IsHeldMore old t → IsBound old m → IsBound t m
still_bound more was = bound_along was more.live (λ handle live. more.shape handle)

same_program : (l m : LoadedProgram) → object.Program m ≡ object.Program l → l ≡ m
same_program l m e = cc

-- after a program that holds its maps is opened at the lowest free descriptor the tenant is well formed
pub opened_kept : {k : KeptTenant} {t : LiveMaps} {fd : ℕ} {l : LoadedProgram}
    → IsWellFormedTenant k → lowest k.objects ≡ Some fd
    → IsBound k.live l → IsHeldMore k.live t
    → ((q : ℕ) → references_at t q ≡ references_at k.live q + times_listed q (map_handles l))
    → IsWellFormedTenant (kept_opened k t fd l)
opened_kept {k} {t} {fd} {l} is low bound more holds = record {
  all = length-set {A = Option OpenObject} k.objects (fd - first_descriptor) (Some (object.Program l)) ∙ is.all;
  maps = more.held;
  held = λ q.
      holds q
      ∙ ap (λ (n : ℕ). n + times_listed q (map_handles l)) (is.held q)
      ∙ sym (opened_sum (times_named q) k.objects fd (object.Program l) low);
  single = λ q.
      let was = is.single q in
      let sum = opened_sum (by_descriptor q) k.objects fd (object.Program l) low in
      omega arith;
  bound = λ n m there.
      bound_of m n
      (set_cases k.objects (fd - first_descriptor) n (object.Program l) (object.Program m)
      (descriptor_free k.objects fd low).0 there);
}
  where
    bound_of : (m : LoadedProgram) (n : ℕ)
        → ((n ≡ fd - first_descriptor) × (object.Program m ≡ object.Program l))
        ⊎ ((n ≢ fd - first_descriptor) × (get_or k.objects n None ≡ Some (object.Program m)))
        → IsBound t m
    bound_of m n (inl (here, same)) = subst (IsBound t) (same_program l m same) (still_bound more bound)
    bound_of m n (inr (other, there)) = still_bound more (is.bound n m there)

-- the state after a program is opened is the machine's
pub state_opened : (part : List ℕ) (k : KeptTenant) {t : LiveMaps} (fd : ℕ) (l : LoadedProgram)
    → IsHeldMore k.live t
    → state_in part (kept_opened k t fd l) ≡ with_program (state_in part k) fd l
state_opened part k {t} fd l more =
    ap₂ (λ (ms : List (Option Map)) (b : Bool).
    record { objects = with_open k.objects fd (object.Program l); maps = ms; refused = k.refused || b })
    (same_at (map_at part t) (map_at part k.live) (more.same part)) more.refused

-- a well-formed tenant is still well formed after a refusal of memory
pub flagged_kept : {k : KeptTenant}
    → IsWellFormedTenant k
    → IsWellFormedTenant (record { objects = k.objects; live = k.live; refused = true })
flagged_kept is = record { all = is.all; maps = is.maps; held = is.held; single = is.single; bound = is.bound }
