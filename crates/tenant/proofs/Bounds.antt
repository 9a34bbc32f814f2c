-- What a program costs, and batches with a bound: a run executes at least one instruction, and what the bound allows of an object.
use Rattle.std.proofs.Common.{◌≡◌, ◌≢◌, ℕ, ◌+◌, ◌*◌, ◌≤◌, List, [], ◌∷◌, length, Option, Some, None, refl, sym, subst, arith}
use Rattle.insn_set.specs.declared.insn.Insn.{Insn}
use Rattle.verifier.specs.declared.cost.Cost.{Cost}
use Rattle.verifier.specs.Cost.{IsCostOf, IsPath}
use Rattle.tenant.specs.declared.errno.Errno.{Errno}
use Rattle.tenant.specs.declared.object.OpenObject.{OpenObject}
use Rattle.tenant.specs.declared.object.OpenObject.TheVariants as object
use Rattle.tenant.specs.Batch.{object_refusal, allowed, run_weight, IsAllowedBy, IsAllowed}
use Rattle.tenant.specs.declared.batch.TheConstants.{CALL_WEIGHT}
use Rattle.tenant.specs.Costs.{HasCost}
use Rattle.tenant.specs.Loaded.{LoadedProgram}

-- a path has at least the instruction that it begins with
paths_have_one : (code path : List Insn) (n : ℕ) → IsPath code 0 path → length path ≡ n → 1 ≤ n
paths_have_one code [] n is_path same = absurd is_path
paths_have_one code (i ∷ is) n is_path same = omega arith

positive : (n m : ℕ) → 1 ≤ n → 1 ≤ n + m
positive n m h = omega (arith, h)

pub weights_are_positive : (code : List Insn) (cost : Cost) → IsCostOf cost code → 1 ≤ run_weight cost
weights_are_positive code cost most =
    positive cost.instructions (CALL_WEIGHT * cost.calls)
    (paths_have_one code most.0.1.0 cost.instructions most.0.1.1 most.0.1.2)

-- bound 0 allows all packets
pub all_allowed : (o : Option OpenObject) (bound packets : ℕ) → bound ≡ 0 → IsAllowed o bound packets packets
all_allowed o bound packets zero = (λ _. refl, λ other. absurd (other zero))

-- for a program, the number of packets that a bound allows is the one that follows from the program's cost
pub allowed_of_program : (o : Option OpenObject) (l : LoadedProgram) (cost : Cost) (bound packets n : ℕ)
    → bound ≢ 0 → o ≡ Some (object.Program l)
    → IsCostOf cost l.insns
    → n ≡ allowed bound (run_weight cost) packets
    → IsAllowed o bound packets n
allowed_of_program o l cost bound packets n other is most count = (
  λ zero. absurd (other zero),
  λ _. subst (λ (x : Option OpenObject). IsAllowedBy x bound packets n) (sym is) (cost, most, count),
)

-- a batch of no program is not made shorter
pub allowed_otherwise : (o : Option OpenObject) (errno : Errno) (bound packets : ℕ) → object_refusal o ≡ Some errno
    → IsAllowed o bound packets packets
allowed_otherwise None errno bound packets refused = (λ _. refl, λ _. refl)
allowed_otherwise (Some (object.Map handle)) errno bound packets refused = (λ _. refl, λ _. refl)
allowed_otherwise (Some (object.Program l)) errno bound packets refused = grind arith

-- the cost of a program is the cost of the object that a descriptor names
pub cost_of_program : (o : Option OpenObject) (l : LoadedProgram) (cost : Cost)
    → o ≡ Some (object.Program l) → IsCostOf cost l.insns → HasCost o (Some cost)
cost_of_program o l cost is has =
    subst (λ (x : Option OpenObject). HasCost x (Some cost)) (sym is) has

-- what is rejected as a program has no cost
pub cost_otherwise : (o : Option OpenObject) (errno : Errno) → object_refusal o ≡ Some errno → HasCost o None
cost_otherwise None errno refused = refl
cost_otherwise (Some (object.Map handle)) errno refused = refl
cost_otherwise (Some (object.Program l)) errno refused = grind arith
