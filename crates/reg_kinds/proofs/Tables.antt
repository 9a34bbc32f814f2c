-- Lists made of a function, and a list after one more write.
use Rattle.std.proofs.Common.{◌≡◌, ℕ, ◌+◌, ◌<◌, ◌≤◌, List, length, get_or, set, ap, ◌∙◌, arith, below_more, get_or-set_same, get_or-set_other}
use Rattle.std.proofs.lemmas.List.FromFn.{fill_by_all}
use Rattle.reg_kinds.specs.declared.kind.Kind.{Kind}
use Rattle.reg_kinds.specs.declared.kind.Slot.{Slot}
use Rattle.reg_kinds.specs.declared.facts.Facts.{Facts}
use Rattle.reg_kinds.specs.Kinds.{tabulate}
use Rattle.reg_kinds.specs.TableLaws.{tabulate-at, length-tabulate}

-- a list of n elements that each equal a function of their index is the table of the function
pub filled : {X : Type 0} (f : ℕ → X) (xs : List X) (n : ℕ) (d : X)
    → length xs ≡ n → ((k : ℕ) → k < n → get_or xs k d ≡ f k) → xs ≡ tabulate n f
unfolding tabulate
filled f xs n d l h = fill_by_all f xs n d l h

-- tables of equal functions are equal
pub same_table : {X : Type 0} (f g : ℕ → X) (n : ℕ) (d : X)
    → ((k : ℕ) → k < n → f k ≡ g k) → tabulate n f ≡ tabulate n g
same_table f g n d h = filled g (tabulate n f) n d (length-tabulate f n) (λ k l. tabulate-at f n k d l ∙ h k l)

-- one more element is written
pub fill_more : {X : Type 0} (f : ℕ → X) (xs : List X) (i : ℕ) (v d : X)
    → i < length xs → v ≡ f i
    → ((k : ℕ) → k < i → get_or xs k d ≡ f k) → (k : ℕ) → k < i + 1
    → get_or (set xs i v) k d ≡ f k
fill_more f xs i v d l e h =
    below_more _ _
    (λ k lt. get_or-set_other xs i k v d (omega arith) ∙ h k lt)
    (get_or-set_same xs i v d l ∙ e)

-- elements above it are not changed
pub rest_more : {X : Type 0} (xs ys : List X) (i : ℕ) (v d : X)
    → ((k : ℕ) → i ≤ k → get_or xs k d ≡ get_or ys k d)
    → (k : ℕ) → i + 1 ≤ k
    → get_or (set xs i v) k d ≡ get_or ys k d
rest_more xs ys i v d h k l = get_or-set_other xs i k v d (omega arith) ∙ h k (omega arith)

-- facts are determined by their registers and their slots
pub same_facts : (f g : Facts) → f.registers ≡ g.registers → f.slots ≡ g.slots → f ≡ g
same_facts f g p q =
    ap (λ (r : List Kind). let h : Facts = record { registers = r; slots = f.slots } in h) p
    ∙ ap (λ (s : List Slot). let h : Facts = record { registers = g.registers; slots = s } in h) q
