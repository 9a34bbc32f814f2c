-- Registers are joined one by one.
use Rattle.std.proofs.Common.{◌≡◌, ℕ, ◌+◌, ◌<◌, ◌≤◌, length, length-set, ap, subst, ◌∙◌, refl, sym, arith}
use Rattle.reg_kinds.specs.declared.kind.Kind.TheVariants.{Unreadable}
use Rattle.reg_kinds.specs.declared.facts.Facts.{Facts}
use Rattle.reg_kinds.specs.Kinds.{kind_at, with_kind, with_registers}
use Rattle.reg_kinds.specs.Join.{kind_join}
use Rattle.reg_kinds.proofs.Tables.{filled, fill_more, rest_more, same_facts}

-- the registers of g below n are those of f and e, joined; the others and the stack are those of f
pub record AreJoinedBelow (f e : Facts) (n : ℕ) (g : Facts) : Type 0 where
  -- the facts have eleven registers
  pub long : length g.registers ≡ 11
  -- their stack is that of f
  pub kept : g.slots ≡ f.slots
  -- the registers below n are joined
  pub done : (k : ℕ) → k < n → kind_at g k ≡ kind_join (kind_at f k) (kind_at e k)
  -- the registers from n on are those of f
  pub rest : (k : ℕ) → n ≤ k → kind_at g k ≡ kind_at f k

-- at first no register is joined
pub none_joined : (f e : Facts) → length f.registers ≡ 11 → AreJoinedBelow f e 0 f
none_joined f e long =
    record {
      long = long;
      kept = refl;
      done = λ k lt. absurd (omega (arith, lt));
      rest = λ k le. refl;
    }

-- if register n gets the join of its kinds, the registers below n + 1 are joined
pub one_joined : {f e g : Facts} (n : ℕ) (h : Facts)
    → n < 11 → AreJoinedBelow f e n g
    → h ≡ with_kind g n (kind_join (kind_at g n) (kind_at e n))
    → AreJoinedBelow f e (n + 1) h
one_joined {f = f} {e = e} {g = g} n h low below is =
    let within = below.long in
    let after : Facts = with_kind g n (kind_join (kind_at g n) (kind_at e n)) in
    let more : AreJoinedBelow f e (n + 1) after =
    record {
      long = length-set g.registers n (kind_join (kind_at g n) (kind_at e n)) ∙ below.long;
      kept = below.kept;
      done =
          fill_more (λ k. kind_join (kind_at f k) (kind_at e k)) g.registers n
          (kind_join (kind_at g n) (kind_at e n)) Unreadable (omega (arith, within, low))
          (ap (λ k. kind_join k (kind_at e n)) (below.rest n (omega arith))) below.done;
      rest = rest_more g.registers f.registers n (kind_join (kind_at g n) (kind_at e n)) Unreadable below.rest;
    } in
    subst (λ (x : Facts). AreJoinedBelow f e (n + 1) x) (sym is) more

-- if all eleven registers are joined, the facts are f with the joins of both facts in its registers
pub all_joined : (f e g : Facts)
    → AreJoinedBelow f e 11 g → g ≡ with_registers f (λ r. kind_join (kind_at f r) (kind_at e r))
all_joined f e g h =
    same_facts g (with_registers f (λ r. kind_join (kind_at f r) (kind_at e r)))
    (filled (λ r. kind_join (kind_at f r) (kind_at e r)) g.registers 11 Unreadable h.long (λ k lt. h.done k lt))
    h.kept
