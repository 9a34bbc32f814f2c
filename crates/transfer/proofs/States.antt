-- The facts still hold of the state after a register gets a value, after the next slot is entered, and if more is known
-- of a register.
use Rattle.std.proofs.Common.{◌≡◌, ℕ, ◌+◌, ◌<◌, ◌≤◌, ◌^◌, ◌==◌, ℤ, pos, negsuc, Bool, true, false, Option, Some, Ok, refl, sym, ap, subst, ◌∙◌, ⊎_elim, arith}
use Rattle.std.proofs.lemmas.Bool.{cases_Bool, cond-true, cond-false, eqb-true}
use Rattle.interval.specs.declared.range.Range.{Range}
use Rattle.interval.specs.Ranges.{constant, IsMember}
use Rattle.words.specs.Words.{unsigned}
use Rattle.words.specs.declared.operator.AluOp.{AluOp}
use Rattle.words.specs.declared.operator.AluOp.TheVariants as alu
use Rattle.insn_set.specs.declared.insn.Operand.{Operand}
use Rattle.insn_set.specs.declared.insn.Operand.TheVariants.{Imm, Reg}
use Rattle.reg_kinds.specs.declared.kind.Kind.{Kind}
use Rattle.reg_kinds.specs.declared.kind.Kind.TheVariants as kind
use Rattle.reg_kinds.specs.declared.facts.Facts.{Facts}
use Rattle.reg_kinds.specs.Kinds.{kind_at, with_kind}
use Rattle.reg_kinds.specs.TableLaws.{in_written}
use Rattle.tagged_model.specs.declared.value.Tagged.{Tagged}
use Rattle.tagged_model.specs.declared.value.Tagged.TheVariants.{Scalar}
use Rattle.words.specs.Widths.{width}
use Rattle.tagged_model.specs.Values.{first_operand}
use Rattle.tagged_model.specs.State.{RunState, set_at, at_slot, with_register}
use Rattle.tagged_model.specs.Step.{operand_value, assigned}
use Rattle.abstraction.specs.Admits.{IsOfKind, HasKind}
use Rattle.transfer.specs.Arithmetic.{check_readable}
use Rattle.transfer.specs.Branches.{falls}
use Rattle.transfer.specs.Effects.{source_kind, first_operand_kind}
use Rattle.transfer.specs.Sound.{IsKindAt, EdgeAdmits}
use Rattle.transfer.proofs.Parts.{Here, Agree, IsKindOf, IsReadable, IsFound, IsKnown, still_of, OnFalling, IsCoveredIf}
use Rattle.transfer.proofs.Words.{kind_words}

-- ---- numbers

module _ (here : Here) where
  -- a member of a range of words is a value of the kind of this range
  pub scalar_of : (r : Range) (n : ℕ) → IsMember n r → r.hi < 2 ^ 64 → IsKindOf here (kind.Scalar r) (Scalar n)
  scalar_of r n m h = record { is = (n, refl, m, below n r.hi m.to h); words = h }
    where
      below : (x y : ℕ) → x ≤ y → y < 2 ^ 64 → x < 2 ^ 64
      below x y l h = omega arith

  -- a word is a value of the kind of the range that has only this word
  pub constant_of : (n : ℕ) → n < 2 ^ 64 → IsKindOf here (kind.Scalar (constant n)) (Scalar n)
  constant_of n h = scalar_of (constant n) n (record { from = omega arith; to = omega arith }) h

-- ---- operands

-- the immediate of an instruction, at its width, is a word
pub word_of : (wide : Bool) (z : ℤ) → unsigned (width wide) z < 2 ^ 64
word_of true (pos n) = omega arith
word_of true (negsuc n) = omega arith
word_of false (pos n) = omega arith
word_of false (negsuc n) = omega arith

module _ (here : Here) where
  some_kind : (k : Kind) (v : Tagged) → IsOfKind here.witness k v → HasKind here.witness k (Some v)
  some_kind kind.Unreadable v h = tt
  some_kind k v h = (v, refl, h)

  -- a register of a readable kind has a value
  there : (o : Option Tagged) (k : Kind) (v : Tagged)
      → o ≡ Some v → IsReadable k
      → IsOfKind here.witness k v → IsKindAt here.slot k
      → Agree (IsFound here o) (Ok k) o
  there o k v e r h w =
      subst (Agree (IsFound here o) (Ok k)) (sym e)
      (record { kind = record { is = h; words = w }; from = e; readable = r })

  -- if a kind may be read, and the machine's value is of this kind, the machine has such a value
  pub found : (o : Option Tagged) (k : Kind)
      → HasKind here.witness k o → IsKindAt here.slot k
      → Agree (IsFound here o) (check_readable k) o
  found o kind.Unreadable h w = tt
  found o k h w = there o k h.0 h.1 tt h.2 w

  module _ {f : Facts} {s : RunState} (known : IsKnown here f s) where
    -- if the kind of a register may be read, the machine has a value of this kind there
    pub register_found : (r : ℕ) → Agree (IsFound here (s.registers r)) (check_readable (kind_at f r)) (s.registers r)
    register_found r = found (s.registers r) (kind_at f r) (known.admits.registers r) (known.words.registers r)

    -- if the kind of a source operand may be read, the machine has a value of this kind for it
    pub source_found : (wide : Bool) (src : Operand)
        → Agree (IsFound here (operand_value s wide src)) (check_readable (source_kind f wide src))
        (operand_value s wide src)
    source_found wide (Imm z) =
        let k = constant_of here (unsigned (width wide) z) (word_of wide z) in
        record { kind = k; from = refl; readable = tt }
    source_found wide (Reg r) = register_found r

    -- a move does not read its destination
    pub first_found : (op : AluOp) (r : ℕ)
        → Agree (IsFound here (first_operand op (s.registers r))) (first_operand_kind op (kind_at f r))
        (first_operand op (s.registers r))
    first_found alu.Mov r = let k = constant_of here 0 (omega arith) in record { kind = k; from = refl; readable = tt }
    first_found op r = register_found r

    -- ---- a register gets a value

    -- after a register gets a value of a kind, the facts with this kind for it hold of the state
    pub given_value : (r : ℕ) (k : Kind) (v : Tagged)
        → IsKindOf here k v → IsKnown here (with_kind f r k) (with_register s r v)
    given_value r k v h =
        record {
          admits = record {
            registers =
                in_written (HasKind here.witness) f.registers s.registers r k kind.Unreadable
                (Some v) (some_kind k v h.is) tt known.admits.registers;
            slots = known.admits.slots;
            objects = known.admits.objects;
          };
          words = kind_words here.slot f r k known.words h.words;
          proper = record {
            bytes = known.proper.bytes;
            words = known.proper.words;
            count = known.proper.count;
            values = known.proper.values;
            packet = known.proper.packet;
          };
          maps = known.maps;
        }

    -- more is known of a register
    pub known_more : (r : ℕ) (k : Kind) (v : Tagged)
        → s.registers r ≡ Some v → IsKindOf here k v → IsKnown here (with_kind f r k) s
    known_more r k v e h =
        let after = given_value r k v h in
        record {
          admits = record {
            registers = λ q.
                subst (HasKind here.witness (kind_at (with_kind f r k) q)) (same q) (after.admits.registers q);
            slots = known.admits.slots;
            objects = known.admits.objects;
          };
          words = after.words;
          proper = known.proper;
          maps = known.maps;
        }
      where
        same : (q : ℕ) → set_at s.registers r (Some v) q ≡ s.registers q
        same q =
            ⊎_elim
            (λ t. cond-true (q == r) (Some v) (s.registers q) t ∙ (sym e ∙ ap s.registers (sym (eqb-true q r t))))
            (λ t. cond-false (q == r) (Some v) (s.registers q) t)
            (cases_Bool (q == r))

    -- ---- the next slot

    -- facts that hold of a state still hold of it at another slot
    pub moved_to : (n : ℕ) → IsKnown here f (at_slot n s)
    moved_to n =
        record {
          admits = record {
            registers = known.admits.registers;
            slots = known.admits.slots;
            objects = known.admits.objects;
          };
          words = known.words;
          proper = record {
            bytes = known.proper.bytes;
            words = known.proper.words;
            count = known.proper.count;
            values = known.proper.values;
            packet = known.proper.packet;
          };
          maps = known.maps;
        }

  -- an edge to a slot, with facts that hold of a state, admits this state at that slot
  pub goes_to : {f : Facts} {s : RunState} (n : ℕ)
      → IsKnown here f s → EdgeAdmits here.shapes (Some f) (Some n) (at_slot n s)
  goes_to n known = (refl, here.witness, still_of (moved_to known n))

  -- a step that gives a register a value of a kind is covered by the edge with this kind for it
  pub assigned_covered : {f : Facts} {s : RunState} {k : Kind} {v : Tagged} (n r : ℕ)
      → IsKnown here f s → IsKindOf here k v
      → IsCoveredIf (OnFalling here (s.at + n)) (falls (with_kind f r k)) (assigned n s r v)
  assigned_covered {s = s} n r known h = goes_to (s.at + n) (given_value known r _ _ h)
