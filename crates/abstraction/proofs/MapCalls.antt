-- Invariants of a map that its calls preserve.
use Rattle.std.proofs.Common.{◌≡◌, ℕ, ◌+◌, ◌<◌, Bool, true, false, if◌then◌else◌, nat_le, List, length}
use Rattle.std.proofs.Common.{Option, Some, None, Result, Ok, Err, refl, sym, ap, ◌∙◌, arith, ◌==◌}
use Rattle.tagged_model.specs.declared.shape.MapKind.{MapKind}
use Rattle.tagged_model.specs.declared.shape.MapKind.TheVariants.{Hash, Array}
use Rattle.tagged_model.specs.declared.shape.MapShape.{MapShape}
use Rattle.tagged_model.specs.declared.fault.MapFault.{MapFault}
use Rattle.tagged_model.specs.declared.fault.MapFault.TheVariants.{Exists, Invalid}
use Rattle.tagged_model.specs.Table.{Table, Verdict, Refused, Present, New, no_exist, exist, is_full}
use Rattle.tagged_model.specs.Table.{of_absent, of_found, look_up, verdict, removal_of, removal}
use Rattle.tagged_model.specs.State.{RunMap, set_at, with_value}
use Rattle.tagged_model.specs.Helpers.{with_object, put, updated, taken_out, removed}
use Rattle.tagged_model.specs.StateInvariant.{IsMapOf}
use Rattle.words.specs.Bytes.{AreBytes}
use Rattle.abstraction.specs.Laws.{KeepsShapeAndObjects}
use Rattle.tagged_model.specs.StateLaws.{owns_more, owns_with, owns_without}
use Rattle.abstraction.proofs.Objects.{values_small}
use Rattle.std.proofs.lemmas.Bool.{cond_both, eqb-false}

-- ---- only a hash map gets a new key, and only a hash map loses one

new_of_hash : (t : Table ℕ) (key : List ℕ) (flags : ℕ) → verdict t key flags ≡ New → t.shape.kind ≡ Hash
new_of_hash t key flags e = of_object (look_up t key) (known (nat_le flags exist) (of_found t flags (look_up t key)) e)
  where
    known : (b : Bool) (v : Verdict ℕ) → (if b then v else Refused Invalid) ≡ New → v ≡ New
    known true v e = e
    known false v e = absurd (let z : ⊥ = cc in z)

    of_kind : (k : MapKind) → of_absent {A = ℕ} k (is_full t) flags ≡ New → k ≡ Hash
    of_kind Hash e = refl
    of_kind Array e = absurd (let z : ⊥ = cc in z)

    present : (b : Bool) (a : ℕ)
        → ◌≡◌ {A = Verdict ℕ} (if b then Refused Exists else Present a) New → t.shape.kind ≡ Hash
    present true a e = absurd (let z : ⊥ = cc in z)
    present false a e = absurd (let z : ⊥ = cc in z)

    of_object : (o : Option ℕ) → of_found t flags o ≡ New → t.shape.kind ≡ Hash
    of_object None e = of_kind t.shape.kind e
    of_object (Some a) e = present (flags == no_exist) a e

removed_of_hash : (k : MapKind) (o : Option ℕ) (number : ℕ) → removal_of k o ≡ Ok number → k ≡ Hash
removed_of_hash Hash o number e = refl
removed_of_hash Array o number e = absurd (let z : ⊥ = cc in z)

no_array : (k : MapKind) → k ≡ Hash → k ≡ Array → ⊥
no_array k e f = let same : Hash ≡ Array = sym e ∙ f in cc

-- ---- the invariants

module _ (shape : MapShape) (t : RunMap) (is : IsMapOf shape t)
    (bytes : (number : ℕ) → AreBytes (t.values number)) where
  unchanged : KeepsShapeAndObjects shape t t
  unchanged = record { is = is; more = omega arith; bytes = bytes }

  module _ (value : List ℕ) (size : length value ≡ shape.value_size) (small : AreBytes value) where
    sized_at : (count k : ℕ)
        → ((number : ℕ) → number < count → length (t.values number) ≡ shape.value_size)
        → (number : ℕ) → (number ≡ k → Unit {0}) → ((number ≡ k → ⊥) → number < count)
        → length (set_at t.values k value number) ≡ shape.value_size
    sized_at count k all number _ other =
        cond_both (number == k) value (t.values number) (λ v. length v ≡ shape.value_size)
        (λ _. size) (λ e. all number (other (eqb-false number k e)))

    valued : (number : ℕ) → KeepsShapeAndObjects shape t (with_value t number value)
    valued number = record {
      is = record {
        shaped = is.shaped;
        indices = is.indices;
        owns = is.owns;
        sized = λ k lt. sized_at t.count number is.sized k (λ _. tt) (λ _. lt);
      };
      more = omega arith;
      bytes = values_small t number value small bytes;
    }

    with_new_object : (key : List ℕ) → t.table.shape.kind ≡ Hash → KeepsShapeAndObjects shape t (with_object t key value)
    with_new_object key hash = record {
      is = record {
        shaped = is.shaped;
        indices = λ array. absurd (no_array shape.kind (sym (ap (λ (s : MapShape). s.kind) is.shaped) ∙ hash) array);
        owns =
            owns_with (t.count + 1) key t.count t.table.entries (omega arith)
            (owns_more t.count (t.count + 1) t.table.entries (omega arith) is.owns);
        sized = λ k lt. sized_at t.count t.count is.sized k (λ _. tt) (λ other. omega arith);
      };
      more = omega arith;
      bytes = values_small t t.count value small bytes;
    }

    put_keeps : (key : List ℕ) (v : Verdict ℕ)
        → (v ≡ New → t.table.shape.kind ≡ Hash) → KeepsShapeAndObjects shape t (put t key value v).map
    put_keeps key (Refused fault) h = unchanged
    put_keeps key (Present number) h = valued number
    put_keeps key New h = with_new_object key (h refl)

    -- an update of a map with bytes of the size of a value keeps its shape and its objects
    pub updated_keeps : (key : List ℕ) (flags : ℕ) → KeepsShapeAndObjects shape t (updated t key value flags).map
    updated_keeps key flags = put_keeps key (verdict t.table key flags) (new_of_hash t.table key flags)

  taken_keeps : (key : List ℕ) (r : Result ℕ MapFault)
      → ((number : ℕ) → r ≡ Ok number → t.table.shape.kind ≡ Hash)
      → KeepsShapeAndObjects shape t (taken_out t key r).map
  taken_keeps key (Err fault) h = unchanged
  taken_keeps key (Ok number) h = record {
    is = record {
      shaped = is.shaped;
      indices = λ array.
          absurd (no_array shape.kind (sym (ap (λ (s : MapShape). s.kind) is.shaped) ∙ h number refl) array);
      owns = owns_without t.count key t.table.entries is.owns;
      sized = is.sized;
    };
    more = omega arith;
    bytes = bytes;
  }

  -- a delete from a map keeps its shape and its objects
  pub removed_keeps : (key : List ℕ) → KeepsShapeAndObjects shape t (removed t key).map
  removed_keeps key =
      taken_keeps key (removal t.table key)
      (λ number e. removed_of_hash t.table.shape.kind (look_up t.table key) number e)
