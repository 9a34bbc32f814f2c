-- The maps at the start of a run.
use Rattle.std.proofs.Common.{◌≡◌, ℕ, suc, ◌+◌, ◌<◌, ◌≤◌, List, [], ◌∷◌, length, get_or, Option, Some, None, refl, sym, ap, subst, ◌∙◌, inl, inr, arith}
use Rattle.std.specs.Option.{option_map}
use Rattle.std.specs.List.{All}
use Rattle.std.specs.Map.{keys_of, values_of}
use Rattle.std.proofs.lemmas.Bool.{cases_lt}
use Rattle.std.proofs.lemmas.Option.{none-some}
use Rattle.std.proofs.lemmas.List.{get_or_past}
use Rattle.tagged_model.specs.declared.shape.MapShape.{MapShape}
use Rattle.tagged_model.specs.Named.{Shapes}
use Rattle.tagged_model.specs.Table.{Table}
use Rattle.tagged_model.specs.State.{RunMap}
use Rattle.tagged_model.specs.Step.{MapsByDescriptor, numbered, map_at_start}
use Rattle.tagged_model.specs.StateInvariant.{KeysHaveObjects, IsMapOf}
use Rattle.words.specs.Bytes.{AreBytes}
use Rattle.verifier.specs.Sound.{IsTableOf}

-- ---- the objects of a map are numbered in order

same_keys : (n : ℕ) (es : List (List ℕ × List ℕ)) → keys_of (numbered n es) ≡ keys_of es
unfolding numbered
same_keys n [] = refl
same_keys n (e ∷ es) = ap (λ (ks : List (List ℕ)). e.0 ∷ ks) (same_keys (n + 1) es)

owned : (n count : ℕ) (es : List (List ℕ × List ℕ)) → n + length es ≤ count → KeysHaveObjects count (numbered n es)
unfolding numbered
owned n count [] h = tt
owned n count (e ∷ es) h = (omega arith, owned (n + 1) count es (omega arith))

long : (es : List (List ℕ × List ℕ)) → length (values_of es) ≡ length es
long [] = refl
long (e ∷ es) = ap suc (long es)

-- ---- their bytes

none_there : AreBytes []
none_there k d lt = absurd (omega arith)

all_bytes : (vs : List (List ℕ)) → All AreBytes vs → (number : ℕ) → AreBytes (get_or vs number [])
all_bytes vs all number =
    elim (cases_lt number (length vs)) [
      | inl lt ↦ all number [] lt
      | inr past ↦ subst AreBytes (sym (get_or_past vs number [] past)) none_there
    ]

map_is : (shape : MapShape) (t : Table (List ℕ)) → IsTableOf shape t → IsMapOf shape (map_at_start t)
map_is shape t is =
    record {
      shaped = is.shaped;
      indices = λ array. same_keys 0 t.entries ∙ is.indices array;
      owns = owned 0 (length t.entries) t.entries (omega arith);
      sized = λ number lt. is.sized number [] (subst (λ n. number < n) (sym (long t.entries)) lt);
    }

-- ---- the maps of a run

first_of : (P : Table (List ℕ) → Type 0) (o : Option (Table (List ℕ))) (u : RunMap)
    → ((t : Table (List ℕ)) → o ≡ Some t → P t) → option_map map_at_start o ≡ Some u
    → (t : Table (List ℕ)) × (map_at_start t ≡ u) × P t
first_of P None u h e = absurd (none-some u e)
first_of P (Some t) u h e = (t, cc, h t refl)

-- if the values of all maps are bytes, so are those of the maps at the start of a run
pub first_values : (maps : MapsByDescriptor)
    → ((m : ℕ) (t : Table (List ℕ)) → maps m ≡ Some t → All AreBytes (values_of t.entries))
    → (m : ℕ) (u : RunMap) → option_map map_at_start (maps m) ≡ Some u
    → (number : ℕ) → AreBytes (u.values number)
first_values maps values m u e number =
    let f = first_of (λ t. All AreBytes (values_of t.entries)) (maps m) u (values m) e in
    subst (λ (u : RunMap). AreBytes (u.values number)) f.1 (all_bytes (values_of f.0.entries) f.2 number)

-- if a run is given a map of each shape, it begins with a map of each shape
pub maps_at_start : (shapes : Shapes) (maps : MapsByDescriptor)
    → ((m : ℕ) (shape : MapShape) → shapes m ≡ Some shape
    → (t : Table (List ℕ)) × (maps m ≡ Some t) × IsTableOf shape t)
    → (m : ℕ) (shape : MapShape) → shapes m ≡ Some shape
    → (u : RunMap) × (option_map map_at_start (maps m) ≡ Some u) × IsMapOf shape u
maps_at_start shapes maps has m shape e =
    let h = has m shape e in
    (map_at_start h.0, ap (option_map map_at_start) h.1, map_is shape h.0 h.2)
