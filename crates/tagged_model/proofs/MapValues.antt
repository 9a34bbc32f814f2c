-- A map of objects and the map of the values that they represent, for any two kinds of object.
use Rattle.std.proofs.Common.{◌≡◌, ℕ, zero, suc, ◌+◌, ◌==◌, Bool, true, false, cond, List, [], ◌∷◌, length, map}
use Rattle.std.proofs.Common.{Option, Some, None, is_some, option_map, refl, ap, ◌∙◌, nat_le, if◌then◌else◌}
use Rattle.std.specs.Result.{result_map_both}
use Rattle.tagged_model.specs.declared.shape.MapKind.{MapKind}
use Rattle.tagged_model.specs.declared.shape.MapKind.TheVariants.{Hash, Array}
use Rattle.tagged_model.specs.declared.fault.MapFault.TheVariants.{NoEntry, TooBig, Exists, Invalid}
use Rattle.tagged_model.specs.Table.{Table, Verdict, Refused, Present, New, no_exist, is_key, found, without, with_key}
use Rattle.tagged_model.specs.Table.{first_key, key_after_present, key_after, index_key, indexed, new_entries, look_up, is_full}
use Rattle.tagged_model.specs.Table.{exist, of_present, of_absent, of_found, verdict, verdict_with, removal_of, with_values}
use Rattle.tagged_model.specs.MapLaws.{CallsRefineValues}

module _ {A B : Type 0} (value : A → B) where
  abbrev valued : List (List ℕ × A) → List (List ℕ × B)
  valued es = map (λ e. (e.0, value e.1)) es

  long : (es : List (List ℕ × A)) → length (valued es) ≡ length es
  long [] = refl
  long (e ∷ es) = ap suc (long es)

  valued_indexed : (object : ℕ → A) (first n : ℕ)
      → valued (indexed object first n) ≡ indexed (λ i. value (object i)) first n
  unfolding indexed
  valued_indexed object first zero = refl
  valued_indexed object first (suc n) =
      ap (λ (es : List (List ℕ × B)). (index_key first, value (object first)) ∷ es)
      (valued_indexed object (first + 1) n)

  valued_new : (object : ℕ → A) (kind : MapKind) (max : ℕ)
      → valued (new_entries object kind max) ≡ new_entries (λ i. value (object i)) kind max
  valued_new object Array max = valued_indexed object 0 max
  valued_new object Hash max = refl

  valued_found : (key : List ℕ) (es : List (List ℕ × A)) → found key (valued es) ≡ option_map value (found key es)
  valued_found key [] = refl
  valued_found key (e ∷ es) = by (valued_found key es) (is_key key e.0)
    where
      by : found key (valued es) ≡ option_map value (found key es)
          → (b : Bool)
          → cond b (Some (value e.1)) (found key (valued es)) ≡ option_map value (cond b (Some e.1) (found key es))
      by h true = refl
      by h false = h

  valued_without : (key : List ℕ) (es : List (List ℕ × A)) → valued (without key es) ≡ without key (valued es)
  valued_without key [] = refl
  valued_without key (e ∷ es) = by (valued_without key es) (is_key key e.0)
    where
      by : valued (without key es) ≡ without key (valued es)
          → (b : Bool)
          → valued (cond b es (e ∷ without key es)) ≡ cond b (valued es) ((e.0, value e.1) ∷ without key (valued es))
      by h true = refl
      by h false = ap (λ (fs : List (List ℕ × B)). (e.0, value e.1) ∷ fs) h

  valued_with : (key : List ℕ) (number : A) (es : List (List ℕ × A))
      → valued (with_key key number es) ≡ with_key key (value number) (valued es)
  valued_with key number [] = refl
  valued_with key number (e ∷ es) = ap (λ (fs : List (List ℕ × B)). (e.0, value e.1) ∷ fs) (valued_with key number es)

  -- ---- the replies

  valued_present : (flags : ℕ) (p : A) → of_present flags (value p) ≡ verdict_with value (of_present flags p)
  valued_present flags p = by (flags == no_exist)
    where
      by : (b : Bool)
          → ◌≡◌ {A = Verdict B} (if b then Refused Exists else Present (value p))
          (verdict_with value (if b then Refused Exists else Present p))
      by true = refl
      by false = refl

  valued_absent : (kind : MapKind) (full : Bool) (flags : ℕ)
      → of_absent {A = B} kind full flags ≡ verdict_with value (of_absent {A = A} kind full flags)
  valued_absent Array full flags = refl
  valued_absent Hash full flags = by (flags == exist) full
    where
      by : (b c : Bool)
          → ◌≡◌ {A = Verdict B}
          (if b then Refused NoEntry else (if c then Refused TooBig else New))
          (verdict_with value (if b then Refused NoEntry else (if c then Refused TooBig else New)))
      by true c = refl
      by false true = refl
      by false false = refl

  full_valued : (t : Table A) → is_full (with_values value t) ≡ is_full t
  full_valued t = ap (λ (n : ℕ). (n + t.deleted) == t.shape.max_entries) (long t.entries)

  valued_of_found : (t : Table A) (flags : ℕ) (o : Option A)
      → of_found (with_values value t) flags (option_map value o) ≡ verdict_with value (of_found t flags o)
  valued_of_found t flags None =
      ap (λ b. of_absent t.shape.kind b flags) (full_valued t) ∙ valued_absent t.shape.kind (is_full t) flags
  valued_of_found t flags (Some p) = valued_present flags p

  valued_verdict : (t : Table A) (key : List ℕ) (flags : ℕ)
      → verdict (with_values value t) key flags ≡ verdict_with value (verdict t key flags)
  valued_verdict t key flags =
      ap (λ o. if nat_le flags exist then of_found (with_values value t) flags o else Refused Invalid)
      (valued_found key t.entries)
      ∙ by (nat_le flags exist)
    where
      by : (b : Bool)
          → (if b then of_found (with_values value t) flags (option_map value (look_up t key)) else Refused Invalid)
          ≡ verdict_with value (if b then of_found t flags (look_up t key) else Refused Invalid)
      by true = valued_of_found t flags (look_up t key)
      by false = refl

  first_of_valued : (es : List (List ℕ × A)) → first_key (valued es) ≡ first_key es
  first_of_valued [] = refl
  first_of_valued (e ∷ es) = refl

  behind_valued : (key : List ℕ) (es : List (List ℕ × A)) → key_after_present key (valued es) ≡ key_after_present key es
  behind_valued key [] = refl
  behind_valued key (e ∷ es) = by (behind_valued key es) (is_key key e.0)
    where
      by : key_after_present key (valued es) ≡ key_after_present key es
          → (b : Bool)
          → (if b then first_key (valued es) else key_after_present key (valued es))
          ≡ (if b then first_key es else key_after_present key es)
      by h true = first_of_valued es
      by h false = h

  is_some_valued : (o : Option A) → is_some (option_map value o) ≡ is_some o
  is_some_valued None = refl
  is_some_valued (Some p) = refl

  valued_after : (key : List ℕ) (es : List (List ℕ × A)) → key_after key (valued es) ≡ key_after key es
  valued_after key es =
      ap (λ b. if b then key_after_present key (valued es) else first_key (valued es))
      (ap is_some (valued_found key es) ∙ is_some_valued (found key es))
      ∙ ap (λ o. if is_some (found key es) then o else first_key (valued es)) (behind_valued key es)
      ∙ ap (λ o. if is_some (found key es) then key_after_present key es else o) (first_of_valued es)

  removal_valued : (kind : MapKind) (o : Option A)
      → removal_of kind (option_map value o) ≡ result_map_both value (λ fault. fault) (removal_of kind o)
  removal_valued Array o = refl
  removal_valued Hash None = refl
  removal_valued Hash (Some p) = refl

-- a map of objects and the map of their values return the same and change alike
pub go_along : (A B : Type 0) → CallsRefineValues A B
go_along A B = record {
  new = λ value object shape.
      ap (λ (es : List (List ℕ × B)). let m : Table B = record { shape = shape; entries = es; deleted = 0 } in m)
      (valued_new value object shape.kind shape.max_entries);
  found = λ value t key. valued_found value key t.entries;
  verdict = λ value t key flags. valued_verdict value t key flags;
  removal = λ value t key.
      ap (removal_of t.shape.kind) (valued_found value key t.entries)
      ∙ removal_valued value t.shape.kind (found key t.entries);
  next = λ value t key. valued_after value key t.entries;
  update = λ value t key object.
      ap (λ (es : List (List ℕ × B)).
      let m : Table B = record { shape = t.shape; entries = es; deleted = t.deleted } in m)
      (valued_with value key object t.entries);
  delete = λ value t key.
      ap (λ (es : List (List ℕ × B)).
      let m : Table B = record { shape = t.shape; entries = es; deleted = t.deleted + 1 } in m)
      (valued_without value key t.entries);
  end = λ value t. refl;
}
