-- The results of an index on its keys are those on the bytes that the keys represent.
use Rattle.std.proofs.Common.{◌≡◌, ℕ, Bool, true, false, cond, List, [], ◌∷◌, ◌++◌, Option, Some, None, is_some, option_map}
use Rattle.std.proofs.Common.{refl, sym, ap, ◌∙◌, if◌then◌else◌}
use Rattle.std.specs.Map.{lookup, remove_entry, values_of}
use Rattle.tagged_model.specs.Table.{is_key, found, without, with_key, first_key, key_after_present, key_after}
use Rattle.ordered_keys.specs.Orders.{first_key_of, key_after_match, key_following}
use Rattle.bpf_maps.specs.KeyLists.{shown_by}

cond_map : {A B : Type 0} (f : A → B) (b : Bool) (x y : A) → f (cond b x y) ≡ cond b (f x) (f y)
cond_map f true x y = refl
cond_map f false x y = refl

module _ {K : Type 0} (bytes : K → List ℕ) where
  abbrev view : List (K × ℕ) → List (List ℕ × ℕ)
  view es = shown_by bytes es

  shown_by-append : (es fs : List (K × ℕ)) → view (es ++ fs) ≡ view es ++ view fs
  shown_by-append [] fs = refl
  shown_by-append (e ∷ es) fs = ap (λ r. (bytes e.0, e.1) ∷ r) (shown_by-append es fs)

  first_shown : (es : List (K × ℕ)) → option_map bytes (first_key_of es) ≡ first_key (view es)
  first_shown [] = refl
  first_shown (e ∷ es) = refl

  module _ (key : List ℕ) (test : K → Bool) where
    -- a key passes the test exactly if its bytes are `key`
    abbrev pub Tests : List (K × ℕ) → Type 0
    Tests [] = Unit {0}
    Tests (e ∷ es) = (test e.0 ≡ is_key key (bytes e.0)) × Tests es

    -- a look-up by the test has the result of a look-up of the key's bytes
    pub found_shown : (es : List (K × ℕ)) → Tests es → lookup test es ≡ found key (view es)
    found_shown [] h = refl
    found_shown (e ∷ es) h =
        ap (λ (b : Bool). cond b (Some e.1) (lookup test es)) h.0
        ∙ ap (cond (is_key key (bytes e.0)) (Some e.1)) (found_shown es h.1)

    -- the removal of the first key that passes the test is the removal of the key's bytes
    pub without_shown : (es : List (K × ℕ)) → Tests es → view (remove_entry test es) ≡ without key (view es)
    without_shown [] h = refl
    without_shown (e ∷ es) h =
        cond_map view (test e.0) es (e ∷ remove_entry test es)
        ∙ ap (λ (r : List (List ℕ × ℕ)). cond (test e.0) (view es) ((bytes e.0, e.1) ∷ r)) (without_shown es h.1)
        ∙ ap (λ (b : Bool). cond b (view es) ((bytes e.0, e.1) ∷ without key (view es))) h.0

    -- ---- the key that follows

    -- the key after the first that passes the test has the bytes of the key after `key`
    pub behind_shown : (es : List (K × ℕ))
        → Tests es → option_map bytes (key_after_match test es) ≡ key_after_present key (view es)
    behind_shown [] h = refl
    behind_shown (e ∷ es) h =
        by (test e.0) (behind_shown es h.1)
        ∙ ap (λ (b : Bool). if b then first_key (view es) else key_after_present key (view es)) h.0
      where
        by : (b : Bool)
            → option_map bytes (key_after_match test es) ≡ key_after_present key (view es)
            → option_map bytes (if b then first_key_of es else key_after_match test es)
            ≡ (if b then first_key (view es) else key_after_present key (view es))
        by true r = first_shown es
        by false r = r

    -- the next key by the test has the bytes of the next key by `key`, which is the first key if none passes
    pub following_shown : (es : List (K × ℕ))
        → Tests es → option_map bytes (key_following test es) ≡ key_after key (view es)
    following_shown es h =
        by (is_some (lookup test es))
        ∙ ap (λ (o : Option ℕ). if is_some o then key_after_present key (view es) else first_key (view es)) (found_shown es h)
      where
        by : (b : Bool)
            → option_map bytes (if b then key_after_match test es else first_key_of es)
            ≡ (if b then key_after_present key (view es) else first_key (view es))
        by true = behind_shown es h
        by false = first_shown es

    -- the first key follows one that is found nowhere
    pub first_follows : (es : List (K × ℕ))
        → Tests es → lookup test es ≡ None
        → option_map bytes (first_key_of es) ≡ key_after key (view es)
    first_follows es h none =
        first_shown es
        ∙ ap (λ (o : Option ℕ). if is_some o then key_after_present key (view es) else first_key (view es))
        (sym (sym (found_shown es h) ∙ none))

  -- ---- a new key

  -- an index with a new key at its end represents the entries with the bytes of this key at their end
  pub added_shown : (es fs : List (K × ℕ)) (own : K) (key : List ℕ) (element : ℕ)
      → bytes own ≡ key → fs ≡ es ++ (own, element) ∷ []
      → view fs ≡ with_key key element (view es)
  added_shown es fs own key element is e =
      ap view e ∙ shown_by-append es ((own, element) ∷ []) ∙ ap (λ (k : List ℕ). view es ++ (k, element) ∷ []) is

  -- the entries that an index represents have the elements of the index, in the same order
  pub values_shown : (es : List (K × ℕ)) → values_of (view es) ≡ values_of es
  values_shown [] = refl
  values_shown (e ∷ es) = ap (λ (xs : List ℕ). e.1 ∷ xs) (values_shown es)

-- ---- results
