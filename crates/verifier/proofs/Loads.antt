-- The descriptors of a program's loads of maps, instruction by instruction.
use Rattle.std.proofs.Common.{◌≡◌, ℕ, zero, suc, ◌<◌, ◌+◌, ◌==◌, length, get_or, Bool, true, false, not, cond}
use Rattle.std.proofs.Common.{◌||◌, List, [], ◌∷◌, ◌++◌, Option, None, Some, refl, sym, ap, ◌∙◌, append-nil, arith}
use Rattle.std.specs.Option.{option_to_list, is_some}
use Rattle.std.proofs.lemmas.Bool.{eqb-true, false≢true}
use Rattle.std.proofs.lemmas.Option.{same_Some, slice_get-get_or}
use Rattle.std.specs.List.{slice_get, list_any, filter_map, cons_option}
use Rattle.std.proofs.lemmas.List.Elements.{filter-append, filter_map-append}
use Rattle.insn_set.specs.declared.insn.Insn.{Insn}
use Rattle.insn_set.specs.Program.{slot_count, begins_at, begun_below}
use Rattle.tagged_model.specs.Cells.{and_then}
use Rattle.tagged_model.specs.declared.shape.Named.{Named}
use Rattle.tagged_model.specs.Named.{target_of}
use Rattle.insn_set.specs.Flow.{descriptor}
use Rattle.verifier.specs.Maps.{without, distinct, maps_of}
use Rattle.verifier.specs.Shape.{is_not_open, structure_fault}
use Rattle.verifier.specs.ShapeLaws.{each_is_fine}
use Rattle.verifier.specs.Verdict.{HasNoFault}
use Rattle.verifier.specs.inside.Descriptors.{with_descriptor}

-- ---- one more at the end

-- a descriptor other than the one that is left out is still found
left_out : (x a b : ℕ) → (b == a) ≡ false → not (x == b) ≡ false → (x == a) ≡ false
left_out x a b ne e = grind arith

any_kept : (p : ℕ → Bool) (keep : Bool) (x : ℕ) (xs : List ℕ)
    → (keep ≡ false → p x ≡ false) → list_any p (cond keep (x ∷ xs) xs) ≡ (p x || list_any p xs)
any_kept p true x xs h = refl
any_kept p false x xs h = sym (ap (λ t. t || list_any p xs) (h refl))

-- whether a descriptor is in a list does not change if another one is left out
pub still_there : (a b : ℕ)
    → (b == a) ≡ false
    → (fds : List ℕ) → list_any (λ o. o == a) (without b fds) ≡ list_any (λ o. o == a) fds
still_there a b ne [] = refl
still_there a b ne (x ∷ xs) =
    any_kept (λ o. o == a) (not (x == b)) x (without b xs) (left_out x a b ne)
    ∙ ap (λ t. (x == a) || t) (still_there a b ne xs)

module _ (a fd : ℕ) (known : List ℕ) where
  -- if it is the one that is left out, it is left out whether or not it was added
  left_out_again : (t : Bool) → (a == fd) ≡ true → without a (cond t known (known ++ fd ∷ [])) ≡ without a known
  left_out_again true e = refl
  left_out_again false e =
      let same : not (fd == a) ≡ false = grind arith in
      filter-append (λ o. not (o == a)) known (fd ∷ [])
      ∙ ap (λ b. without a known ++ cond b (fd ∷ []) []) same
      ∙ append-nil (without a known)

  kept : (t : Bool)
      → (a == fd) ≡ false
      → without a (cond t known (known ++ fd ∷ [])) ≡ cond t (without a known) (without a known ++ fd ∷ [])
  kept true e = refl
  kept false e =
      let other : not (fd == a) ≡ true = grind arith in
      filter-append (λ o. not (o == a)) known (fd ∷ []) ∙ ap (λ b. without a known ++ cond b (fd ∷ []) []) other

  behind : (t : Bool)
      → a ∷ cond t (without a known) (without a known ++ fd ∷ [])
      ≡ cond t (a ∷ without a known) ((a ∷ without a known) ++ fd ∷ [])
  behind true = refl
  behind false = refl

  pushed : a ∷ without a (with_descriptor known (Some fd)) ≡ with_descriptor (a ∷ without a known) (Some fd)
  pushed = by (a == fd) refl
    where
      by : (t : Bool)
          → (a == fd) ≡ t
          → a ∷ without a (with_descriptor known (Some fd)) ≡ with_descriptor (a ∷ without a known) (Some fd)
      by true e =
          ap (λ l. a ∷ l) (left_out_again (list_any (λ o. o == fd) known) e)
          ∙ sym (ap (λ t.
          cond (t || list_any (λ o. o == fd) (without a known)) (a ∷ without a known)
          ((a ∷ without a known) ++ fd ∷ []))
          e)
      by false e =
          ap (λ l. a ∷ l) (kept (list_any (λ o. o == fd) known) e)
          ∙ behind (list_any (λ o. o == fd) known)
          ∙ ap (λ t. cond t (a ∷ without a known) ((a ∷ without a known) ++ fd ∷ [])) (sym (still_there fd a e known))
          ∙ sym (ap (λ t.
          cond (t || list_any (λ o. o == fd) (without a known)) (a ∷ without a known)
          ((a ∷ without a known) ++ fd ∷ []))
          e)

one_more : (fds : List ℕ) (fd : ℕ) → distinct (fds ++ fd ∷ []) ≡ with_descriptor (distinct fds) (Some fd)
unfolding distinct
one_more [] fd = refl
one_more (a ∷ fds) fd = ap (λ l. a ∷ without a l) (one_more fds fd) ∙ pushed a fd (distinct fds)

-- ---- one more instruction

after_one : (is : List Insn) (i : Insn) → maps_of (is ++ i ∷ []) ≡ with_descriptor (maps_of is) (descriptor i)
after_one is i = ap distinct (filter_map-append descriptor is (i ∷ [])) ∙ by (descriptor i) refl
  where
    by : (o : Option ℕ)
        → descriptor i ≡ o
        → distinct (filter_map descriptor is ++ filter_map descriptor (i ∷ [])) ≡ with_descriptor (maps_of is) o
    by None e =
        ap (λ o. distinct (filter_map descriptor is ++ cons_option o [])) e
        ∙ ap distinct (append-nil (filter_map descriptor is))
    by (Some fd) e =
        ap (λ o. distinct (filter_map descriptor is ++ cons_option o [])) e ∙ one_more (filter_map descriptor is) fd

-- no instruction, no descriptor
pub none_loaded : maps_of [] ≡ []
unfolding distinct
none_loaded = refl

-- after an instruction, the maps of a program have its descriptor too, if it loads a map
pub loaded_here : (before after : List Insn) (o : Option Insn) (i : Insn)
    → after ≡ before ++ option_to_list o → o ≡ Some i
    → with_descriptor (maps_of before) (descriptor i) ≡ maps_of after
loaded_here before after o i step here =
    sym (after_one before i)
    ∙ ap (λ (p : Option Insn). maps_of (before ++ option_to_list p)) (sym here)
    ∙ ap maps_of (sym step)

-- after a slot at which no instruction begins, the maps of a program are the same
pub loaded_nowhere : (before after : List Insn) (o : Option Insn)
    → after ≡ before ++ option_to_list o → o ≡ None → maps_of before ≡ maps_of after
loaded_nowhere before after o step none =
    ap maps_of (sym (append-nil before))
    ∙ ap (λ (p : Option Insn). maps_of (before ++ option_to_list p)) (sym none)
    ∙ ap maps_of (sym step)

-- the descriptors after the instruction at the slot, if one begins there
pub loaded_at : (before after : List Insn) (o : Option Insn)
    → after ≡ before ++ option_to_list o
    → with_descriptor (maps_of before) (and_then o descriptor) ≡ maps_of after
loaded_at before after None step = loaded_nowhere before after None step refl
loaded_at before after (Some i) step = loaded_here before after (Some i) i step refl

-- if the instruction at the slot loads no map, the descriptors are the same
pub loaded_silent : (before after entries : List Insn) (entry : Insn) (slot : ℕ) (o : Option Insn)
    → after ≡ before ++ option_to_list o
    → ((i : Insn) → o ≡ Some i → slice_get entries slot ≡ Some i)
    → slot < length entries → entry ≡ get_or entries slot entry
    → is_some (descriptor entry) ≡ false
    → maps_of before ≡ maps_of after
loaded_silent before after entries entry slot None step entry_at within here silent =
    loaded_nowhere before after None step refl
loaded_silent before after entries entry slot (Some i) step entry_at within here silent =
    let same : entry ≡ i = here ∙ same_Some _ i (sym (slice_get-get_or entries slot entry within) ∙ entry_at i refl) in
    sym (ap (with_descriptor (maps_of before))
    (none_of (descriptor i) (ap (λ (j : Insn). is_some (descriptor j)) (sym same) ∙ silent)))
    ∙ loaded_here before after (Some i) i step refl where
      none_of : (d : Option ℕ) → is_some d ≡ false → d ≡ None
      none_of None e = refl
      none_of (Some fd) e = absurd (false≢true (sym e))

-- ---- no descriptor names anything

module _ (code : List Insn) (fine : HasNoFault (structure_fault code [])) where
  -- an instruction of a program without a fault of its shape loads only what a descriptor names
  loads_none : (slot : ℕ) (o : Option Insn) → begins_at code slot ≡ o → and_then o descriptor ≡ None
  unfolding target_of
  loads_none slot None here = refl
  loads_none slot (Some i) here = by (descriptor i) refl
    where
      by : (fd : Option ℕ) → descriptor i ≡ fd → descriptor i ≡ None
      by None e = e
      by (Some fd) e =
          absurd (false≢true (sym (each_is_fine code [] fine slot i here).is_open
          ∙ ap (λ (o : Option ℕ). is_not_open [] o) e))

  module _ (start : begun_below code 0 ≡ [])
      (step : (slot : ℕ)
      → begun_below code (slot + 1) ≡ begun_below code slot ++ option_to_list (begins_at code slot)) where
    none_below : (slot : ℕ) → maps_of (begun_below code slot) ≡ []
    none_below zero = ap maps_of start ∙ none_loaded
    none_below (suc slot) =
        let next : suc slot ≡ slot + 1 = omega arith in
        ap (λ (n : ℕ). maps_of (begun_below code n)) next
        ∙ sym (loaded_at (begun_below code slot) (begun_below code (slot + 1)) (begins_at code slot) (step slot))
        ∙ ap (with_descriptor (maps_of (begun_below code slot))) (loads_none slot (begins_at code slot) refl)
        ∙ none_below slot

    -- a program without a fault of its shape for which no descriptor is open loads no map
    pub none_named : begun_below code (slot_count code) ≡ code → maps_of code ≡ []
    none_named all = ap maps_of (sym all) ∙ none_below (slot_count code)

-- a list without elements
pub no_names : (named : List Named) → (length named == 0) ≡ true → named ≡ []
no_names [] e = refl
no_names (n ∷ named) e = let none : length (n ∷ named) ≡ 0 = eqb-true _ 0 e in absurd (omega arith)
