-- In a program that the shape check accepts, each map that is loaded has a shape. So the safety check rejects the program for none
-- of the reasons that the shape check excludes.
use Rattle.std.proofs.Common.{◌≡◌, ℕ, ◌==◌, Bool, true, false, not, cond, ◌||◌, List, [], ◌∷◌}
use Rattle.std.proofs.Common.{Option, Some, None, Result, Ok, Err, refl, sym, ap, subst, ◌∙◌, arith}
use Rattle.std.specs.Option.{is_some, IsSome, option_map_or}
use Rattle.std.specs.List.{All, AllByRecursion, list_any, filter_map, cons_option}
use Rattle.std.proofs.lemmas.Bool.{eq-eqb, ne_eqb, cond-false, true≢false, or_left, or_right}
use Rattle.std.proofs.lemmas.Option.{none-some, same_Some}
use Rattle.std.proofs.lemmas.List.Elements.{All-cons, All-filter}
use Rattle.insn_set.specs.declared.insn.Insn.{Insn}
use Rattle.insn_set.specs.declared.profile.Reference.{Reference}
use Rattle.insn_set.specs.declared.profile.Reference.TheVariants as names
use Rattle.insn_set.specs.Profile.{profile}
use Rattle.insn_set.specs.Flow.{descriptor_by, descriptor}
use Rattle.insn_set.specs.Program.{begins_at}
use Rattle.insn_set.specs.BeginLaws.{each_where_it_begins, all_that_begin}
use Rattle.reg_kinds.specs.declared.facts.Facts.{Facts}
use Rattle.reg_kinds.specs.declared.reason.Reason.{Reason}
use Rattle.reg_kinds.specs.declared.reason.Reason.TheVariants.{UnknownHelper, DescriptorNotMap, NoDirectValue}
use Rattle.tagged_model.specs.declared.shape.Named.{Named}
use Rattle.tagged_model.specs.declared.shape.Target.{Target}
use Rattle.tagged_model.specs.declared.shape.Target.TheVariants as target
use Rattle.tagged_model.specs.Cells.{and_then}
use Rattle.tagged_model.specs.Table.{has_direct_value}
use Rattle.tagged_model.specs.Named.{Shapes, target_of, shape_in, shapes_named}
use Rattle.transfer.specs.Branches.{Edges}
use Rattle.transfer.specs.Effects.{effect}
use Rattle.transfer.specs.Reasons.{IsUnknownHelper, IsUnshapedMap, IsNoValue, IsReasonOf, TransferReasons}
use Rattle.verifier.specs.Shape.{names_unknown_helper, is_map, is_not_open, is_not_map, lacks_direct_value, structure_fault}
use Rattle.verifier.specs.Before.{facts_before}
use Rattle.verifier.specs.Maps.{without, distinct, maps_of, is_among, objects_at, shapes_of}
use Rattle.verifier.specs.Verdict.{reason_of, safety_fault, HasNoFault}
use Rattle.verifier.specs.Laws.{SafetyFollowsShape, LoadedMapsHaveShapes}
use Rattle.verifier.specs.ShapeLaws.{each_is_fine}
use Rattle.verifier.proofs.Loads.{still_there}

-- ---- the objects that are kept have the same targets

module _ (fds : List ℕ) (fd : ℕ) (among : is_among fds fd ≡ true) where
  other_name : (m : ℕ) → is_among fds m ≡ false → m ≡ fd → ⊥
  other_name m out same = true≢false (sym among ∙ ap (is_among fds) (sym same) ∙ out)

  kept_at : (n : Named) (ns : List Named) (b : Bool)
      → is_among fds n.fd ≡ b
      → target_of (objects_at fds ns) fd ≡ target_of ns fd
      → target_of (cond b (n ∷ objects_at fds ns) (objects_at fds ns)) fd ≡ target_of (n ∷ ns) fd
  unfolding target_of
  kept_at n ns true e rest = ap (λ o. cond (n.fd == fd) (Some n.target) o) rest
  kept_at n ns false e rest =
      rest ∙ sym (cond-false (n.fd == fd) (Some n.target) (target_of ns fd) (ne_eqb n.fd fd (other_name n.fd e)))

  -- among the objects that are kept, a descriptor of the list names what it names among all
  pub target_kept : (named : List Named) → target_of (objects_at fds named) fd ≡ target_of named fd
  target_kept [] = refl
  target_kept (n ∷ ns) = kept_at n ns (is_among fds n.fd) refl (target_kept ns)

-- ---- the descriptor of an instruction is among those of its program

any_more : (p : ℕ → Bool) (o : Option ℕ) (fds : List ℕ) → list_any p fds ≡ true → list_any p (cons_option o fds) ≡ true
any_more p None fds h = h
any_more p (Some m) fds h = or_right (p m) (list_any p fds) h

among_loads : (is : List Insn) (n : ℕ) (i : Insn)
    → begins_at is n ≡ Some i → (fd : ℕ) → descriptor i ≡ Some fd
    → is_among (filter_map descriptor is) fd ≡ true
among_loads =
    each_where_it_begins (λ is n i. (fd : ℕ) → descriptor i ≡ Some fd → is_among (filter_map descriptor is) fd ≡ true)
    (λ i is fd e.
    ap (λ o. is_among (cons_option o (filter_map descriptor is)) fd) e
    ∙ or_left (fd == fd) (is_among (filter_map descriptor is) fd) (eq-eqb fd fd refl))
    (λ j is n i h fd e. any_more (λ m. m == fd) (descriptor j) (filter_map descriptor is) (h fd e))

among_distinct : (fd : ℕ) (fds : List ℕ) → is_among fds fd ≡ true → is_among (distinct fds) fd ≡ true
unfolding distinct
among_distinct fd [] h = h
among_distinct fd (m ∷ fds) h = by (m == fd) refl (among_distinct fd fds)
  where
    by : (b : Bool)
        → (m == fd) ≡ b
        → (is_among fds fd ≡ true → is_among (distinct fds) fd ≡ true)
        → (b || is_among (without m (distinct fds)) fd) ≡ true
    by true e rest = refl
    by false e rest = still_there fd m e (distinct fds) ∙ rest (sym (ap (λ b. b || is_among fds fd) e) ∙ h)

-- the descriptor of each instruction is among the maps of its program
pub among_maps : (code : List Insn) (n : ℕ) (i : Insn)
    → begins_at code n ≡ Some i → (fd : ℕ) → descriptor i ≡ Some fd
    → is_among (maps_of code) fd ≡ true
among_maps code n i begins fd e = among_distinct fd (filter_map descriptor code) (among_loads code n i begins fd e)

-- ---- a load without a fault is of a map

shaped_target : (o : Option Target)
    → not (is_some o) ≡ false → not (option_map_or is_map o true) ≡ false
    → IsSome (shape_in o)
shaped_target None h g = absurd (true≢false h)
shaped_target (Some (target.Map shape)) h g = refl
shaped_target (Some target.Program) h g = absurd (true≢false g)

module _ (code : List Insn) (named : List Named) (none : HasNoFault (structure_fault code named)) where
  -- in a program without a fault of its shape, each descriptor of an instruction names a map with a shape
  pub shaped : (n : ℕ) (i : Insn)
      → begins_at code n ≡ Some i → (fd : ℕ) → descriptor i ≡ Some fd
      → IsSome (shapes_named named fd)
  shaped n i begins fd e =
      let fine = each_is_fine code named none n i begins in
      shaped_target (target_of named fd)
      (subst (λ o. is_not_open named o ≡ false) e fine.is_open)
      (subst (λ o. is_not_map named o ≡ false) e fine.map)

  shaped_in : (n : ℕ) (i : Insn)
      → begins_at code n ≡ Some i → (fd : ℕ) → descriptor i ≡ Some fd
      → IsSome (shapes_of code named fd)
  shaped_in n i begins fd e =
      subst (λ o. IsSome (shape_in o))
      (sym (target_kept (maps_of code) fd (among_maps code n i begins fd e) named))
      (shaped n i begins fd e)

-- ---- each map that is loaded

module _ (P : ℕ → Type 0) where
  all_loads : (is : List Insn)
      → AllByRecursion (λ i. (fd : ℕ) → descriptor i ≡ Some fd → P fd) is
      → AllByRecursion P (filter_map descriptor is)
  all_loads [] h = tt
  all_loads (i ∷ is) h = by (descriptor i) refl (all_loads is h.1)
    where
      by : (o : Option ℕ)
          → descriptor i ≡ o
          → AllByRecursion P (filter_map descriptor is)
          → AllByRecursion P (cons_option o (filter_map descriptor is))
      by None e rest = rest
      by (Some fd) e rest = (h.0 fd e, rest)

  all_distinct : (fds : List ℕ) → AllByRecursion P fds → All P (distinct fds)
  unfolding distinct
  all_distinct [] h = λ k d lt. absurd (omega arith)
  all_distinct (fd ∷ fds) h =
      All-cons P fd (without fd (distinct fds)) h.0
      (All-filter (λ other. not (other == fd)) P (distinct fds) (all_distinct fds h.1))

  all_maps : (code : List Insn)
      → ((n : ℕ) (i : Insn) → begins_at code n ≡ Some i → (fd : ℕ) → descriptor i ≡ Some fd → P fd)
      → All P (maps_of code)
  all_maps code h =
      all_distinct (filter_map descriptor code)
      (all_loads code (all_that_begin (λ i. (fd : ℕ) → descriptor i ≡ Some fd → P fd) code h))

pub maps_have_shapes : LoadedMapsHaveShapes
maps_have_shapes = record {
  named = λ code named accepted. all_maps (λ fd. IsSome (shapes_named named fd)) code (shaped code named accepted.0);
  kept = λ code named accepted.
      all_maps (λ fd. IsSome (shapes_of code named fd)) code (shaped_in code named accepted.0);
}

-- ---- the reasons of safety

module _ (law : TransferReasons) (shapes : Shapes) (code : List Insn) (slot : ℕ) (reason : Reason) where
  -- the instruction at the slot is rejected for this reason
  record IsTold : Type 0 where
    insn : Insn
    begins : begins_at code slot ≡ Some insn
    is : IsReasonOf shapes insn reason

  effect_seen : (i : Insn) (f : Facts) (r : Result Edges Reason)
      → effect shapes slot i f ≡ r → reason_of r ≡ Some reason
      → IsReasonOf shapes i reason
  effect_seen i f (Ok edges) e h = absurd (none-some reason h)
  effect_seen i f (Err seen) e h = law shapes slot i f reason (e ∙ ap Err (same_Some seen reason h))

  insn_seen : (f : Facts) (o : Option Insn)
      → begins_at code slot ≡ o
      → and_then o (λ i. reason_of (effect shapes slot i f)) ≡ Some reason
      → IsTold
  insn_seen f None e h = absurd (none-some reason h)
  insn_seen f (Some i) e h = record { insn = i; begins = e; is = effect_seen i f (effect shapes slot i f) refl h }

  facts_seen : (known : Option Facts)
      → and_then known (λ f. and_then (begins_at code slot) (λ i. reason_of (effect shapes slot i f))) ≡ Some reason
      → IsTold
  facts_seen None h = absurd (none-some reason h)
  facts_seen (Some f) h = insn_seen f (begins_at code slot) refl h

  safety_seen : safety_fault shapes code slot ≡ Some reason → IsTold
  unfolding safety_fault
  safety_seen h = facts_seen (facts_before shapes code slot) h

-- a function that is called is known
none_unknown : (r : Reference) → names_unknown_helper r ≡ false → IsUnknownHelper r → ⊥
none_unknown names.Nothing h none = none
none_unknown (names.Helper id) h none = true≢false (sym (ap (λ o. not (is_some o)) none) ∙ h)
none_unknown (names.Map fd) h none = none
none_unknown (names.Value fd off) h none = none

-- a map that is loaded has a shape
none_unshaped : (shapes : Shapes) (r : Reference)
    → ((fd : ℕ) → descriptor_by r ≡ Some fd → IsSome (shapes fd))
    → IsUnshapedMap shapes r
    → ⊥
none_unshaped shapes names.Nothing h none = none
none_unshaped shapes (names.Helper id) h none = none
none_unshaped shapes (names.Map fd) h none = true≢false (sym (h fd refl) ∙ ap is_some none)
none_unshaped shapes (names.Value fd off) h none = true≢false (sym (h fd refl) ∙ ap is_some none)

-- a value that is loaded directly is one that the map has
none_lacking : (shapes : Shapes) (named : List Named) (r : Reference)
    → ((fd : ℕ) → descriptor_by r ≡ Some fd → shapes fd ≡ shapes_named named fd)
    → lacks_direct_value named r ≡ false → IsNoValue shapes r
    → ⊥
none_lacking shapes named (names.Value fd off) same has none =
    let there : shapes_named named fd ≡ Some none.0 = sym (same fd refl) ∙ none.1 in
    true≢false (sym (ap not none.2)
    ∙ sym (ap (λ o. not (option_map_or (λ shape. has_direct_value shape off) o true)) there)
    ∙ has)
none_lacking shapes named r same has none = none

-- the shapes of the objects that are kept are the shapes by all descriptors
kept_shape : (code : List Insn) (named : List Named) (n : ℕ) (i : Insn)
    → begins_at code n ≡ Some i → (fd : ℕ) → descriptor i ≡ Some fd
    → shapes_of code named fd ≡ shapes_named named fd
kept_shape code named n i begins fd e =
    ap shape_in (target_kept (maps_of code) fd (among_maps code n i begins fd e) named)

-- in a program without a fault of its shape, no instruction is rejected for safety since what it names is missing
pub safety_follows : TransferReasons → SafetyFollowsShape
safety_follows law = record {
  helpers = λ code named slot none h.
      let t = safety_seen law (shapes_of code named) code slot UnknownHelper h in
      none_unknown (profile t.insn).reference (each_is_fine code named none slot t.insn t.begins).known t.is;
  maps = λ code named slot none h.
      let t = safety_seen law (shapes_of code named) code slot DescriptorNotMap h in
      none_unshaped (shapes_of code named) (profile t.insn).reference
      (shaped_in code named none slot t.insn t.begins) t.is;
  values = λ code named slot none h.
      let t = safety_seen law (shapes_of code named) code slot NoDirectValue h in
      none_lacking (shapes_of code named) named (profile t.insn).reference
      (kept_shape code named slot t.insn t.begins)
      (each_is_fine code named none slot t.insn t.begins).value
      t.is;
}
