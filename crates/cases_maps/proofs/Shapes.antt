-- The shape of the map that a program loads, if there is one entry for the verdict.
use Rattle.std.proofs.Common.{◌≡◌, ℕ, ◌<◌, Bool, true, false, List, [], ◌∷◌, length, Some, None, IsSome, refl, sym, ap, subst, true≢false}
use Rattle.std.specs.Prelude.{◌==◌, cond, if◌then◌else◌, slice_index}
use Rattle.tagged_model.specs.declared.shape.MapShape.{MapShape}
use Rattle.tagged_model.specs.declared.shape.Named.{Named}
use Rattle.tagged_model.specs.declared.shape.Target.TheVariants as target
use Rattle.tagged_model.specs.Named.{target_of, shape_in, shapes_named}
use Rattle.verifier.specs.Laws.{LoadedMapsHaveShapes}
use Rattle.verifier.specs.Maps.{maps_of, is_among, objects_at}
use Rattle.verifier.specs.Verified.{Accepted, IsAcceptedAs, shapes_in}

module _ (fd : ℕ) (shape : MapShape) where
  abbrev entry : Named
  entry = record { fd = fd; target = target.Map shape }

  found : (b : Bool)
      → IsSome (shape_in (if b then Some (target.Map shape) else None))
      → shape_in (if b then Some (target.Map shape) else None) ≡ Some shape
  found true some = refl
  found false some = absurd (true≢false (sym some))

  kept : (other : ℕ) (b : Bool)
      → IsSome (shapes_named (cond b (entry ∷ []) []) other)
      → shapes_named (cond b (entry ∷ []) []) other ≡ Some shape
  unfolding target_of
  kept other true some = found (fd == other) some
  kept other false some = absurd (true≢false (sym some))

  only_shape : (fds : List ℕ) (other : ℕ)
      → IsSome (shapes_named (objects_at fds (entry ∷ [])) other)
      → shapes_named (objects_at fds (entry ∷ [])) other ≡ Some shape
  only_shape fds other some = kept other (is_among fds fd) some

  -- a program that is accepted with one entry, a map, loads only maps of this map's shape
  pub loaded_shape : LoadedMapsHaveShapes
      → (program a : Accepted) → IsAcceptedAs program.code (entry ∷ []) a
      → (i : ℕ) → i < length (maps_of a.code)
      → shapes_in a (slice_index (maps_of a.code) i) ≡ Some shape
  loaded_shape have program a is i within =
      let fds = maps_of program.code in
      let same : maps_of a.code ≡ fds = ap maps_of is.0 in
      let here : i < length fds = subst (λ (xs : List ℕ). i < length xs) same within in
      let there : shapes_named a.objects (slice_index fds i) ≡ Some shape =
      subst (λ (es : List Named). shapes_named es (slice_index fds i) ≡ Some shape) (sym is.1)
      (only_shape fds (slice_index fds i) (have.kept program.code (entry ∷ []) is.2 i 0 here)) in
      subst (λ (xs : List ℕ). shapes_named a.objects (slice_index xs i) ≡ Some shape) (sym same) there
