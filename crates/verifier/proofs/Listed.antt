-- Each map that a program loads is listed, once.
use Rattle.std.proofs.Common.{◌≡◌, ℕ, zero, suc, ◌==◌, Bool, true, false, not, cond, ◌||◌, List, [], ◌∷◌, slice_get, Some, refl, sym, ap, ◌∙◌}
use Rattle.std.proofs.lemmas.Bool.{eq-eqb, eqb-true, true≢false, or_left, or_right}
use Rattle.std.proofs.lemmas.Option.{none-some, same_Some}
use Rattle.tagged_model.specs.declared.shape.MapShape.{MapShape}
use Rattle.tagged_model.specs.declared.shape.Named.{Named}
use Rattle.tagged_model.specs.Named.{target_of, shape_in}
use Rattle.verifier.specs.Maps.{without, distinct, maps_of, is_among, objects_at}
use Rattle.verifier.specs.Laws.{MapsAreListed}
use Rattle.verifier.proofs.LoadedShapes.{among_maps}

-- ---- an element of a list has an index in it

among_at : (xs : List ℕ) (i m : ℕ) → slice_get xs i ≡ Some m → is_among xs m ≡ true
among_at [] i m e = absurd (none-some m e)
among_at (x ∷ xs) zero m e = or_left (x == m) (is_among xs m) (eq-eqb x m (same_Some x m e))
among_at (x ∷ xs) (suc i) m e = or_right (x == m) (is_among xs m) (among_at xs i m e)

-- a descriptor that is among those of a list has an index in it
pub index_of : (xs : List ℕ) (m : ℕ) → is_among xs m ≡ true → (i : ℕ) × (slice_get xs i ≡ Some m)
index_of [] m h = absurd (true≢false (sym h))
index_of (x ∷ xs) m h = by (x == m) refl (index_of xs m)
  where
    by : (b : Bool)
        → (x == m) ≡ b
        → (is_among xs m ≡ true → (i : ℕ) × (slice_get xs i ≡ Some m))
        → (i : ℕ) × (slice_get (x ∷ xs) i ≡ Some m)
    by true e rest = (0, ap (λ (k : ℕ). Some k) (eqb-true x m e))
    by false e rest = let r = rest (sym (ap (λ b. b || is_among xs m) e) ∙ h) in (suc r.0, r.1)

-- ---- a list without duplicates

AreOnce : List ℕ → Type 0
AreOnce [] = Unit {0}
AreOnce (x ∷ xs) = (is_among xs x ≡ false) × AreOnce xs

-- an element that is not in a list is not in the list without some others
none_left : (x a : ℕ) (xs : List ℕ) → is_among xs x ≡ false → is_among (without a xs) x ≡ false
none_left x a [] h = h
none_left x a (y ∷ ys) h = by (y == x) (y == a) refl refl (none_left x a ys)
  where
    by : (b c : Bool)
        → (y == x) ≡ b → (y == a) ≡ c
        → (is_among ys x ≡ false → is_among (without a ys) x ≡ false)
        → is_among (cond (not (y == a)) (y ∷ without a ys) (without a ys)) x ≡ false
    by true c e f rest = absurd (true≢false (sym (or_left (y == x) (is_among ys x) e) ∙ h))
    by false true e f rest =
        ap (λ t. is_among (cond (not t) (y ∷ without a ys) (without a ys)) x) f
        ∙ rest (sym (ap (λ b. b || is_among ys x) e) ∙ h)
    by false false e f rest =
        ap (λ t. is_among (cond (not t) (y ∷ without a ys) (without a ys)) x) f
        ∙ ap (λ b. b || is_among (without a ys) x) e
        ∙ rest (sym (ap (λ b. b || is_among ys x) e) ∙ h)

-- an element that was left out is not in the list
gone : (a : ℕ) (xs : List ℕ) → is_among (without a xs) a ≡ false
gone a [] = refl
gone a (y ∷ ys) = by (y == a) refl (gone a ys)
  where
    by : (b : Bool)
        → (y == a) ≡ b → is_among (without a ys) a ≡ false
        → is_among (cond (not (y == a)) (y ∷ without a ys) (without a ys)) a ≡ false
    by true e rest = ap (λ t. is_among (cond (not t) (y ∷ without a ys) (without a ys)) a) e ∙ rest
    by false e rest =
        ap (λ t. is_among (cond (not t) (y ∷ without a ys) (without a ys)) a) e
        ∙ ap (λ b. b || is_among (without a ys) a) e
        ∙ rest

once_left : (a : ℕ) (xs : List ℕ) → AreOnce xs → AreOnce (without a xs)
unfolding AreOnce
once_left a [] h = tt
once_left a (y ∷ ys) h = by (not (y == a)) (once_left a ys h.1)
  where
    by : (b : Bool) → AreOnce (without a ys) → AreOnce (cond b (y ∷ without a ys) (without a ys))
    by true rest = (none_left y a ys h.0, rest)
    by false rest = rest

distinct_once : (fds : List ℕ) → AreOnce (distinct fds)
unfolding AreOnce distinct
distinct_once [] = tt
distinct_once (fd ∷ fds) = (gone fd (distinct fds), once_left fd (distinct fds) (distinct_once fds))

one_index : (xs : List ℕ) (i j m : ℕ) → AreOnce xs → slice_get xs i ≡ Some m → slice_get xs j ≡ Some m → i ≡ j
unfolding AreOnce
one_index [] i j m h e f = absurd (none-some m e)
one_index (x ∷ xs) zero zero m h e f = refl
one_index (x ∷ xs) zero (suc j) m h e f =
    absurd (true≢false (sym (among_at xs j m f) ∙ ap (is_among xs) (sym (same_Some x m e)) ∙ h.0))
one_index (x ∷ xs) (suc i) zero m h e f =
    absurd (true≢false (sym (among_at xs i m e) ∙ ap (is_among xs) (sym (same_Some x m f)) ∙ h.0))
one_index (x ∷ xs) (suc i) (suc j) m h e f = ap suc (one_index xs i j m h.1 e f)

-- ---- a shape belongs to a map that is loaded

module _ (fds : List ℕ) (fd : ℕ) where
  -- a descriptor that has a shape among the objects that are kept is in the list by which they were kept
  pub shape_kept : (named : List Named) (shape : MapShape)
      → shape_in (target_of (objects_at fds named) fd) ≡ Some shape → is_among fds fd ≡ true
  unfolding target_of
  shape_kept [] shape e = absurd (none-some shape e)
  shape_kept (n ∷ ns) shape e = by (is_among fds n.fd) (n.fd == fd) refl refl (shape_kept ns shape) e
    where
      by : (b c : Bool)
          → is_among fds n.fd ≡ b → (n.fd == fd) ≡ c
          → (shape_in (target_of (objects_at fds ns) fd) ≡ Some shape → is_among fds fd ≡ true)
          → shape_in (target_of (cond b (n ∷ objects_at fds ns) (objects_at fds ns)) fd) ≡ Some shape
          → is_among fds fd ≡ true
      by true true f g rest h = sym (ap (is_among fds) (eqb-true n.fd fd g)) ∙ f
      by true false f g rest h =
          rest (sym (ap (λ t. shape_in (cond t (Some n.target) (target_of (objects_at fds ns) fd))) g) ∙ h)
      by false c f g rest h = rest h

pub maps_are_listed : MapsAreListed
maps_are_listed = record {
  each = λ code n i fd begins e. index_of (maps_of code) fd (among_maps code n i begins fd e);
  once = λ code i j fd e f. one_index (maps_of code) i j fd (distinct_once _) e f;
  shaped = λ code named fd shape e. index_of (maps_of code) fd (shape_kept (maps_of code) fd named shape e);
}
