-- Reads and writes of the bytes of a map's values, and the facts about a state whose map changes.
use Rattle.std.proofs.Common.{◌≡◌, ℕ, ◌+◌, ◌<◌, ◌≤◌, ◌==◌, leb, ℤ, pos, negsuc, ◌+ℤ◌, ◌≤ℤ◌, List, ◌++◌}
use Rattle.std.proofs.Common.{length, take, drop, Option, Some, None, refl, sym, ap, subst, ◌∙◌, arith}
use Rattle.std.proofs.lemmas.Bool.{cond_both, cond-true, le-leb, eqb-true}
use Rattle.std.proofs.lemmas.Int.{ints}
use Rattle.std.proofs.lemmas.Option.{same_Some}
use Rattle.std.proofs.lemmas.List.{length-take, length-drop, length-append}
use Rattle.std.proofs.lemmas.List.Elements.{All-append, All-take, All-drop}
use Rattle.words.specs.Bytes.{bytes_at, written_at, AreBytes}
use Rattle.reg_kinds.specs.declared.facts.Facts.{Facts}
use Rattle.tagged_model.specs.declared.shape.MapShape.{MapShape}
use Rattle.tagged_model.specs.Cells.{and_then}
use Rattle.tagged_model.specs.State.{RunState, RunMap, set_at, value_bytes, value_written, with_value, with_map, object_bytes, object_written}
use Rattle.tagged_model.specs.StateInvariant.{IsInRange, IsMapOf, HasMaps}
use Rattle.abstraction.specs.Admits.{Witness, AdmitsBy, objects_of}
use Rattle.abstraction.specs.Laws.{IsObject}

-- ---- bytes of a value

module _ (value : List ℕ) (all : AreBytes value) where
  value_read : (y : ℤ) (n : ℕ)
      → pos 0 ≤ℤ y → (y +ℤ pos n) ≤ℤ pos (length value)
      → (bs : List ℕ) × (value_bytes value y n ≡ Some bs) × (length bs ≡ n) × AreBytes bs
  value_read (negsuc y) n low high = absurd (omega (arith, ints))
  value_read (pos y) n low high =
      let fits : y + n ≤ length value = omega (arith, ints) in (
        bytes_at value y n,
        cond-true (leb (y + n) (length value)) (Some (bytes_at value y n)) None (le-leb (y + n) (length value) fits),
        omega (arith, length-take n (drop y value), length-drop y value),
        All-take (λ b. b < 256) n (drop y value) (All-drop (λ b. b < 256) y value all),
      )

  value_over : (y : ℤ) (bs : List ℕ)
      → AreBytes bs → pos 0 ≤ℤ y
      → (y +ℤ pos (length bs)) ≤ℤ pos (length value)
      → (new : List ℕ) × (value_written value y bs ≡ Some new) × (length new ≡ length value) × AreBytes new
  value_over (negsuc y) bs news low high = absurd (omega (arith, ints))
  value_over (pos y) bs news low high =
      let fits : y + length bs ≤ length value = omega (arith, ints) in
      let rest = drop (y + length bs) value in (
        written_at value y bs,
        cond-true (leb (y + length bs) (length value)) (Some (written_at value y bs)) None
            (le-leb (y + length bs) (length value) fits),
        omega (
          arith,
          length-append (take y value) (bs ++ rest),
          length-append bs rest,
          length-take y value,
          length-drop (y + length bs) value,
        ),
        All-append (λ b. b < 256) (take y value) (bs ++ rest) (All-take (λ b. b < 256) y value all)
            (All-append (λ b. b < 256) bs rest news (All-drop (λ b. b < 256) (y + length bs) value all)),
      )

-- ---- a state whose map m changes

module _ (s : RunState) (m : ℕ) (t u : RunMap) (is : s.maps m ≡ Some t) where
  changed : (P : ℕ → Option RunMap → Type 0)
      → P m (Some u) → ((k : ℕ) → P k (s.maps k))
      → (k : ℕ) → P k (set_at s.maps m (Some u) k)
  changed P here others k =
      cond_both (k == m) (Some u) (s.maps k) (P k)
      (λ e. subst (λ j. P j (Some u)) (sym (eqb-true k m e)) here)
      (λ _. others k)

  -- if a map changes and loses no object, the facts still admit the state
  pub map_admits : (witness : Witness) (f : Facts)
      → t.count ≤ u.count → AdmitsBy witness f s → AdmitsBy witness f (with_map s m u)
  map_admits witness f more h =
      let few : witness.objects m ≤ t.count = subst (λ o. witness.objects m ≤ objects_of o) is (h.objects m) in
      record {
        registers = h.registers;
        slots = h.slots;
        objects = changed (λ k o. witness.objects k ≤ objects_of o) (omega arith) h.objects;
      }

  -- if a map changes to one whose values are bytes, the numbers of the state are still in range
  pub map_proper : ((number : ℕ) → AreBytes (u.values number)) → IsInRange s → IsInRange (with_map s m u)
  map_proper bytes h =
      record {
        bytes = h.bytes;
        words = h.words;
        count = h.count;
        values =
            changed (λ k o. (v : RunMap) → o ≡ Some v → (number : ℕ) → AreBytes (v.values number))
            (λ v e number. subst (λ x. AreBytes (x.values number)) (same_Some u v e) (bytes number))
            h.values;
        packet = h.packet;
      }

  -- if a map changes to one of the same shape, the state still has a map of each shape
  pub map_kept : (shapes : ℕ → Option MapShape)
      → ((shape : MapShape) → IsMapOf shape t → IsMapOf shape u)
      → HasMaps shapes s
      → HasMaps shapes (with_map s m u)
  map_kept shapes keeps h =
      changed (λ k o. (shape : MapShape) → shapes k ≡ Some shape → (v : RunMap) × (o ≡ Some v) × IsMapOf shape v)
      (λ shape e. let there = h m shape e in
      let same : t ≡ there.0 = same_Some t there.0 (sym is ∙ there.1) in
      (u, refl, keeps shape (subst (IsMapOf shape) (sym same) there.2)))
      h

  -- the bytes of an object are replaced by as many others
  pub value_kept : (number : ℕ) (new : List ℕ) (shape : MapShape)
      → (number < t.count → length new ≡ shape.value_size)
      → u ≡ with_value t number new → IsMapOf shape t
      → IsMapOf shape u
  value_kept number new shape size e h =
      subst (IsMapOf shape) (sym e) (record { shaped = h.shaped; indices = h.indices; owns = h.owns; sized = sized })
    where
      sized : (k : ℕ) → k < t.count → length (set_at t.values number new k) ≡ shape.value_size
      sized k lt =
          cond_both (k == number) new (t.values k) (λ v. length v ≡ shape.value_size)
          (λ b. let same = eqb-true k number b in size (omega arith))
          (λ _. h.sized k lt)

-- if bytes replace the value of an object, the values of all objects are still bytes
pub values_small : (t : RunMap) (number : ℕ) (new : List ℕ)
    → AreBytes new → ((k : ℕ) → AreBytes (t.values k))
    → (k : ℕ) → AreBytes (set_at t.values number new k)
values_small t number new here others k = cond_both (k == number) new (t.values k) AreBytes (λ _. here) (λ _. others k)

-- ---- an object's bytes

module _ (s : RunState) (m number : ℕ) (shape : MapShape) (proper : IsInRange s)
    (object : IsObject s m number shape) where
  all : AreBytes (object.map.values number)
  all = proper.values m object.map object.there number

  size : length (object.map.values number) ≡ shape.value_size
  size = object.is.sized number object.owned

  -- the bytes at offsets within an object are present
  pub object_read : (y : ℤ) (n : ℕ)
      → pos 0 ≤ℤ y → (y +ℤ pos n) ≤ℤ pos shape.value_size
      → (bs : List ℕ) × (object_bytes s m number y n ≡ Some bs) × (length bs ≡ n) × AreBytes bs
  object_read y n low high =
      let r = value_read (object.map.values number) all y n low (subst (λ k. (y +ℤ pos n) ≤ℤ pos k) (sym size) high) in
      (r.0, ap (λ o. and_then o (λ t. value_bytes (t.values number) y n)) object.there ∙ r.1, r.2, r.3)

  -- a write of bytes within an object changes no fact
  pub object_over : (witness : Witness) (f : Facts) (shapes : ℕ → Option MapShape) (y : ℤ) (bs : List ℕ)
      → AdmitsBy witness f s → HasMaps shapes s
      → AreBytes bs → pos 0 ≤ℤ y
      → (y +ℤ pos (length bs)) ≤ℤ pos shape.value_size
      → (u : RunState)
      × (object_written s m number y bs ≡ Some u)
      × AdmitsBy witness f u
      × IsInRange u
      × HasMaps shapes u
      × (u.at ≡ s.at)
  object_over witness f shapes y bs admits maps news low high =
      let t = object.map in
      let r =
      value_over (t.values number) all y bs news low (subst (λ k. (y +ℤ pos (length bs)) ≤ℤ pos k) (sym size) high) in
      let u = with_value t number r.0 in (
        with_map s m u,
        ap (λ o.
            and_then o
            (λ t.
            and_then (value_written (t.values number) y bs) (λ value. Some (with_map s m (with_value t number value)))))
            object.there
            ∙ ap (λ o. and_then o (λ value. Some (with_map s m (with_value t number value)))) r.1,
        map_admits s m t u object.there witness f (omega arith) admits,
        map_proper s m t u object.there (values_small t number r.0 r.3 (proper.values m t object.there)) proper,
        map_kept s m t u object.there shapes
            (λ other is. value_kept s m t u object.there number r.0 other (λ lt. r.2 ∙ is.sized number lt) refl is)
            maps,
        refl,
      )
