-- A map with a new key.
use Rattle.std.proofs.Common.{◌≡◌, ◌≢◌, ◌⊎◌, inl, inr, ℕ, ◌+◌, ◌<◌, ◌==◌, nat_eq, if◌then◌else◌}
use Rattle.std.proofs.Common.{List, [], ◌∷◌, map, eq-eqb, refl, sym, ap, subst, ◌∙◌, ⊎_elim, arith}
use Rattle.std.specs.Option.{IsSome}
use Rattle.std.specs.Map.{values_of}
use Rattle.std.proofs.lemmas.Bool.{cond-true, cond-false, ne_eqb, cases_lt}
use Rattle.words.specs.Bytes.{bytes_at}
use Rattle.tagged_model.specs.declared.shape.MapShape.{MapShape}
use Rattle.tagged_model.specs.Table.{Table, with_key, with_values, with_new}
use Rattle.tagged_model.specs.State.{RunMap, set_at}
use Rattle.tagged_model.specs.StateInvariant.{KeysHaveObjects}
use Rattle.tagged_model.specs.Helpers.{with_object}
use Rattle.tagged_model.specs.StateLaws.{owns_more, owns_with}
use Rattle.arena.specs.Memory.{base}
use Rattle.bpf_maps.specs.KeyTable.{KeyTable, table_of, occurrences, IsFree, with_entry}
use Rattle.bpf_maps.specs.Live.{LiveMaps, live_at, keys_at, shape_at, offset_at}
use Rattle.bpf_maps.specs.Laws.{CallsRefineValues}
use Rattle.bpf_helpers.specs.Layout.{Layout}
use Rattle.bpf_helpers.specs.Stands.{HasObject, HasMap, stored_maps}
use Rattle.bpf_helpers.proofs.Owned.{times_with, counted_once}
use Rattle.bpf_helpers.proofs.Wider.{extended, extended_same, extended_here}

module _ (element : ℕ → ℕ) where
  abbrev placed : List (List ℕ × ℕ) → List (List ℕ × ℕ)
  placed es = map (λ e. (e.0, element e.1)) es

-- two functions that agree on all objects give the same elements
placed_same : (f g : ℕ → ℕ) (count : ℕ) (es : List (List ℕ × ℕ))
    → KeysHaveObjects count es → ((k : ℕ) → k < count → f k ≡ g k)
    → placed f es ≡ placed g es
placed_same f g count [] owns same = refl
placed_same f g count (e ∷ es) owns same =
    ap (λ (p : ℕ). let head : List ℕ × ℕ = (e.0, p) in head ∷ placed f es) (same e.1 owns.0)
    ∙ ap (λ fs. (e.0, g e.1) ∷ fs) (placed_same f g count es owns.1 same)

module _ (l : Layout) (start : ℕ) (memory after : List ℕ) (old new : LiveMaps) (k m : ℕ)
    (t : RunMap) (key value : List ℕ) (p : ℕ)
    (h : HasMap l (stored_maps start memory old) k m t)
    (free : IsFree (keys_at old k) p)
    (key_table : keys_at new k ≡ with_entry (keys_at old k) key p)
    (live : IsSome (live_at new k))
    (offsets : (q : ℕ) → offset_at new k q ≡ offset_at old k q)
    (kept : (q : ℕ)
    → q < (shape_at old k).max_entries → q ≢ p
    → bytes_at after (start + offset_at old k q) (shape_at old k).value_size
    ≡ bytes_at memory (start + offset_at old k q) (shape_at old k).value_size)
    (written : bytes_at after (start + offset_at old k p) (shape_at old k).value_size ≡ value) where
  -- no object has the element that was free
  not_free : (number : ℕ) → number < t.count → h.element number ≢ p
  not_free number lt e =
      let used = (h.objects number lt).in_use in
      let none = free.entries in
      let other = free.kept in
      let a = ap (λ (q : ℕ). occurrences q (values_of (keys_at old k).entries)) e in
      let b = ap (λ (q : ℕ). occurrences q (keys_at old k).kept) e in
      omega arith

  abbrev element : ℕ → ℕ
  element = set_at h.element t.count p

  element_old : (number : ℕ) → number < t.count → element number ≡ h.element number
  element_old number lt = cond-false (number == t.count) p (h.element number) (ne_eqb number t.count (λ e. omega arith))

  element_new : element t.count ≡ p
  element_new = cond-true (t.count == t.count) p (h.element t.count) (eq-eqb t.count t.count refl)

  shape_stays : shape_at new k ≡ shape_at old k
  shape_stays = ap (λ (x : KeyTable). x.shape) key_table

  uses : (q : ℕ)
      → occurrences q (values_of (keys_at new k).entries) + occurrences q (keys_at new k).kept
      ≡ occurrences q (values_of (keys_at old k).entries)
      + (if nat_eq q p then 1 else 0)
      + occurrences q (keys_at old k).kept
  uses q =
      ap (λ (x : KeyTable). occurrences q (values_of x.entries) + occurrences q x.kept) key_table
      ∙ ap (λ (n : ℕ). n + occurrences q (keys_at old k).kept) (times_with q p key (keys_at old k).entries)

  abbrev layout : Layout
  layout = extended l m (base + (start + offset_at old k p))

  old_object : (number : ℕ)
      → number < t.count
      → HasObject (stored_maps start after new) k (h.element number) (layout.object_at m number) (t.values number)
  old_object number lt =
      let o = h.objects number lt in
      let counted = h.counted in
      record {
        within = subst (λ (s : MapShape). h.element number < s.max_entries) (sym shape_stays) o.within;
        in_use = let used = o.in_use in let more = uses (h.element number) in omega arith;
        address =
            extended_same l m (base + (start + offset_at old k p)) m number (λ _ e. omega arith)
            ∙ o.address
            ∙ ap (λ (a : ℕ). base + (start + a)) (sym (offsets (h.element number)));
        bytes =
            ap (λ (a : ℕ). bytes_at after (start + a) (shape_at new k).value_size) (offsets (h.element number))
            ∙ ap (λ (s : MapShape). bytes_at after (start + offset_at old k (h.element number)) s.value_size)
            shape_stays
            ∙ kept (h.element number) o.within (not_free number lt) ∙ o.bytes;
      }

  new_object : HasObject (stored_maps start after new) k p (layout.object_at m t.count) value
  new_object =
      record {
        within = subst (λ (s : MapShape). p < s.max_entries) (sym shape_stays) free.within;
        in_use =
            let more =
            uses p
            ∙ ap (λ (n : ℕ).
            occurrences p (values_of (keys_at old k).entries) + n + occurrences p (keys_at old k).kept)
            (counted_once p) in
            omega arith;
        address =
            ap (λ (n : ℕ). layout.object_at m n) (sym h.counted)
            ∙ extended_here l m (base + (start + offset_at old k p))
            ∙ ap (λ (a : ℕ). base + (start + a)) (sym (offsets p));
        bytes =
            ap (λ (a : ℕ). bytes_at after (start + a) (shape_at new k).value_size) (offsets p)
            ∙ ap (λ (s : MapShape). bytes_at after (start + offset_at old k p) s.value_size) shape_stays
            ∙ written;
      }

  either : (number : ℕ) → number < t.count + 1 → (number < t.count) ⊎ (number ≡ t.count)
  either number lt = ⊎_elim (λ b. inl b) (λ b. inr (omega arith)) (cases_lt number t.count)

  object_after : (number : ℕ)
      → number < t.count + 1
      → HasObject (stored_maps start after new) k (element number) (layout.object_at m number)
      (set_at t.values t.count value number)
  object_after number lt = ⊎_elim
      (λ below.
      subst (λ (q : ℕ).
      HasObject (stored_maps start after new) k q (layout.object_at m number) (set_at t.values t.count value number))
      (sym (element_old number below))
      (subst (λ (v : List ℕ).
      HasObject (stored_maps start after new) k (h.element number) (layout.object_at m number) v)
      (sym (cond-false (number == t.count) value (t.values number) (ne_eqb number t.count (λ e. omega arith))))
      (old_object number below)))
      (λ same.
      subst (λ (n : ℕ).
      HasObject (stored_maps start after new) k (element n) (layout.object_at m n) (set_at t.values t.count value n))
      (sym same)
      (subst (λ (q : ℕ).
      HasObject (stored_maps start after new) k q (layout.object_at m t.count) (set_at t.values t.count value t.count))
      (sym element_new)
      (subst (λ (v : List ℕ). HasObject (stored_maps start after new) k p (layout.object_at m t.count) v)
      (sym (cond-true (t.count == t.count) value (t.values t.count) (eq-eqb t.count t.count refl)))
      new_object)))
      (either number lt)

  apart_after : (a b : ℕ) → a < t.count + 1 → b < t.count + 1 → element a ≡ element b → a ≡ b
  apart_after a b lt few e = ⊎_elim
      (λ x. ⊎_elim
      (λ y. h.apart a b x y (sym (element_old a x) ∙ e ∙ element_old b y))
      (λ y. absurd (not_free a x (sym (element_old a x) ∙ e ∙ ap element y ∙ element_new)))
      (either b few))
      (λ x. ⊎_elim
      (λ y. absurd (not_free b y (sym (element_old b y) ∙ sym e ∙ ap element x ∙ element_new)))
      (λ y. x ∙ sym y)
      (either b few))
      (either a lt)

  table_after : CallsRefineValues ℕ ℕ → table_of (keys_at new k) ≡ with_values element (with_new t.table key t.count)
  table_after along =
      ap table_of key_table
      ∙ ap (λ (x : Table ℕ).
      let y : Table ℕ = record { shape = x.shape; entries = with_key key p x.entries; deleted = x.deleted } in y)
      h.table
      ∙ ap (λ (es : List (List ℕ × ℕ)).
      let y : Table ℕ = record { shape = t.table.shape; entries = with_key key p es; deleted = t.table.deleted } in y)
      (placed_same h.element element t.count t.table.entries h.owns (λ number lt. sym (element_old number lt)))
      ∙ ap (λ (q : ℕ).
      let y : Table ℕ = record {
        shape = t.table.shape;
        entries = with_key key q (placed element t.table.entries);
        deleted = t.table.deleted;
      } in
      y)
      (sym element_new)
      ∙ sym (along.update element t.table key t.count)

  -- after the value is written to the free element of a new key, the live map represents the map with the key
  pub map_with_new : CallsRefineValues ℕ ℕ → HasMap layout (stored_maps start after new) k m (with_object t key value)
  map_with_new along = record {
    live = live;
    element = element;
    table = table_after along;
    owns =
        owns_with (t.count + 1) key t.count t.table.entries (omega arith)
        (owns_more t.count (t.count + 1) t.table.entries (omega arith) h.owns);
    counted = cond-true (m == m) (l.counts m + 1) (l.counts m) (eq-eqb m m refl) ∙ ap (λ (n : ℕ). n + 1) h.counted;
    objects = object_after;
    apart = apart_after;
  }
