-- A layout with more objects.
use Rattle.std.proofs.Common.{◌≡◌, ◌≢◌, ℕ, ◌+◌, ◌≤◌, ◌==◌, ◌&&◌, pos, ◌+ℤ◌, if◌then◌else◌, List, eq-eqb, refl, sym, ap, subst, ◌∙◌, ⊎_elim, arith}
use Rattle.std.proofs.lemmas.Bool.{cond_both, cond-true, cond-false, eqb-true, and_parts, and_from, cases_Bool, ne_eqb}
use Rattle.tagged_model.specs.declared.value.Object.{Object}
use Rattle.tagged_model.specs.declared.value.Object.TheVariants as object
use Rattle.tagged_model.specs.declared.value.Tagged.{Tagged}
use Rattle.tagged_model.specs.declared.value.Tagged.TheVariants.{Scalar, Map, Pointer}
use Rattle.tagged_model.specs.Cells.{Cell}
use Rattle.tagged_model.specs.State.{RunMap, set_at}
use Rattle.bpf_maps.specs.Live.{LiveMaps}
use Rattle.bpf_helpers.specs.Layout.{Layout, address, HasAddress, IsWord, HasCell}
use Rattle.bpf_helpers.specs.Stands.{HasMap, stored_maps}
use Rattle.bpf_helpers.specs.Calls.{Extends}
use Rattle.bpf_helpers.specs.States.{Environment}

-- each layout has the same objects as itself, at the same addresses
pub extends_itself : (l : Layout) → Extends l l
extends_itself l = record { front = refl; more = λ k. omega arith; same = λ k number lt. refl }

module _ (l m : Layout) (e : Extends l m) where
  placed_more : (o : Object) → HasAddress l o → (HasAddress m o) × (address m o ≡ address l o)
  placed_more object.Stack h = (tt, e.front)
  placed_more object.Context h = (tt, e.front)
  placed_more (object.Value k number) h = (let more = e.more k in omega arith, e.same k number h)

  -- a word represents the same value in a layout with more objects
  pub word_more : (env : Environment) (v : Tagged) (w : ℕ) → IsWord env l v w → IsWord env m v w
  word_more env (Scalar n) w h = h
  word_more env (Map k) w h = h
  word_more env (Pointer o x) w h =
      let p = placed_more o h.2 in (subst (λ (a : ℕ). pos w ≡ pos a +ℤ x) (sym p.1) h.0, h.1, p.0)

  -- the memory has the same cell in a layout with more objects
  pub cell_more : (env : Environment) (memory : List ℕ) (offset : ℕ) (c : Cell)
      → HasCell env l memory offset c → HasCell env m memory offset c
  cell_more env memory offset c h = record { present = h.present; whole = λ v k. word_more env v _ (h.whole v k) }

-- object `l.counts m` of map m is at this address
abbrev pub extended : Layout → ℕ → ℕ → Layout
extended l m a = record {
  front = l.front;
  object_at = λ k number. if (k == m) && (number == l.counts m) then a else l.object_at k number;
  counts = set_at l.counts m (l.counts m + 1);
}

module _ (l : Layout) (m a : ℕ) where
  extended_counts : (k : ℕ) → l.counts k ≤ set_at l.counts m (l.counts m + 1) k
  extended_counts k =
      cond_both (k == m) (l.counts m + 1) (l.counts k) (λ n. l.counts k ≤ n)
      (λ b. let same = ap l.counts (eqb-true k m b) in omega arith)
      (λ _. omega arith)

  -- a new object does not change the address of any other object
  pub extended_same : (k number : ℕ)
      → (k ≡ m → number ≡ l.counts m → ⊥)
      → (extended l m a).object_at k number ≡ l.object_at k number
  extended_same k number other =
      cond-false ((k == m) && (number == l.counts m)) a (l.object_at k number)
      (⊎_elim (λ t.
      absurd (let h = and_parts (k == m) (number == l.counts m) t in
      other (eqb-true k m h.0) (eqb-true number (l.counts m) h.1)))
      (λ f. f) (cases_Bool ((k == m) && (number == l.counts m))))

  -- the new object is at its given address
  pub extended_here : (extended l m a).object_at m (l.counts m) ≡ a
  extended_here =
      cond-true ((m == m) && (l.counts m == l.counts m)) a (l.object_at m (l.counts m))
      (and_from (m == m) (l.counts m == l.counts m) (eq-eqb m m refl) (eq-eqb (l.counts m) (l.counts m) refl))

  -- a layout with a new object has all objects of the layout before, at the same addresses
  pub extends : Extends l (extended l m a)
  extends = record {
    front = refl;
    more = extended_counts;
    same = λ k number lt. extended_same k number (λ e f. let same = ap l.counts e in omega arith);
  }

-- in a layout with a new object of one map, a live map represents another map as before
pub map_extended : (l : Layout) (start : ℕ) (memory : List ℕ) (tenant : LiveMaps) (m a key n : ℕ)
    (u : RunMap)
    → n ≢ m
    → HasMap l (stored_maps start memory tenant) key n u
    → HasMap (extended l m a) (stored_maps start memory tenant) key n u
map_extended l start memory tenant m a key n u differ h = record {
  live = h.live;
  element = h.element;
  table = h.table;
  owns = h.owns;
  counted = cond-false (n == m) (l.counts m + 1) (l.counts n) (ne_eqb n m differ) ∙ h.counted;
  objects = λ number lt.
      let o = h.objects number lt in
      record {
        within = o.within;
        in_use = o.in_use;
        address = extended_same l m a n number (λ e _. differ e) ∙ o.address;
        bytes = o.bytes;
      };
  apart = h.apart;
}
