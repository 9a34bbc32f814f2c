-- `close_gap`: each turn corrects the start of one handle's map by `close_up`, or changes nothing if the handle has no key. The other
-- handles have other keys, so their maps are unchanged. A handle of `MAPS` or more has no map.
use Rattle.std.proofs.Common.{◌≡◌, ◌≢◌, ℕ, ◌+◌, List, get_or, Option, Some, None, option_map, inl, inr, refl, sym, ap, subst, ◌∙◌, arith}
use Rattle.std.proofs.lemmas.Bool.{cases_lt}
use Rattle.std.proofs.lemmas.List.{get_or_past}
use Rattle.slab.specs.Slab.{Slab, get, with_value}
use Rattle.bpf_maps.specs.declared.part.TheConstants.{MAPS}
use Rattle.bpf_maps.specs.declared.stored_map.StoredMap.{StoredMap}
use Rattle.bpf_maps.specs.InMaps.{by_handle, closed_up}
use Rattle.bpf_maps.proofs.Slots.{same_or_other}
use Rattle.bpf_maps.proofs.ByHandle.{no_value, under_key, no_key, by_handle_len, changed_here, changed_others, changed_keys}
use Rattle.bpf_maps.proofs.stored_map.close_gap.Invariants.{IsClosing}
use Rattle.bpf_maps.proofs.stored_map.close_gap.Goals.{in-Some, in_default}
use Rattle.bpf_maps.proofs.stored_map.close_gap.Goals as goal

module _ (end size handle : ℕ) (keys : List (Option ℕ)) (old mid : Slab StoredMap)
    (h : IsClosing end size handle keys old mid) where
  -- the handle has no key
  nothing_closes : get_or keys handle None ≡ None → IsClosing end size (handle + 1) keys old mid
  nothing_closes none = record {
    are_keys = h.are_keys;
    capacity = h.capacity;
    closes = record {
      done = λ k l. same_or_other k handle
          (λ (s : k ≡ handle).
          ap (λ (i : ℕ). get_or (by_handle keys mid) i None) s
          ∙ no_key mid keys handle none
          ∙ sym (ap (option_map (closed_up end size))
          (ap (λ (i : ℕ). get_or (by_handle keys old) i None) s ∙ no_key old keys handle none)))
          (λ (ne : k ≢ handle). h.closes.done k (omega arith));
      left = λ k l. h.closes.left k (omega arith);
    };
  }

  -- the handle has a key
  module _ (key : ℕ) (at : get_or keys handle None ≡ Some key) (e : StoredMap) (here : get mid key ≡ Some e) where
    abbrev lower : StoredMap
    lower = closed_up end size e

    there : get_or (by_handle keys (with_value mid key lower)) handle None ≡ Some lower
    there = changed_here keys mid h.are_keys handle key at e lower here

    others : (k : ℕ)
        → k ≢ handle
        → get_or (by_handle keys (with_value mid key lower)) k None ≡ get_or (by_handle keys mid) k None
    others = changed_others keys mid h.are_keys handle key at e lower here

    map_closes : IsClosing end size (handle + 1) keys old (with_value mid key lower)
    map_closes = record {
      are_keys = changed_keys keys mid h.are_keys handle key at e lower here;
      capacity = h.capacity;
      closes = record {
        done = λ k l. same_or_other k handle
            (λ (s : k ≡ handle).
            ap (λ (i : ℕ). get_or (by_handle keys (with_value mid key lower)) i None) s
            ∙ there
            ∙ sym (ap (option_map (closed_up end size))
            (ap (λ (i : ℕ). get_or (by_handle keys old) i None) s
            ∙ sym (h.closes.left handle (omega arith))
            ∙ under_key mid keys handle key at
            ∙ here)))
            (λ (ne : k ≢ handle). others k ne ∙ h.closes.done k (omega arith));
        left = λ k l. others k (λ s. absurd (omega arith)) ∙ h.closes.left k (omega arith);
      };
    }

pub loop-handle-init : goal.loop-handle-init
loop-handle-init c = record {
  are_keys = c.requires.keys;
  capacity = refl;
  closes = record { done = λ k l. absurd (omega arith); left = λ k l. refl };
}

pub loop-handle-preserved : goal.loop-handle-preserved
loop-handle-preserved c =
    let h = c.loop-handle.invariant in
    let end = c.args.end in
    let size = c.args.size in
    let handle = c.loop-handle.handle in
    let keys = c.args.keys.now in
    let old = c.args.maps.now in
    let mid = c.loop-handle.maps in
    elim c.match-get.branch [
      | in-Some w ↦
          subst (λ (s : Slab StoredMap). IsClosing end size (handle + 1) keys old s)
          (sym (w.maps-is ∙ ap (with_value mid w.in-Some.key) w.close_up.ensures))
          (map_closes end size handle keys old mid h w.in-Some.key
          (sym c.get.ensures ∙ w.in-Some.is) w.index_mut.result.now
          w.index_mut.ensures.value)
      | in_default w ↦
          subst (λ (s : Slab StoredMap). IsClosing end size (handle + 1) keys old s) (sym w.maps-is)
          (nothing_closes end size handle keys old mid h (sym c.get.ensures ∙ no_value _ w.in_default.not-Some))
    ]

pub returns-clause-each : goal.returns-clause-each
returns-clause-each c = λ k. elim (cases_lt k MAPS) [
  | inl lt ↦ c.loop-handle.invariant.closes.done k (omega arith)
  | inr past ↦
      let none : get_or (by_handle c.args.keys.now c.args.maps.now) k None ≡ None =
      get_or_past (by_handle c.args.keys.now c.args.maps.now) k None
      (let long = by_handle_len c.args.keys.now c.args.maps.now c.requires.keys in omega arith) in
      c.loop-handle.invariant.closes.left k (omega arith)
      ∙ none
      ∙ sym (ap (option_map (closed_up c.args.end c.args.size)) none)
]
