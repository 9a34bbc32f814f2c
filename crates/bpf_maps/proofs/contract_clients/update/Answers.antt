-- `update`: a rejected claim leaves the table unchanged, and so the keys and values. After a claim the value is written at its element, so
-- the map gets it for the key by the law `live_maps_refine_values`, and the others keep theirs by `values_are_written`.
use Rattle.std.proofs.Common.{◌≡◌, ℕ, ◌+◌, ◌-◌, List, ◌++◌, length, take, drop, sym, ap, subst, ◌∙◌}
use Rattle.tagged_model.specs.declared.shape.MapShape.{MapShape}
use Rattle.bpf_maps.specs.Live.{map_in, KeepsMap}
use Rattle.bpf_maps.specs.InPart.{IsValueAt, with_value}
use Rattle.bpf_maps.proofs.Called.{on_err, copied_is, not_claimed, keeps, others_stay, keeps_written}
use Rattle.bpf_maps.proofs.contract_clients.update.Goals as goal

pub returns-in_err-element-clause-refused : goal.returns-in_err-element-clause-refused
returns-in_err-element-clause-refused c =
    on_err c.from_residual.result
    (keeps c.live_maps_refine_values.ensures c.args.part.now c.args.maps.now c.claim.new.self
    c.args.map c.claim.ensures.rest.areas c.claim.ensures.rest.live
    (not_claimed _ c.args.key.now _ _ _ c.in_err-element.ensures.claimed))

module _ (c : goal.After-slice_known-2-1) where
  is_value : IsValueAt c.args.part.now c.claim.new.self c.args.map c.in_ok-element.element c.args.value.now
  is_value = record {
    whole = c.requires.part;
    laid = c.maps_are_laid.ensures.laid;
    sound = c.maps_are_laid.ensures.sound;
    live = c.claim.ensures.rest.live;
    within = c.in_ok-element.ensures.within;
    size = c.requires.value ∙ ap (λ (s : MapShape). s.value_size) (sym c.claim.ensures.rest.shape);
  }

  abbrev after : List ℕ
  after =
      take c.value_at-start.result c.args.part.now
      ++ (c.copy_from_slice.new.self
      ++ drop (c.value_at-start.result + length c.args.value.now - c.value_at-start.result)
      (drop c.value_at-start.result c.args.part.now))

  written : after ≡ with_value c.args.part.now c.claim.new.self c.args.map c.in_ok-element.element c.args.value.now
  written =
      copied_is c.args.part.now c.copy_from_slice.new.self c.args.value.now c.value_at-start.result
      _ c.copy_from_slice.ensures.after c.value_at-start.ensures.offset

pub returns-clause-done : goal.returns-clause-done
returns-clause-done c =
    ap (λ (part : List ℕ). map_in part c.claim.new.self c.args.map) (written c)
    ∙ (c.live_maps_refine_values.ensures c.args.part.now c.args.maps.now c.claim.new.self c.args.map
    c.claim.ensures.rest.areas c.claim.ensures.rest.live).update
    c.args.flags c.in_ok-element.element c.args.key.now
    c.args.value.now (is_value c) c.in_ok-element.ensures.claimed

pub returns-clause-others : goal.returns-clause-others
returns-clause-others c = λ other differ.
    subst (λ (part : List ℕ). KeepsMap other c.args.maps.now c.args.part.now c.claim.new.self part) (sym (written c))
    (keeps_written c.values_are_written.ensures c.args.part.now c.args.maps.now c.claim.new.self
    c.args.map c.in_ok-element.element c.args.value.now
    other (is_value c) differ
    (others_stay c.live_maps_refine_values.ensures c.args.part.now c.args.maps.now c.claim.new.self
    c.args.map c.claim.ensures.rest.areas c.claim.ensures.rest.live
    other (c.claim.ensures.rest.others other differ)))
