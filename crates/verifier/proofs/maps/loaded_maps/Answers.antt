-- `loaded_maps`: by induction over the slots the list is that of the instructions so far, as `add_at` appends the descriptor of a load, and
-- a slot without a load changes nothing. If no descriptor is open, the program loads no map, as its shape has no fault.
use Rattle.std.proofs.Common.{◌+◌, arith, List, ℕ, sym, ap, subst, ◌∙◌}
use Rattle.tagged_model.specs.Cells.{and_then}
use Rattle.insn_set.specs.declared.insn.Insn.{Insn}
use Rattle.tagged_model.specs.declared.shape.Named.{Named}
use Rattle.insn_set.specs.Program.{begun_below, begins_at}
use Rattle.insn_set.specs.Flow.{descriptor}
use Rattle.verifier.specs.Maps.{maps_of}
use Rattle.verifier.specs.inside.Descriptors.{with_descriptor}
use Rattle.verifier.specs.Shape.{structure_fault}
use Rattle.verifier.specs.Verdict.{HasNoFault}
use Rattle.verifier.proofs.Loads.{no_names, none_named, none_loaded, loaded_at, loaded_silent}
use Rattle.verifier.proofs.maps.loaded_maps.Goals.{then-names_map+in_ok-add_at, else-names_map}
use Rattle.verifier.proofs.maps.loaded_maps.Goals as goal

pub loop-slot-init : goal.loop-slot-init
loop-slot-init c = c.new-maps.ensures.items ∙ sym none_loaded ∙ ap maps_of (sym c.insns_in_order.ensures.start)

pub loop-slot-preserved : goal.loop-slot-preserved
loop-slot-preserved c =
    let is : List Insn = c.args.program.now in
    let slot = c.loop-slot.slot in
    let before : List Insn = begun_below is slot in
    let after : List Insn = begun_below is (slot + 1) in
    let step = c.insns_in_order.ensures.step slot in
    elim c.if-names_map.branch [
      | then-names_map+in_ok-add_at w ↦
          ap (λ v. v.items) w.maps-is
          ∙ w.in_ok-add_at.ensures
          ∙ ap (λ (known : List ℕ). with_descriptor known (and_then (begins_at is slot) descriptor))
          c.loop-slot.invariant
          ∙ loaded_at before after (begins_at is slot) step
      | else-names_map w ↦
          ap (λ v. v.items) w.maps-is
          ∙ c.loop-slot.invariant
          ∙ loaded_silent before after c.code-code.result.now c.index-code-slot.result slot
          (begins_at is slot) step (c.code-code.ensures.insns slot)
          (omega arith) c.index-code-slot.is (sym c.names_map.ensures ∙ w.if-names_map.false)
    ]

pub returns-then-is_empty : goal.returns-then-is_empty
returns-then-is_empty c =
    let code = c.args.program.now in
    let none = no_names c.args.named.now (sym c.is_empty.ensures ∙ c.if-is_empty.true) in
    let fine = subst (λ (named : List Named). HasNoFault (structure_fault code named)) none c.requires in
    c.new-maps.ensures.items
    ∙ sym (none_named code fine c.insns_in_order.ensures.start c.insns_in_order.ensures.step
    c.insns_in_order.ensures.end)
