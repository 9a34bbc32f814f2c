-- `make_again`: the release frees the map's handle and the bytes of its area, so the new map finds a handle and room (`no_fault`), and
-- `create`, which takes the lowest free handle, takes this one or a lower one.
use Rattle.std.proofs.Common.{◌≡◌, ◌+◌, ◌<◌, ◌≤◌, length, sym, ap, ◌∙◌, arith}
use Rattle.bpf_maps.specs.declared.part.TheConstants.{LARGEST_SUM}
use Rattle.bpf_maps.specs.Live.{areas, create_fault}
use Rattle.tagged_model.specs.Table.{shape_area}
use Rattle.bpf_maps.specs.LiveLaws.{live_within, some_handle_free}
use Rattle.bpf_maps.proofs.Created.{no_fault, not_full, made_low}
use Rattle.bpf_maps.proofs.contract_clients.make_again.Goals as goal

pub returns-clause-room : goal.returns-clause-room
returns-clause-room c =
    let mid = c.release.new.self in
    let within = live_within c.args.map c.args.maps.now c.requires.live in
    let long = c.maps_are_laid.ensures.maps in
    let still = c.maps_are_laid-2.ensures.maps in
    let below : c.args.map < length mid.maps = omega arith in
    let freed : areas c.args.maps.now ≡ areas mid + shape_area c.shape-shape.result =
    c.release.ensures.freed c.requires.last ∙ ap (λ s. areas mid + shape_area s) (sym c.shape-shape.ensures) in
    let most = c.maps_are_laid.ensures.bytes in
    let fits : areas mid + shape_area c.shape-shape.result ≤ LARGEST_SUM = omega arith in
    not_full mid c.create.new.self c.shape-shape.result c.create.result
    (no_fault mid c.shape-shape.result
    (some_handle_free c.args.map mid below (c.release.ensures.gone c.requires.last))
    fits)
    c.create.ensures.created

pub returns-clause-lowest : goal.returns-clause-lowest
returns-clause-lowest c =
    made_low (create_fault c.release.new.self c.shape-shape.result) c.release.new.self
    c.create.new.self c.shape-shape.result c.args.map c.create.result
    (c.release.ensures.gone c.requires.last) c.create.ensures.created
