-- `make_and_release`: the release frees the handle and the bytes that `create` took, so each handle is free, and the sum of the areas is,
-- as before; an error of `create` changes neither. Maps that were live have other handles than the new one, and keep their keys and
-- values by the contracts of both calls.
use Rattle.std.proofs.Common.{◌≡◌, ◌≢◌, ℕ, ◌+◌, ◌≤◌, is_some, sym, ap, ◌∙◌, true≢false, arith}
use Rattle.std.specs.Prelude.{is_none, position}
use Rattle.bpf_maps.specs.Sum.{total}
use Rattle.bpf_maps.specs.KeyTable.{KeyTable}
use Rattle.bpf_maps.specs.Live.{live_at, references_at, area_of, areas, create_fault, IsCreated}
use Rattle.tagged_model.specs.Table.{shape_area}
use Rattle.bpf_maps.specs.LiveLaws.{same_free_handle}
use Rattle.bpf_maps.proofs.Slots.{same_or_other}
use Rattle.bpf_maps.proofs.Created.{created, maps_refused, same_fault}
use Rattle.bpf_maps.proofs.Stays.{some_held}
use Rattle.bpf_maps.proofs.contract_clients.make_and_release.Goals as goal

pub returns-in-Ok-clause-room : goal.returns-in-Ok-clause-room
returns-in-Ok-clause-room c =
    λ other.
    let old = c.args.maps.now in
    let mid = c.create.new.self in
    let new = c.release.new.self in
    let map = c.in-Ok.map in
    let made : IsCreated old c.args.shape map mid =
    created (create_fault old c.args.shape) old mid c.args.shape map c.in-Ok.ensures.created in
    let last : references_at mid map ≤ 1 = let one = made.holds in omega arith in
    let more : areas mid ≡ areas old + shape_area c.args.shape = c.in-Ok.ensures.more in
    let freed : areas mid ≡ areas new + shape_area c.args.shape =
    c.release.ensures.freed last ∙ ap (λ (t : KeyTable). areas new + shape_area t.shape) made.keys in
    let bytes : areas new ≡ areas old = omega arith in
    same_fault old new other
    (same_free_handle old new (c.maps_are_laid-in-Ok.ensures.maps ∙ sym c.maps_are_laid.ensures.maps)
    (λ k. same_or_other k map
    (λ (s : k ≡ map).
    ap (λ (i : ℕ). is_some (live_at new i)) s
    ∙ ap is_some (c.release.ensures.gone last ∙ sym made.was)
    ∙ ap (λ (i : ℕ). is_some (live_at old i)) (sym s))
    (λ (ne : k ≢ map).
    sym (some_held (live_at new k))
    ∙ ap is_some (c.release.ensures.others k ne)
    ∙ some_held (live_at mid k)
    ∙ ap is_some (made.others k ne))))
    bytes

pub returns-in_default-clause-room : goal.returns-in_default-clause-room
returns-in_default-clause-room c =
    λ other.
    let old = c.args.maps.now in
    let mid = c.create.new.self in
    let same : mid.maps ≡ old.maps =
    maps_refused (create_fault old c.args.shape) old mid c.args.shape _ c.in_default.ensures.created in
    same_fault old mid other (ap (position is_none) same) (ap (total area_of) same)

pub returns-in-Ok-clause-maps : goal.returns-in-Ok-clause-maps
returns-in-Ok-clause-maps c =
    λ k live.
    let made =
    created (create_fault c.args.maps.now c.args.shape) c.args.maps.now c.create.new.self
    c.args.shape c.in-Ok.map c.in-Ok.ensures.created in
    let other : k ≢ c.in-Ok.map =
    λ e. true≢false (sym live ∙ ap (λ (j : ℕ). is_some (live_at c.args.maps.now j)) e ∙ ap is_some made.was) in
    let (still, same) = c.create.ensures.maps k live in
    let (there, kept) = c.release.ensures.maps k other still in
    (there, kept ∙ same)
