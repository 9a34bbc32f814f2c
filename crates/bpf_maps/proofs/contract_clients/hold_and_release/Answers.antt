-- `hold_and_release`: the held map keeps its keys and values, since `hold` changes no table and the reference that `release` drops is not
-- the last; each other map keeps its own by the contracts of both calls.
use Rattle.std.proofs.Common.{◌≡◌, ◌≢◌, ℕ, ◌<◌, subst, sym, ◌∙◌, arith}
use Rattle.bpf_maps.specs.Live.{references_at, KeepsMap}
use Rattle.bpf_maps.proofs.Slots.{same_or_other}
use Rattle.bpf_maps.proofs.Called.{keeps, others_stay}
use Rattle.bpf_maps.proofs.contract_clients.hold_and_release.Goals as goal

pub returns : goal.returns
returns c = λ k live.
    let old = c.args.maps.now in
    let part = c.args.part.now in
    let held = c.hold.new.self in
    let along = c.live_maps_refine_values.ensures in
    let more : 1 < references_at held c.args.map =
    let holds = c.hold.ensures.holds in let some = c.requires.held in omega arith in
    let one : KeepsMap c.args.map old part c.release.new.self c.release.new.part = λ was.
    let (still, same) =
    keeps along part old held c.args.map c.hold.ensures.areas c.hold.ensures.live c.hold.ensures.keys was in
    let (there, kept) = c.release.ensures.kept more still in
    (there, kept ∙ same) in
    same_or_other k c.args.map
    (λ (e : k ≡ c.args.map).
    subst (λ (j : ℕ). KeepsMap j old part c.release.new.self c.release.new.part) (sym e) one live)
    (λ (other : k ≢ c.args.map).
    let (still, same) =
    others_stay along part old held c.args.map c.hold.ensures.areas c.hold.ensures.live k
    (c.hold.ensures.others k other) live in
    let (there, kept) = c.release.ensures.maps k other still in
    (there, kept ∙ same))
