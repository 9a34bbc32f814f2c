-- `look_up` of `Tenant`: the reply is the machine's, for a key of another size, an absent one (`find`), and a present one, whose value
-- begins at `value_at`; the law `calls_refine_values` gives the state's value by the element.
use Rattle.std.proofs.Common.{◌≡◌, ℕ, ◌+◌, ◌-◌, List, length, take, drop, None, sym, ap, ap₂, subst, ◌∙◌, arith}
use Rattle.bpf_maps.specs.Live.{shape_at, value_in}
use Rattle.tagged_model.specs.Table.{look_up}
use Rattle.tagged_model.specs.declared.shape.MapShape.{MapShape}
use Rattle.tenant.specs.Kept.{KeptTenant, state_in}
use Rattle.tenant.specs.Machine.{gives, gives_or_no_entry, element_looked_up}
use Rattle.tenant.proofs.LookUps.{on_map_is, has_size, other_size, found_at}
use Rattle.tenant.proofs.Named.{map_in_state}
use Rattle.tenant.proofs.StillKept.{kept_in}
use Rattle.tenant.proofs.tenant.Tenant.look_up.Goals as goal

pub returns-in_default-clause-answer : goal.returns-in_default-clause-answer
returns-in_default-clause-answer c =
    let key = c.args.key.now in
    let part = c.args.part.now in
    subst (λ (k : KeptTenant). gives_or_no_entry (state_in part k) None ≡ element_looked_up (state_in part k) c.args.fd key)
    c.self.view_is
    (found_at c.calls_refine_values.ensures.bytes part key (map_in_state c.self.view_is c.in_ok-map.ensures.found)
    (c.if-key-shape.false ∙ ap (λ (s : MapShape). s.key_size) c.shape-shape.ensures)
    (sym c.in_default.is ∙ c.find.ensures.element))

pub returns-clause-answer : goal.returns-clause-answer
returns-clause-answer c =
    let key = c.args.key.now in
    let part = c.args.part.now in
    let start = c.value_at-start.result in
    let size = c.shape-shape.result.value_size in
    let n : (start + size) - start ≡ size = omega arith in
    let lent :
    take ((start + size) - start) (drop start part) ≡ value_in part c.self.inside.maps
    c.in_ok-map.map c.in-Some.element =
    ap₂ (λ (count from : ℕ). take count (drop from part))
    (n ∙ ap (λ (s : MapShape). s.value_size) c.shape-shape.ensures)
    c.value_at-start.ensures.offset in
    subst (λ (k : KeptTenant).
    gives (take ((start + size) - start) (drop start part)) (state_in part k)
    ≡ element_looked_up (state_in part k) c.args.fd key)
    c.self.view_is
    (ap (λ (bytes : List ℕ). gives bytes (state_in part (kept_in c.self.inside))) lent
    ∙ found_at c.calls_refine_values.ensures.bytes part key (map_in_state c.self.view_is c.in_ok-map.ensures.found)
    (c.if-key-shape.false ∙ ap (λ (s : MapShape). s.key_size) c.shape-shape.ensures)
    (sym c.in-Some.is ∙ c.find.ensures.element))

pub returns-then-key-shape-clause-answer : goal.returns-then-key-shape-clause-answer
returns-then-key-shape-clause-answer c =
    let k = c.args.self.now in
    let key = c.args.key.now in
    let shape : c.shape-shape.result ≡ shape_at k.live c.in_ok-map.map =
    c.shape-shape.ensures ∙ ap (λ (x : KeptTenant). shape_at x.live c.in_ok-map.map) c.self.view_is in
    sym (on_map_is c.args.part.now (has_size key)
    (λ p t. gives_or_no_entry (state_in c.args.part.now k) (look_up t key))
    c.in_ok-map.ensures.found
    (other_size (length key) c.if-key-shape.true (ap (λ (s : MapShape). s.key_size) shape)))
