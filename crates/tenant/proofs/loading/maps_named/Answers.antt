-- `maps_named`: the result has the handles of the maps that the descriptors name. One more descriptor adds its handle at the end, or
-- nothing if it names no map, by the contracts of `map_named` and `push`.
use Rattle.std.proofs.Common.{◌≡◌, ℕ, ◌+◌, List, ◌++◌, take, get_or, Vec, Global, Option, Some, refl, sym, ap, ◌∙◌}
use Rattle.std.proofs.lemmas.List.{append-nil, map-append}
use Rattle.fd_table.specs.Table.{named}
use Rattle.tenant.specs.Machine.{handles_from}
use Rattle.tenant.proofs.LoadingHandles.{seconds, handle_at, listed, listed_at, handles_more, handles_none}
use Rattle.tenant.proofs.loading.maps_named.Goals as goal
use Rattle.tenant.proofs.loading.maps_named.Goals.{in-Some+in_ok-push, in_default}

pub loop-fd-init : goal.loop-fd-init
loop-fd-init c = c.new-found.ensures.items ∙ sym (ap seconds (handles_none c.args.objects.now))

pub loop-fd-preserved : goal.loop-fd-preserved
loop-fd-preserved c =
    let objects = c.args.objects.now in
    let fds = c.args.fds.now in
    let i = c.loop-fd.fd-index in
    let fd = get_or fds i 0 in
    let before = handles_from objects (take i fds) in
    let so_far = c.loop-fd.invariant in
    let more : handles_from objects (take (i + 1) fds) ≡ before ++ handle_at (named objects fd) fd =
    handles_more objects fds i fd c.loop-fd-test.true refl in
    let seen : listed c.map_named.result fd ≡ handle_at (named objects fd) fd =
    ap (λ (o : Option ℕ). listed o fd) c.map_named.ensures ∙ sym (listed_at (named objects fd) fd) in
    let all : seconds (before ++ listed c.map_named.result fd) ≡ seconds (handles_from objects (take (i + 1) fds)) =
    ap (λ (ms : List (ℕ × ℕ)). seconds (before ++ ms)) seen ∙ ap seconds (sym more) in
    elim c.match-map_named.branch [
      | in-Some+in_ok-push w ↦
          ap (λ (v : Vec ℕ Global). v.items) w.found-is ∙ w.in_ok-push.ensures.items
          ∙ ap (λ (ps : List ℕ). ps ++ seconds (listed (Some w.in-Some.map) fd)) so_far
          ∙ sym (map-append (λ m. m.1) before (listed (Some w.in-Some.map) fd))
          ∙ ap (λ (o : Option ℕ). seconds (before ++ listed o fd)) (sym w.in-Some.is) ∙ all
      | in_default w ↦
          ap (λ (v : Vec ℕ Global). v.items) w.found-is ∙ so_far ∙ ap seconds (sym (append-nil before))
          ∙ ap (λ (o : Option ℕ). seconds (before ++ listed o fd)) (sym w.in_default.is) ∙ all
    ]
