-- `from_raw_box` moves the pointer and the allocator, with the memory that they own.
use Rattle.std.proofs.Common.{List, [], ◌∷◌, ◌++◌, refl, sym, subst}
use mir.Val.{Val, vptr}
use base.Logic.{SProp, ent, id⊢}
use base.Fml.{ftrue}
use prog.Wp.{WpFn}
use types.Kit.{‵, raw, ◌⊛◌, ◌$◌, ◌∵◌, !, qed, keep, drop, split, join, fsplit, fjoin, suffices, use1, done}
use types.Run.{stop, fld, of_opd, no_more, and_then, returns, enter}
use types.ByLocal.{alloc_all, pass_all, free_all, look_at, get, get_in, sets}
use types.Part.{agg, sub, whole}
use contract.Running.{tables}
use denote.Exit.{yes}
use denote.RattleType.{owns}
use denote.Signature.{types_at, plain}
use denote.RawPtr.{block_ptr}
use denote.Steps.{nothing}
use denote.Triple.Walked.{Stays, stay_dropped, walk_of, Goes-dropped, says, ends_at}
use Rattle.std.specs.Prelude.{Some}
use Rattle.std.proofs.raw_atomic.Walks.{proved_at}
use Rattle.std_heap.specs.contracts.Global as heap
use Rattle.std_heap.specs.contracts.GlobalAllocator.TheImpl.{ghosts}
use Rattle.std_heap.proofs.Global.TheLaws as heap_laws
use Rattle.bpfhost_c.specs.OwnedProgram.{prepared_owns}
use Rattle.verifier.specs.contracts.verified.Verified as program
use Rattle.bpfhost_c.specs.contracts.raw_box.RawBox as raw_box
use Rattle.bpfhost_c.proofs.Values.{both, raw_box_good, raw_box_out}
use Rattle.bpfhost_c.proofs.ProgramValues.{prepared_in}
use Rattle.bpfhost_c.specs.contracts.prepared.Prepared.from_raw_box.{ended, clauses}
use Rattle.bpfhost_c.specs.contracts.prepared.Prepared.from_raw_box.Key.{name as #self}
use Rattle.bpfhost_c.proofs.prepared.Prepared.from_raw_box.Statement.{statement}
use Rattle.bpfhost_c.proofs.prepared.Prepared.from_raw_box.Code as code

-- the code of `from_raw_box` meets its contract: the handle has the program of the raw box
pub from_raw_box_spec : {M : Type 1} → statement M
from_raw_box_spec 𝓤 𝓛 𝓜 𝓡 wired =
    let H = 𝓛.H in
    let 𝓣 = tables 𝓤 H 𝓜 𝓡 𝓡.env in
    let R = program.the_row in
    let Z = heap.the_row in
    let LZ = heap_laws.the_row_laws in
    let c = clauses 𝓛 𝓜.mem 𝓡.returns in
    let From = plain (λ _. raw_box.the_row R Z ghosts) in
    let hs : Stays ended.signature.params ended.kept = (stay_dropped From yes, tt) in
    proved_at 𝓛 ended hs c 𝓜 𝓡 (Goes-dropped 𝓛 0 From yes (λ κs x f. refl), tt) #self code.function
    (code.unfolded 𝓤 H 𝓜 𝓡 wired) (λ z are.
    let κs = z.0.0 in
    let v = z.0.3.0 in
    let Post : Val → SProp 𝓤 = (walk_of 𝓛 ended hs c).post z in
    let Run : List Val → SProp 𝓤 = λ ws. WpFn 𝓤 H 𝓣.C 𝓣.Λ code.function ws Post in
    qed 𝓛
    ((‵ ftrue ⊛ ‵ (owns (types_at ended.signature.params κs) z.0.3 z.0.4))
    ∷ raw ((c κs z.0.3).requires z.1)
    ∷ [])
    ∵ split ! $ drop ! $ fsplit ! $ raw_box_out R Z LZ ghosts ! v z.0.4.0 (λ b o h e ws fits.
    let w : Val = both (vptr b o) h in let typed = raw_box_good R Z LZ ghosts b o h fits in
    keep ! (0 ∷ 1 ∷ []) $
    suffices ! (Run (w ∷ []))
    (subst (λ (us : List Val). ent 𝓤 (Run (w ∷ [])) (Run us)) (sym (λ i. ws i ++ [])) (id⊢ 𝓤 (Run (w ∷ [])))) $
    enter ! 𝓣.C 𝓣.Λ code.function (w ∷ []) Post $ alloc_all ! (λ l. pass_all ! refl (typed, tt) $
    sets ! (of_opd ! (get_in ! (fld ! refl (stop !)) (sub ! 0 refl (whole !)))) refl (tt, tt) $
    sets ! (of_opd ! (get_in ! (fld ! refl (stop !)) (sub ! 1 refl (whole !)))) refl fits $
    sets ! (of_opd ! (get ! refl)) refl (tt, tt) $
    sets ! (agg ! (and_then ! (get ! refl) (and_then ! (get ! refl) (no_more !)))) refl typed $
    returns ! (look_at ! 0 refl) $ free_all ! refl $
    use1 𝓛 (‵ (prepared_owns v.alloc (block_ptr b o) (Some v.value))) (id⊢ 𝓤 _) $
    prepared_in ! (block_ptr b o) h v.alloc (Some v.value) $
    suffices ! _
    (ends_at 𝓛 ended hs c z w
    (record { at = block_ptr b o; alloc = v.alloc; program = Some v.value })
    (tt, tt) (tt, tt)) $
    says ! refl $
    nothing ! $ nothing ! $ fjoin ! $ join ! $ nothing ! $ join ! $ done !)))
