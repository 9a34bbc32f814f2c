-- `empty` owns nothing.
use Rattle.std.proofs.Common.{List, [], ◌∷◌, ◌++◌, refl, sym, subst}
use mir.Val.{Val}
use base.Logic.{SProp, ent, id⊢}
use base.Fml.{ftrue}
use prog.Wp.{WpFn}
use types.Kit.{‵, raw, ◌⊛◌, ◌$◌, ◌∵◌, !, qed, keep, drop, split, join, fsplit, fjoin, suffices, use1, done}
use types.Run.{lit, no_more, and_then, returns, enter}
use types.ByLocal.{alloc_all, pass_all, free_all, look_at, get, sets}
use types.Part.{agg}
use contract.Running.{tables}
use denote.Exit.{yes}
use denote.RattleType.{owns}
use denote.Signature.{types_at, plain}
use denote.RawPtr.{null_ptr, ptr_val}
use denote.Steps.{nothing}
use denote.Triple.Walked.{Stays, stay_dropped, walk_of, Goes-dropped, says, ends_at}
use Rattle.std.specs.Prelude.{None}
use Rattle.std.proofs.raw_atomic.Walks.{proved_at}
use Rattle.std_heap.specs.contracts.Global as heap
use Rattle.std_heap.proofs.Global.TheLaws as heap_laws
use Rattle.bpfhost_c.specs.Owned.{handle_owns}
use Rattle.core.proofs.alloc.Calls.{handle_tells as word_of}
use Rattle.std_heap.specs.contracts.GlobalAllocator.TheImpl.{ghosts}
use Rattle.bpfhost_c.proofs.Values.{al, both, handle_in, null_good}
use Rattle.bpfhost_c.specs.contracts.handle.Handle.empty.{ended, clauses}
use Rattle.bpfhost_c.specs.contracts.handle.Handle.empty.Key.{name as #self}
use Rattle.bpfhost_c.proofs.handle.Handle.empty.Statement.{statement}
use Rattle.bpfhost_c.proofs.handle.Handle.empty.Code as code

-- the code of `empty` meets its contract: the handle that it makes has no session
pub empty_spec : {M : Type 1} → statement M
empty_spec 𝓤 𝓛 𝓜 𝓡 wired =
    let H = 𝓛.H in
    let 𝓣 = tables 𝓤 H 𝓜 𝓡 𝓡.env in
    let Z = heap.the_row in
    let LZ = heap_laws.the_row_laws in
    let c = clauses 𝓛 𝓜.mem 𝓡.returns in
    let From = plain (λ _. Z) in let hs : Stays ended.signature.params ended.kept = (stay_dropped From yes, tt) in
    proved_at 𝓛 ended hs c 𝓜 𝓡 (Goes-dropped 𝓛 0 From yes (λ κs x f. refl), tt) #self code.function
    (code.unfolded 𝓤 H 𝓜 𝓡 wired) (λ z are.
    let κs = z.0.0 in
    let a = z.0.3.0 in
    let Post : Val → SProp 𝓤 = (walk_of 𝓛 ended hs c).post z in
    let Run : List Val → SProp 𝓤 = λ ws. WpFn 𝓤 H 𝓣.C 𝓣.Λ code.function ws Post in
    qed 𝓛
    ((‵ ftrue ⊛ ‵ (owns (types_at ended.signature.params κs) z.0.3 z.0.4))
    ∷ raw ((c κs z.0.3).requires z.1)
    ∷ [])
    ∵ split ! $ drop ! $ fsplit ! $ word_of (al Z Z LZ ghosts) ! a z.0.4.0 (λ h ea fits.
    let w : Val = both (ptr_val null_ptr) h in let typed = null_good h fits in
    keep ! (0 ∷ []) $
    suffices ! (Run (h ∷ []))
    (subst (λ (us : List Val). ent 𝓤 (Run (h ∷ [])) (Run us)) (sym (λ i. ea i ++ [])) (id⊢ 𝓤 (Run (h ∷ [])))) $
    enter ! 𝓣.C 𝓣.Λ code.function (h ∷ []) Post $ alloc_all ! (λ l. pass_all ! refl (fits, tt) $
    sets ! (agg ! (and_then ! (lit ! tt) (and_then ! (get ! refl) (no_more !)))) refl typed $
    returns ! (look_at ! 0 refl) $ free_all ! refl $
    nothing ! $ use1 𝓛 (‵ (handle_owns a null_ptr None)) (id⊢ 𝓤 _) $ handle_in ! null_ptr h a None $
    suffices ! _ (ends_at 𝓛 ended hs c z w (record { at = null_ptr; alloc = a; session = None }) (tt, tt) (tt, tt)) $
    says ! refl $
    nothing ! $ nothing ! $ fjoin ! $ join ! $ nothing ! $ join ! $ done !)))
