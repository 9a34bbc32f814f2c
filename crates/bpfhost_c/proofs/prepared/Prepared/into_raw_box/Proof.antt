-- `into_raw_box` tests the pointer and moves it, with the memory that it owns.
use Rattle.std.proofs.Common.{List, [], ◌∷◌, ◌++◌, refl, sym, ap, ◌∙◌, subst, lit<}
use mir.Val.{Val, vptr, vcons, vnil}
use base.Logic.{SProp, ent, id⊢}
use base.Fml.{ftrue}
use prog.Wp.{WpFn}
use types.Match.{live}
use types.Kit.{at_ret, ‵, raw, ◌⊛◌, ◌$◌, ◌∵◌, !, qed, keep, drop, split, join, fsplit, fjoin, suffices, use0, use1, done}
use types.Run.{stop, fld, lit, of_opd, bin, no_more, and_then, first, branches, skips, exec, returns, returns_within, enter}
use types.ByLocal.{alloc_all, pass_all, free_all, look_at, get, get_in, sets, env}
use types.Part.{agg, sub, whole}
use contract.Running.{tables}
use denote.Exit.{yes}
use denote.RattleType.{RattleType, owns}
use denote.Signature.{types_at, type_at, plain}
use denote.RawPtr.{Ptr, block_ptr, null_ptr, ptr_val, tests_null}
use denote.Steps.{nothing}
use denote.Triple.Walked.{Stays, stay_dropped, walk_of, Goes-dropped, says, ends_at}
use Rattle.std.specs.Prelude.{Some, None}
use Rattle.core.proofs.option.Made.{Some-of, none_of}
use Rattle.core.proofs.alloc.Shapes.{after}
use Rattle.std_alloc.proofs.ResultValues.{and_tt}
use Rattle.core.proofs.cell.Inside.{Good}
use denote.Param.{layout}
use Rattle.std.proofs.raw_atomic.Walks.{proved_at}
use Rattle.std_heap.specs.contracts.Global as heap
use Rattle.std_heap.specs.contracts.GlobalAllocator.TheImpl.{ghosts}
use Rattle.std_heap.proofs.Global.TheLaws as heap_laws
use Rattle.std.specs.Box.Ownership.{box_owns}
use Rattle.verifier.specs.contracts.verified.Verified as program
use Rattle.bpfhost_c.specs.contracts.raw_box.RawBox as raw_box
use Rattle.bpfhost_c.specs.contracts.prepared.Prepared as prepared
use Rattle.bpfhost_c.proofs.Values.{both, raw_box_good, raw_box_in, null_good}
use Rattle.bpfhost_c.proofs.ProgramValues.{prepared_out, prepared_either}
use Rattle.bpfhost_c.specs.contracts.prepared.Prepared.into_raw_box.{ended, clauses}
use Rattle.bpfhost_c.specs.contracts.prepared.Prepared.into_raw_box.Key.{name as #self}
use Rattle.bpfhost_c.proofs.prepared.Prepared.into_raw_box.Statement.{statement}
use Rattle.bpfhost_c.proofs.prepared.Prepared.into_raw_box.Code as code

-- the code of `into_raw_box` meets its contract: the raw box has the program, or neither has one
pub into_raw_box_spec : {M : Type 1} → statement M
into_raw_box_spec 𝓤 𝓛 𝓜 𝓡 wired =
    let H = 𝓛.H in
    let 𝓣 = tables 𝓤 H 𝓜 𝓡 𝓡.env in
    let R = program.the_row in
    let Z = heap.the_row in
    let LZ = heap_laws.the_row_laws in
    let c = clauses 𝓛 𝓜.mem 𝓡.returns in
    let From = plain (λ _. prepared.the_row) in
    let hs : Stays ended.signature.params ended.kept = (stay_dropped From yes, tt) in
    let Lr = raw_box.the_row R Z ghosts in
    proved_at 𝓛 ended hs c 𝓜 𝓡 (Goes-dropped 𝓛 0 From yes (λ κs x f. refl), tt) #self code.function
    (code.unfolded 𝓤 H 𝓜 𝓡 wired) (λ z are.
    let κs = z.0.0 in
    let v = z.0.3.0 in
    let Post : Val → SProp 𝓤 = (walk_of 𝓛 ended hs c).post z in
    let Run : List Val → SProp 𝓤 = λ ws. WpFn 𝓤 H 𝓣.C 𝓣.Λ code.function ws Post in
    let Out : RattleType = type_at ended.signature.result κs in
    qed 𝓛
    ((‵ ftrue ⊛ ‵ (owns (types_at ended.signature.params κs) z.0.3 z.0.4))
    ∷ raw ((c κs z.0.3).requires z.1)
    ∷ [])
    ∵ split ! $ drop ! $ fsplit ! $ prepared_out ! v z.0.4.0 (λ h ws fits.
    keep ! (0 ∷ 1 ∷ []) $ prepared_either ! v.alloc v.at v.program
    (λ at_null is_none. let w : Val = both (ptr_val null_ptr) h in
    suffices ! (Run (w ∷ []))
    (subst (λ (us : List Val). ent 𝓤 (Run (w ∷ [])) (Run us))
    (sym (λ i. (ws ∙ ap (λ (p : Ptr). both (ptr_val p) h ∷ []) at_null) i ++ []))
    (id⊢ 𝓤 (Run (w ∷ [])))) $
    enter ! 𝓣.C 𝓣.Λ code.function (w ∷ []) Post $ alloc_all ! (λ l. pass_all ! refl (null_good h fits, tt) $
    sets ! (of_opd ! (get_in ! (fld ! refl (stop !)) (sub ! 0 refl (whole !)))) refl (tt, record { fits = lit< tt }) $
    sets ! (of_opd ! (get_in ! (fld ! refl (stop !)) (sub ! 1 refl (whole !)))) refl fits $
    sets ! (bin ! (get ! refl) (lit ! tt) tt) refl (tt, tt) $ first ! $ branches ! (get ! refl)
    (λ _. sets ! (agg ! (and_then ! (lit ! tt) (no_more !))) refl (tt, (record { fits = lit< tt }, tt)) $
    returns_within ! ((walk_of 𝓛 ended hs c).post z) refl (look_at ! 0 refl) $ free_all ! refl $ drop ! $
    use0 𝓛 (‵ (Out.own_val None (live 0 vnil ∷ []))) (none_of 𝓛 Lr) $
    suffices ! _ (ends_at 𝓛 ended hs c z (live 0 vnil) None (tt, tt) (tt, tt)) $ says ! (sym is_none) $
    nothing ! $ nothing ! $ fjoin ! $ join ! $ nothing ! $ join ! $ done !)
    (λ wrong. absurd wrong)))
    (λ b o x at_block is_some t. let w : Val = both (vptr b o) h in let typed = raw_box_good R Z LZ ghosts b o h fits in
    suffices ! (Run (w ∷ []))
    (subst (λ (us : List Val). ent 𝓤 (Run (w ∷ [])) (Run us))
    (sym (λ i. (ws ∙ ap (λ (p : Ptr). both (ptr_val p) h ∷ []) at_block) i ++ []))
    (id⊢ 𝓤 (Run (w ∷ [])))) $
    enter ! 𝓣.C 𝓣.Λ code.function (w ∷ []) Post $ alloc_all ! (λ l. pass_all ! refl (typed, tt) $
    let made : Val = both (vptr b o) h in
    let v₁ : Val = live 1 (vcons made vnil) in
    let d : Lr.Denot = record { at = block_ptr b o; alloc = v.alloc; value = x } in
    let good : Good (layout Out) v₁ = (and_tt _ typed.0, (record { fits = lit< tt }, (typed.1, tt))) in
    sets ! (of_opd ! (get_in ! (fld ! refl (stop !)) (sub ! 0 refl (whole !)))) refl (tt, tt) $
    sets ! (of_opd ! (get_in ! (fld ! refl (stop !)) (sub ! 1 refl (whole !)))) refl fits $
    sets ! (bin ! (get ! refl) (lit ! tt) (tests_null (block_ptr b o) t)) refl (tt, tt) $
    first ! $
    branches ! (get ! refl)
    (λ wrong. absurd wrong)
    (λ _. skips ! $ exec ! 𝓣.C 𝓣.Λ (env (code.function).locals l) (after 4 (code.function).body) (at_ret _ Post) $
    sets ! (of_opd ! (get ! refl)) refl (tt, tt) $
    sets ! (agg ! (and_then ! (get ! refl) (and_then ! (get ! refl) (no_more !)))) refl typed $
    sets ! (agg ! (and_then ! (lit ! tt) (and_then ! (get ! refl) (no_more !)))) refl good $
    returns ! (look_at ! 0 refl) $ free_all ! refl $
    use1 𝓛 (‵ (box_owns (ghosts.dealloc_token v.alloc) R (block_ptr b o) x)) (id⊢ 𝓤 _) $
    raw_box_in R Z LZ ghosts ! b o h v.alloc x $
    use1 𝓛 (‵ (Out.own_val (Some d) (v₁ ∷ []))) (Some-of 𝓛 Lr d made) $
    suffices ! _ (ends_at 𝓛 ended hs c z v₁ (Some d) (tt, tt) (tt, tt)) $ says ! (sym is_some) $
    nothing ! $ nothing ! $ fjoin ! $ join ! $ nothing ! $ join ! $ done !)))))
