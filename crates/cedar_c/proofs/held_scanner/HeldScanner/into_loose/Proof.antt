-- `into_loose` keeps the pointer too, and takes the handle that it is passed.
use Rattle.std.proofs.Common.{◌≡◌, List, [], ◌∷◌, ◌++◌, refl, sym, ap, ◌∙◌, subst}
use Rattle.std.specs.Prelude.{IsSome, Some}
use mir.Syntax.{impl, tnil, dnil}
use mir.Raw.{raw as bare}
use mir.Val.{Val, vptr}
use base.Logic.{SProp, ent, emp, id⊢, fst∗, never}
use prog.Wp.{WpFn}
use types.Logic.{sem}
use types.Kit.{‵, raw, ◌⊛◌, ◌$◌, ◌∵◌, !, qed, by, move, keep, use0, use1, split, fsplit, fjoin, suffices}
use types.Run.{stop, fld, of_opd, no_more, and_then, returns, enter}
use types.ByLocal.{alloc_all, pass_all, free_all, look_at, get, get_in, sets}
use types.Part.{agg, sub, whole}
use contract.Running.{tables}
use contract.Monad.{fact, fact_i}
use denote.Exit.{yes}
use denote.Memory.{lone}
use denote.RattleType.{RattleType, owns}
use denote.RawPtr.{Ptr, block_ptr, null_ptr, in_a_block}
use denote.Signature.{types_at, plain}
use denote.Steps.{nothing, heard}
use denote.Triple.Entry.{alive}
use denote.Triple.Walked.{Stays, stay_dropped, walk_of, Goes-dropped}
use Rattle.core.proofs.alloc.Calls.{Al, handle_tells}
use Rattle.std_alloc.specs.Box.Ownership.{box_owns}
use Rattle.std.proofs.raw_atomic.Walks.{proved_at, leaves}
use Rattle.std.proofs.alloc.Global.TheLaws.{the_row_laws}
use Rattle.std.specs.contracts.alloc.Global as global
use Rattle.std.specs.contracts.impls.GlobalAllocator.TheImpl.{ghosts}
use Rattle.cedar_c.specs.declared.any_scanner.AnyScanner.{AnyScanner}
use Rattle.cedar_c.specs.Ownership.{may_free}
use Rattle.cedar_c.specs.ScannerOwnership.{scanner_row}
use Rattle.cedar_c.proofs.HeldValues.{held_word, value_in, is_value_in}
use Rattle.cedar_c.proofs.HeldScannerValues.{Held, held_out, box_of}
use Rattle.cedar_c.proofs.LooseValues.{both, loose_good, loose_in}
use Rattle.cedar_c.specs.contracts.held_scanner.HeldScanner.into_loose.{ended, clauses}
use Rattle.cedar_c.specs.contracts.held_scanner.HeldScanner.into_loose.Key.{name as #self}
use Rattle.cedar_c.proofs.held_scanner.HeldScanner.into_loose.Statement.{statement}
use Rattle.cedar_c.proofs.held_scanner.HeldScanner.into_loose.Code as code

pub into_loose_spec : {M : Type 1} → statement M
into_loose_spec 𝓤 𝓛 𝓜 𝓡 wired =
    let H = 𝓛.H in let 𝓣 = tables 𝓤 H 𝓜 𝓡 𝓡.env in let c = clauses 𝓛 𝓜.mem 𝓡.returns in let fn = code.function in let Z : RattleType = global.the_row in
    let al : Al = record { row = Z; laws = the_row_laws; g = ghosts; d = impl [] tnil dnil; drops = impl [] tnil dnil } in
    let hs : Stays ended.signature.params ended.kept = (stay_dropped (plain (λ _. Held)) yes, (stay_dropped (plain (λ _. Z)) yes, tt)) in
    proved_at 𝓛 ended hs c 𝓜 𝓡 (Goes-dropped 𝓛 0 (plain (λ _. Held)) yes (λ κs x f. refl), (Goes-dropped 𝓛 0 (plain (λ _. Z)) yes (λ κs x f. refl), tt))
    #self fn (code.unfolded 𝓤 H 𝓜 𝓡 wired) (λ z are.
    let v = z.0.3.0 in let a = z.0.3.1.0 in let Post : Val → SProp 𝓤 = (walk_of 𝓛 ended hs c).post z in let Run : List Val → SProp 𝓤 = λ ws. WpFn 𝓤 H 𝓣.C 𝓣.Λ fn ws Post in
    qed 𝓛 ((raw (alive 𝓛 ended.signature z.0.0 z.0.1) ⊛ ‵ (owns (types_at ended.signature.params z.0.0) z.0.3 z.0.4)) ∷ raw ((c z.0.0 z.0.3).requires z.1) ∷ []) ∵
    move ! (1 ∷ []) $ heard ! (IsSome v.value) (λ some. let x : AnyScanner = value_in v.value some in
    split ! $ move ! (1 ∷ []) $ fsplit ! $ held_out ! v z.0.4.0 (λ held. use1 𝓛 (‵ (box_owns may_free scanner_row v.at x)) (box_of 𝓛 v.at v.value some) $
    in_a_block ! v.at (λ p. box_owns may_free scanner_row p x) (fst∗ 𝓤 (never 𝓤) (sem 𝓛 (may_free (bare (lone scanner_row.mir)) null_ptr))) (λ b o e.
    move ! (1 ∷ []) $ fsplit ! $ handle_tells al ! a z.0.4.1.0 (λ h eh fits. move ! (2 ∷ 0 ∷ []) $
    -- [the box; the handle; nothing; the tokens]
    let w : Val = held_word (block_ptr b o) in let is : z.0.4.0 ≡ w ∷ [] = held ∙ ap (λ (p : Ptr). held_word p ∷ []) e in
    let Known : Type 0 = v.value ≡ Some x in
    suffices ! (Run (w ∷ h ∷ [])) (subst (λ (us : List Val). ent 𝓤 (Run (w ∷ h ∷ [])) (Run us)) (sym (λ i. is i ++ (eh i ++ []))) (id⊢ 𝓤 (Run (w ∷ h ∷ [])))) $
    enter ! 𝓣.C 𝓣.Λ fn (w ∷ h ∷ []) Post $ alloc_all ! (λ l. pass_all ! refl ((tt, (tt, tt)), (fits, tt)) $
    sets ! (of_opd ! (get_in ! (fld ! refl (stop !)) (sub ! 0 refl (whole !)))) refl (tt, tt) $
    sets ! (of_opd ! (get ! refl)) refl (tt, tt) $
    sets ! (agg ! (and_then ! (get ! refl) (and_then ! (get ! refl) (no_more !)))) refl (loose_good scanner_row Z the_row_laws ghosts b o h fits) $
    loose_in scanner_row Z the_row_laws ghosts ! b o h a x $ use0 𝓛 (raw (fact 𝓤 Known)) (fact_i 𝓤 Known (emp 𝓤) (is_value_in v.value some)) $
    nothing ! $ nothing ! $ fjoin ! $ nothing ! $ fjoin ! $
    returns ! (look_at ! 0 refl) $ free_all ! refl $ keep ! (4 ∷ 0 ∷ 2 ∷ 1 ∷ []) $
    by ! (leaves 𝓛 ended hs c z (both (vptr b o) h) (record { at = block_ptr b o; alloc = a; value = x }) (tt, (tt, tt)) (tt, (tt, tt)))))))))
