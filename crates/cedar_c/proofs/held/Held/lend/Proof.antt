-- `lend` follows the pointer.
use Rattle.std.proofs.Common.{◌≡◌, ℕ, List, [], ◌∷◌, refl, sym, ap, ◌∙◌}
use Rattle.std.specs.Prelude.{IsSome, Some}
use seplogic.Ra.Ura.{Ura}
use mir.Syntax.{named}
use mir.Raw.{raw as bare}
use mir.Val.{Val, vptr}
use base.Fraction.{full_share}
use base.Logic.{SProp, ent, sep, emp, id⊢, fst∗, never}
use base.Fml.{Fml, GName, ftrue, fsep, flft}
use types.Logic.{Logic, sem}
use types.Kit.{‵, raw, ◌⊛◌, some, later, at_ret, ◌$◌, ◌∵◌, !, qed, by, move, keep, drop, use0, use1, split, split3, join, pick, fsplit, fsplit3, fjoin, fpack, rewrite, group, await, done}
use types.Run.{stop, fld, load, addr, of_opd, first, blocks, exec, returns, enter}
use types.ByLocal.{alloc_all, pass_all, free_all, look_at, get, through, sets, sets_last, env}
use types.Part.{sub, whole, look_in}
use contract.Running.{tables}
use contract.Monad.{fact, fact_i}
use denote.Builtin.{RefMutOf}
use denote.Exit.{no}
use denote.Follow.{Part, follows, lends_Part}
use denote.Memory.{lone, part_at, part_of, mem, cell_at}
use denote.RattleType.{owns}
use denote.RawPtr.{Ptr, block_ptr, null_ptr, in_a_block}
use denote.Ref.{MutBor, MutRef, mut_vals, mut_Tells}
use denote.Signature.{types_at, plain}
use denote.Steps.{nothing, heard, opens}
use denote.Triple.Walked.{Stays, stay_dropped, walk_of, Goes-dropped}
use Rattle.core.proofs.atomic.Steps.{tail}
use Rattle.std.proofs.raw_atomic.Walks.{proved, leaves}
use Rattle.either_layout.specs.declared.any.AnyCedar.{AnyCedar}
use Rattle.cedar_c.specs.Lending.{with_cedar}
use Rattle.cedar_c.specs.Ownership.{cedar_row, held_owns, may_free}
use Rattle.cedar_c.proofs.HeldValues.{Held, held_word, held_out, held_in, value_in, is_value_in, box_of}
use Rattle.std_alloc.specs.Box.Ownership.{box_owns}
use Rattle.cedar_c.specs.contracts.held.Held.lend.{ended, clauses}
use Rattle.cedar_c.specs.contracts.held.Held.lend.Key.{name as #self}
use Rattle.cedar_c.proofs.held.Held.lend.Statement.{statement}
use Rattle.cedar_c.proofs.held.Held.lend.Code as code

module _ (rb ro b o : ℕ) where
  -- all of the pointer but the dictionary
  abbrev rest : Fml
  rest = fsep (may_free (bare (lone cedar_row.mir)) (block_ptr b o)) (cell_at full_share Held.mir (held_word (block_ptr b o) ∷ []) rb ro)

put_back : {M : Type 1} {𝓤 : Ura M} (𝓛 : Logic 𝓤) (d : Held.Denot) (rb ro b o : ℕ) → d.at ≡ block_ptr b o → (a : AnyCedar)
    → ent 𝓤 (sep 𝓤 (sem 𝓛 ((mem cedar_row).own_at a b o)) (sem 𝓛 (rest rb ro b o))) (sem 𝓛 ((mem Held).own_at (with_cedar d a) rb ro))
unfolding part_of
put_back 𝓛 d rb ro b o e a =
    qed 𝓛 (‵ (part_at cedar_row full_share a b o) ∷ ‵ (rest rb ro b o) ∷ []) ∵ move ! (1 ∷ []) $ fsplit ! $ move ! (2 ∷ 0 ∷ []) $ fjoin ! $
    rewrite ! 0 (λ (p : Ptr). ‵ (held_owns p (Some a))) (sym e) refl $ rewrite ! 1 (λ (p : Ptr). ‵ (cell_at full_share Held.mir (held_word p ∷ []) rb ro)) (sym e) refl $
    held_in ! d.at (Some a) $ move ! (1 ∷ 0 ∷ []) $ fjoin ! $
    fpack ! (List Val) (λ us. fsep (cell_at full_share Held.mir us rb ro) (Held.own_val (with_cedar d a) us)) (held_word d.at ∷ []) $ done !

pub lend_spec : {M : Type 1} → statement M
lend_spec 𝓤 𝓛 𝓜 𝓡 wired =
    let H = 𝓛.H in let 𝓣 = tables 𝓤 H 𝓜 𝓡 𝓡.env in let c = clauses 𝓛 𝓜.mem 𝓡.returns in let fn = code.function in
    let self = RefMutOf (0 ∷ []) tt (plain (λ _. Held)) (λ _. tt) in let hs : Stays ended.signature.params ended.kept = (stay_dropped self no, tt) in
    proved 𝓛 ended hs c 𝓜 𝓡 (Goes-dropped 𝓛 1 self no (λ κs x f. refl), tt) #self fn (code.unfolded 𝓤 H 𝓜 𝓡 wired)
    (λ κs. (mut_vals, tt)) (λ κs. (mut_Tells (named 0) κs.0 Held, tt)) (λ κs qs bounds a gh are.
    let rb = a.0.ref_ptr.0 in let ro = a.0.ref_ptr.1 in let κ = κs.0 in let q = qs.0 in let γ = a.0.ghost_name in let d = a.0.now in
    let y : (walk_of 𝓛 ended hs c).Ghost = ((κs, qs, bounds, a, (vptr rb ro ∷ [], tt)), gh) in let Post : Val → SProp 𝓤 = (walk_of 𝓛 ended hs c).post y in
    qed 𝓛 (((‵ (flft κ q) ⊛ ‵ ftrue) ⊛ ‵ (owns (types_at ended.signature.params κs) a y.0.4)) ∷ raw ((c κs a).requires gh) ∷ []) ∵
    move ! (1 ∷ []) $ heard ! (IsSome d.value) (λ held. let x : AnyCedar = value_in d.value held in split ! $
    enter ! 𝓣.C 𝓣.Λ fn (vptr rb ro ∷ []) Post $ alloc_all ! (λ l. pass_all ! refl ((tt, tt), tt) $ let Ev = env fn.locals l in
    move ! (1 ∷ []) $ fsplit ! $ fsplit3 ! $ drop ! $ move ! (3 ∷ []) $ split ! $ move ! (2 ∷ 3 ∷ 0 ∷ []) $
    opens ! tt Held {h = d} rb ro (λ vs. move ! (1 ∷ []) $ held_out ! d vs (λ is. use1 𝓛 (‵ (box_owns may_free cedar_row d.at x)) (box_of 𝓛 d.at d.value held) $
    in_a_block ! d.at (λ p. box_owns may_free cedar_row p x) (fst∗ 𝓤 (never 𝓤) (sem 𝓛 (may_free (bare (lone cedar_row.mir)) null_ptr))) (λ b o e. fsplit ! $
    rewrite ! 2 (λ (us : List Val). ‵ (cell_at full_share Held.mir us rb ro)) (is ∙ ap (λ (p : Ptr). held_word p ∷ []) e) refl $
    first ! $ blocks ! $
    sets ! (of_opd ! (load ! (through ! refl (fld ! refl (stop !))) (look_in ! 2 (sub ! 0 refl (whole !))))) refl (tt, tt) $
    sets ! (of_opd ! (get ! refl)) refl (tt, tt) $
    sets_last ! (addr ! (through ! refl (stop !))) refl (tt, tt) $
    exec ! 𝓣.C 𝓣.Λ Ev (tail fn.body) (at_ret Ev Post) $
    sets ! (of_opd ! (get ! refl)) refl (tt, tt) $
    -- [the dictionary; the right to free it; the word; the open borrow; its two halves]
    let Rest : Fml = rest rb ro b o in let back = put_back 𝓛 d rb ro b o e in
    move ! (1 ∷ 2 ∷ []) $ fjoin ! $ move ! (2 ∷ 3 ∷ 4 ∷ 1 ∷ 0 ∷ []) $ group ! 5 $
    use1 𝓛 (later (some (λ (γ' : GName). raw (Part 𝓛 Held cedar_row (with_cedar d) (named 0) κ q rb ro b o γ (sem 𝓛 Rest) back x γ'))))
    (lends_Part 𝓛 Held cedar_row (with_cedar d) (named 0) κ q rb ro b o γ (sem 𝓛 Rest) back (Held.coded.code d) (Held.coded.code d) x) $ await ! tt $ pick ! (λ γ'.
    let lent : MutBor AnyCedar = record { ref_ptr = (b, o); ghost_name = γ'; now = x } in
    use1 𝓛 (‵ ((MutRef (named 0) κ cedar_row).own_val lent (vptr b o ∷ [])) ⊛ ‵ (flft κ q) ⊛ ‵ (follows Held cedar_row γ γ' (with_cedar d))) (id⊢ 𝓤 _) $
    split3 ! $ nothing ! $ move ! (2 ∷ 0 ∷ []) $ join ! $ use0 𝓛 (raw (fact 𝓤 (d.value ≡ Some x))) (fact_i 𝓤 (d.value ≡ Some x) (emp 𝓤) (is_value_in d.value held)) $
    move ! (3 ∷ 0 ∷ []) $ join ! $ nothing ! $ nothing ! $ fjoin ! $
    returns ! (look_at ! 0 refl) $ free_all ! refl $ keep ! (2 ∷ 0 ∷ 3 ∷ 1 ∷ []) $
    by ! (leaves 𝓛 ended hs c y (vptr b o) lent (tt, tt) (tt, tt)))))))))
