-- `see` lends the pointer's own place, as the type that lends the scanner.
use Rattle.std.proofs.Common.{◌≡◌, ℕ, List, [], ◌∷◌, refl}
use seplogic.Ra.Ura.{Ura}
use mir.Syntax.{named}
use mir.Val.{Val, vptr}
use base.Fraction.{full_share}
use base.Logic.{SProp, ent, sep, emp, id⊢}
use base.Fml.{GName, ftrue, fsep, flft}
use types.Logic.{Logic, sem}
use types.Kit.{‵, raw, ◌⊛◌, some, later, at_ret, ◌$◌, ◌∵◌, !, qed, by, move, keep, drop, use0, use1, split, split3, join, pick, fsplit, fsplit3, fjoin, fpick, fpack, group, await, done}
use types.Run.{stop, addr, of_opd, first, blocks, exec, returns, enter}
use types.ByLocal.{alloc_all, pass_all, free_all, look_at, get, through, sets, sets_last, env}
use contract.Running.{tables}
use contract.Monad.{fact, fact_i}
use denote.Builtin.{RefMutOf}
use denote.Exit.{no}
use denote.Follow.{Part, follows, lends_Part}
use denote.Memory.{part_at, part_of, mem, cell_at}
use denote.RattleType.{RattleType, owns}
use denote.Ref.{MutBor, MutRef, mut_vals, mut_Tells}
use denote.Signature.{types_at, plain}
use denote.Steps.{nothing, opens}
use denote.Triple.Walked.{Stays, stay_dropped, walk_of, Goes-dropped}
use Rattle.core.proofs.atomic.Steps.{tail}
use Rattle.std.proofs.raw_atomic.Walks.{proved, leaves}
use Rattle.cedar_c.specs.ScannerLending.{as_shown_scanner}
use Rattle.cedar_c.specs.contracts.shown_scanner.ShownScanner as shown
use Rattle.cedar_c.specs.contracts.shown_scanner.SeenScanner as seen
use Rattle.cedar_c.specs.contracts.shown_scanner.ShownScanner.see.{ended, clauses}
use Rattle.cedar_c.specs.contracts.shown_scanner.ShownScanner.see.Key.{name as #self}
use Rattle.cedar_c.proofs.shown_scanner.ShownScanner.see.Statement.{statement}
use Rattle.cedar_c.proofs.shown_scanner.ShownScanner.see.Code as code

abbrev Shown : RattleType
Shown = shown.the_row

abbrev Seen : RattleType
Seen = seen.the_row

abbrev as_seen : Shown.Denot → Seen.Denot
as_seen d = record { at = d.at; value = d.value; life = d.life }

put_back : {M : Type 1} {𝓤 : Ura M} (𝓛 : Logic 𝓤) (rb ro : ℕ) (w : Seen.Denot)
    → ent 𝓤 (sep 𝓤 (sem 𝓛 ((mem Seen).own_at w rb ro)) (sem 𝓛 ftrue)) (sem 𝓛 ((mem Shown).own_at (as_shown_scanner w) rb ro))
unfolding part_of
put_back 𝓛 rb ro w =
    qed 𝓛 (‵ (part_at Seen full_share w rb ro) ∷ ‵ ftrue ∷ []) ∵ move ! (1 ∷ []) $ drop ! $ fpick ! (λ vs.
    fpack ! (List Val) (λ us. fsep (cell_at full_share Shown.mir us rb ro) (Shown.own_val (as_shown_scanner w) us)) vs $ done !)

taken_as : {M : Type 1} {𝓤 : Ura M} (𝓛 : Logic 𝓤) (rb ro : ℕ) (d : Shown.Denot) (vs : List Val)
    → ent 𝓤 (sem 𝓛 (fsep (cell_at full_share Shown.mir vs rb ro) (Shown.own_val d vs))) (sem 𝓛 ((mem Seen).own_at (as_seen d) rb ro))
unfolding part_of
taken_as 𝓛 rb ro d vs =
    qed 𝓛 (‵ (fsep (cell_at full_share Shown.mir vs rb ro) (Shown.own_val d vs)) ∷ []) ∵
    fpack ! (List Val) (λ us. fsep (cell_at full_share Seen.mir us rb ro) (Seen.own_val (as_seen d) us)) vs $ done !

pub see_spec : {M : Type 1} → statement M
see_spec 𝓤 𝓛 𝓜 𝓡 wired =
    let H = 𝓛.H in let 𝓣 = tables 𝓤 H 𝓜 𝓡 𝓡.env in let c = clauses 𝓛 𝓜.mem 𝓡.returns in let fn = code.function in
    let self = RefMutOf (0 ∷ []) tt (plain (λ _. Shown)) (λ _. tt) in let hs : Stays ended.signature.params ended.kept = (stay_dropped self no, tt) in
    proved 𝓛 ended hs c 𝓜 𝓡 (Goes-dropped 𝓛 1 self no (λ κs x f. refl), tt) #self fn (code.unfolded 𝓤 H 𝓜 𝓡 wired)
    (λ κs. (mut_vals, tt)) (λ κs. (mut_Tells (named 0) κs.0 Shown, tt)) (λ κs qs bounds a gh are.
    let rb = a.0.ref_ptr.0 in let ro = a.0.ref_ptr.1 in let κ = κs.0 in let q = qs.0 in let γ = a.0.ghost_name in let d = a.0.now in let x : Seen.Denot = as_seen d in
    let y : (walk_of 𝓛 ended hs c).Ghost = ((κs, qs, bounds, a, (vptr rb ro ∷ [], tt)), gh) in let Post : Val → SProp 𝓤 = (walk_of 𝓛 ended hs c).post y in
    qed 𝓛 (((‵ (flft κ q) ⊛ ‵ ftrue) ⊛ ‵ (owns (types_at ended.signature.params κs) a y.0.4)) ∷ raw ((c κs a).requires gh) ∷ []) ∵ keep ! (0 ∷ []) $ split ! $
    enter ! 𝓣.C 𝓣.Λ fn (vptr rb ro ∷ []) Post $ alloc_all ! (λ l. pass_all ! refl ((tt, tt), tt) $ let Ev = env fn.locals l in
    move ! (1 ∷ []) $ fsplit ! $ fsplit3 ! $ drop ! $ move ! (3 ∷ []) $ split ! $ move ! (2 ∷ 3 ∷ 0 ∷ []) $
    opens ! tt Shown {h = d} rb ro (λ vs. fjoin ! $ use1 𝓛 (‵ ((mem Seen).own_at x rb ro)) (taken_as 𝓛 rb ro d vs) $
    first ! $ blocks ! $
    sets ! (addr ! (through ! refl (stop !))) refl (tt, tt) $
    sets_last ! (addr ! (through ! refl (stop !))) refl (tt, tt) $
    exec ! 𝓣.C 𝓣.Λ Ev (tail fn.body) (at_ret Ev Post) $
    sets ! (of_opd ! (get ! refl)) refl (tt, tt) $
    -- [nothing; the same place; the open borrow; its two halves]
    let back = put_back 𝓛 rb ro in
    nothing ! $ move ! (2 ∷ 3 ∷ 4 ∷ 1 ∷ 0 ∷ []) $ group ! 5 $
    use1 𝓛 (later (some (λ (γ' : GName). raw (Part 𝓛 Shown Seen as_shown_scanner (named 0) κ q rb ro rb ro γ (sem 𝓛 ftrue) back x γ'))))
    (lends_Part 𝓛 Shown Seen as_shown_scanner (named 0) κ q rb ro rb ro γ (sem 𝓛 ftrue) back (Shown.coded.code d) (Shown.coded.code d) x) $ await ! tt $ pick ! (λ γ'.
    let lent : MutBor Seen.Denot = record { ref_ptr = (rb, ro); ghost_name = γ'; now = x } in
    use1 𝓛 (‵ ((MutRef (named 0) κ Seen).own_val lent (vptr rb ro ∷ [])) ⊛ ‵ (flft κ q) ⊛ ‵ (follows Shown Seen γ γ' as_shown_scanner)) (id⊢ 𝓤 _) $
    split3 ! $ nothing ! $ move ! (2 ∷ 0 ∷ []) $ join ! $ use0 𝓛 (raw (fact 𝓤 (d ≡ as_shown_scanner x))) (fact_i 𝓤 (d ≡ as_shown_scanner x) (emp 𝓤) refl) $
    move ! (3 ∷ 0 ∷ []) $ join ! $ nothing ! $ nothing ! $ fjoin ! $
    returns ! (look_at ! 0 refl) $ free_all ! refl $ keep ! (2 ∷ 0 ∷ 3 ∷ 1 ∷ []) $
    by ! (leaves 𝓛 ended hs c y (vptr rb ro) lent (tt, tt) (tt, tt))))))
