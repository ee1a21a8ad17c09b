-- `dictionary` reads the pointer through the `&`, and follows it.
use Rattle.std.proofs.Common.{◌≡◌, ℕ, ◌+◌, List, [], ◌∷◌, refl}
use Rattle.std.specs.Prelude.{IsSome, Some}
use seplogic.Ra.Ura.{Ura}
use mir.Syntax.{named}
use mir.Val.{Val, vptr}
use base.Logic.{SProp, ent, sep, emp}
use base.Fml.{Lft, ftrue, flft, fhide}
use types.Logic.{Logic, sem}
use types.Kit.{‵, raw, ◌⊛◌, at_ret, ◌$◌, ◌∵◌, !, qed, by, move, keep, drop, done, use0, use1, split, join, fsplit, fjoin, feq_i}
use types.Run.{look, stop, fld, load, addr, of_opd, first, blocks, exec, returns, enter}
use types.ByLocal.{alloc_all, pass_all, free_all, look_at, get, through, sets, sets_last, env}
use contract.Running.{tables}
use contract.Monad.{fact, fact_i}
use denote.Builtin.{RefOf, RawPtr}
use denote.Exit.{yes}
use denote.Memory.{hidden_shr}
use denote.Opens.{shr_dup, unhide, hide}
use denote.RattleType.{RattleType, RowLaws, owns}
use denote.RawPtr.{InBlock, block_of, count_of, ptr_row_laws}
use denote.Ref.{shr_vals, shr_Tells}
use denote.Signature.{types_at, plain}
use denote.Steps.{nothing, heard}
use denote.Struct.Lending.{lent_at, lent_out, in_block_says}
use denote.Struct.Owning.{shape, to}
use denote.Struct.Struct.{Struct, Struct-row_laws}
use denote.Triple.Walked.{Stays, stay_dropped, walk_of, Goes-dropped}
use Rattle.core.proofs.atomic.Steps.{tail}
use Rattle.std_alloc.proofs.Words.{pointer_in, pointer_out}
use Rattle.std.proofs.raw_atomic.Walks.{proved, leaves}
use Rattle.either_layout.specs.declared.any.AnyCedar.{AnyCedar}
use Rattle.cedar_c.specs.Ownership.{cedar_row, held_lends}
use Rattle.cedar_c.specs.contracts.shown.Seen as seen
use Rattle.cedar_c.proofs.HeldValues.{value_in, is_value_in, dictionary_of}
use Rattle.cedar_c.specs.contracts.shown.Seen.dictionary.{ended, clauses}
use Rattle.cedar_c.specs.contracts.shown.Seen.dictionary.Key.{name as #self}
use Rattle.cedar_c.proofs.shown.Seen.dictionary.Statement.{statement}
use Rattle.cedar_c.proofs.shown.Seen.dictionary.Code as code

abbrev Seen : RattleType
Seen = seen.the_row

abbrev Word : RattleType
Word = Struct (shape seen.the_type)

word_laws : RowLaws Word
word_laws = Struct-row_laws (shape seen.the_type) (ptr_row_laws, tt)

-- the struct's one field
pointer_of : {M : Type 1} {𝓤 : Ura M} (𝓛 : Logic 𝓤) (κ : Lft) (b o : ℕ) (d : Seen.Denot)
    → ent 𝓤 (sem 𝓛 (hidden_shr Word κ (to seen.the_type d) b o)) (sep 𝓤 (sem 𝓛 (hidden_shr RawPtr κ d.at b (o + 0))) (sem 𝓛 (hidden_shr Word κ (to seen.the_type d) b o)))
pointer_of 𝓛 κ b o d =
    qed 𝓛 (‵ (hidden_shr Word κ (to seen.the_type d) b o) ∷ []) ∵ shr_dup ! Word word_laws (to seen.the_type d) b o κ $ unhide ! $ fsplit ! $ fsplit ! $ hide ! $ keep ! (0 ∷ 3 ∷ []) $ done !

pub dictionary_spec : {M : Type 1} → statement M
dictionary_spec 𝓤 𝓛 𝓜 𝓡 wired =
    let H = 𝓛.H in let 𝓣 = tables 𝓤 H 𝓜 𝓡 𝓡.env in let c = clauses 𝓛 𝓜.mem 𝓡.returns in let fn = code.function in
    let self = RefOf (0 ∷ []) tt (plain (λ _. Seen)) (λ _. tt) in let hs : Stays ended.signature.params ended.kept = (stay_dropped self yes, tt) in
    proved 𝓛 ended hs c 𝓜 𝓡 (Goes-dropped 𝓛 1 self yes (λ κs x f. refl), tt) #self fn (code.unfolded 𝓤 H 𝓜 𝓡 wired)
    (λ κs. (shr_vals, tt)) (λ κs. (shr_Tells (named 0) κs.0 Seen, tt)) (λ κs qs bounds a gh are.
    let b = a.0.ref_ptr.0 in let o = a.0.ref_ptr.1 in let κ = κs.0 in let q = qs.0 in let d = a.0.now in
    let y : (walk_of 𝓛 ended hs c).Ghost = ((κs, qs, bounds, a, (vptr b o ∷ [], tt)), gh) in let Post : Val → SProp 𝓤 = (walk_of 𝓛 ended hs c).post y in
    let there : Val = vptr (block_of d.at) (count_of d.at) in
    qed 𝓛 (((‵ (flft κ q) ⊛ ‵ ftrue) ⊛ ‵ (owns (types_at ended.signature.params κs) a y.0.4)) ∷ raw ((c κs a).requires gh) ∷ []) ∵
    move ! (1 ∷ []) $ heard ! (IsSome d.value) (λ some. let x : AnyCedar = value_in d.value some in let Known : Type 0 = d.value ≡ Some x in split ! $
    enter ! 𝓣.C 𝓣.Λ fn (vptr b o ∷ []) Post $ alloc_all ! (λ l. pass_all ! refl ((tt, tt), tt) $ let Ev = env fn.locals l in
    move ! (1 ∷ []) $ fsplit ! $ fsplit ! $ drop ! $
    use1 𝓛 (‵ (hidden_shr Word κ (to seen.the_type d) b o) ⊛ ‵ (fhide (held_lends d.at d.value κ))) (lent_out 𝓛 seen.struct seen.the_codes seen.the_heap seen.the_lent κ d b o) $
    split ! $ move ! (1 ∷ []) $ unhide ! $ use1 𝓛 (‵ (lent_at cedar_row d.at x κ)) (dictionary_of 𝓛 d.at d.value some κ) $ fsplit ! $
    use1 𝓛 (raw (fact 𝓤 (InBlock d.at))) (in_block_says 𝓛 d.at) $ heard ! (InBlock d.at) (λ inb. hide ! $
    -- [the dictionary; the word; nothing; the tokens]
    move ! (3 ∷ []) $ split ! $ move ! (3 ∷ 0 ∷ []) $
    pointer_in ! tt d.at inb b (o + 0) (pointer_of 𝓛 κ b o d) (λ q'.
    first ! $ blocks ! $
    sets ! (of_opd ! (load ! (through ! refl (fld ! refl (stop !))) (look ! 1 refl))) refl (tt, tt) $
    sets ! (of_opd ! (get ! refl)) refl (tt, tt) $
    sets_last ! (addr ! (through ! refl (stop !))) refl (tt, tt) $
    exec ! 𝓣.C 𝓣.Λ Ev (tail fn.body) (at_ret Ev Post) $
    sets ! (of_opd ! (get ! refl)) refl (tt, tt) $
    pointer_out ! tt d.at inb b (o + 0) $
    -- [the token; the word; nothing; the dictionary]
    move ! (0 ∷ 2 ∷ []) $ join ! $ move ! (2 ∷ []) $ feq_i ! (List Val) (there ∷ []) (there ∷ []) refl $ fjoin ! $
    use0 𝓛 (raw (fact 𝓤 Known)) (fact_i 𝓤 Known (emp 𝓤) (is_value_in d.value some)) $ nothing ! $ nothing ! $ fjoin ! $
    returns ! (look_at ! 0 refl) $ free_all ! refl $ keep ! (3 ∷ 0 ∷ 2 ∷ 1 ∷ []) $
    by ! (leaves 𝓛 ended hs c y there (record { ref_ptr = (block_of d.at, count_of d.at); now = x }) (tt, tt) (tt, tt)))))))
