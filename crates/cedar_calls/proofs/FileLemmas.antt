-- What was saved loads again.
use Rattle.std.proofs.Common.{◌≡◌, ℕ, List, [], ◌∷◌, ◌++◌, Option, Some, Ok, Err, ap, sym, subst, ◌∙◌}
use Rattle.std.specs.Borrow.{Bor}
use Rattle.std.specs.declared.result.Result.{Result}
use Rattle.cedarwood.specs.State.{State}
use Rattle.cedarwood.specs.WellFormed.{tree_of}
use Rattle.cedarwood.specs.Layouts.{LayoutKind}
use Rattle.cedarwood.specs.TableFields.{Fields}
use Rattle.cedarwood.specs.CedarPersistenceError.{CedarPersistenceError}
use Rattle.cedarwood.specs.Tables.{IsTableFile}
use Rattle.cedarwood.proofs.OneTable.{one_formed_table}
use Rattle.cedarwood.specs.Dictionary.{Dictionary}
use Rattle.cedarwood.specs.OnTable.{IsOnTable}
use Rattle.cedarwood.proofs.LoadLemmas.{loaded_saves_again}
use Rattle.cedar_calls.specs.Files.{SavesLoadAgain}
use Rattle.cedar_calls.specs.Making.{IsLoad, Joins}
use Rattle.cedar_replies.specs.declared.question.Question.TheVariants as question
use Rattle.cedar_replies.specs.declared.answer.Reply.{Reply}
use Rattle.cedar_replies.specs.declared.answer.Reply.TheVariants as reply

some_is : {X : Type 0} (x y : X) → ◌≡◌ {A = Option X} (Some x) (Some y) → x ≡ y
some_is x y h = cc

abbrev state_on : Fields → State
state_on T = record { tree = tree_of T; ordered = T.ordered }

-- two dictionaries that are kept in the table of the same bytes have one state
same_state : (slots v w : ℕ) (d e : Dictionary) (bytes : List ℕ) → IsOnTable slots d → IsTableFile v slots d.table bytes → IsOnTable slots e → IsTableFile w slots e.table bytes → e.state ≡ d.state
same_state slots v w d e bytes on file also loaded =
    let same = one_formed_table slots v w d.table e.table file.formed loaded.formed file.fits loaded.fits (sym file.spelled ∙ loaded.spelled) in
    also.state ∙ ap state_on (sym same.0) ∙ sym on.state

module _ (layout : LayoutKind) (slots limit : ℕ) (middle after : List Dictionary) (d : Dictionary) (bytes : Bor (List ℕ)) where
  abbrev Again : Type 0
  Again = (e : Dictionary) × (after ≡ middle ++ e ∷ []) × (e.state ≡ d.state)

  loads : (v : ℕ) → IsOnTable slots d → IsTableFile v slots d.table bytes.now → (made : Result Dictionary CedarPersistenceError) → IsLoad layout slots limit bytes.now made → Joins middle made (Ok tt) after → Again
  loads v on file (Ok e) told joins = let again = loaded_saves_again layout slots limit bytes.now e told.0 in (e, joins.1, same_state slots v again.0 d e bytes.now on file told.1 again.1)
  loads v on file (Err x) told joins = absurd cc

pub saves_load_again_on : {A : Type 0} (r : Reply A) → SavesLoadAgain r
saves_load_again_on (reply.Saved (Ok file)) layout slots limit before kept middle after i d question.Save bytes found asked is loaded =
    let here : asked.0 ≡ d = some_is asked.0 d (sym asked.1 ∙ found) in
    let on : IsOnTable slots d = subst (IsOnTable slots) here asked.2.0 in
    let told : IsTableFile 1 slots d.table bytes.now = subst (λ bs. IsTableFile 1 slots d.table bs) (some_is file.items bytes.now is) (subst (λ (x : Dictionary). IsTableFile 1 slots x.table file.items) here asked.2.1) in
    loads layout slots limit middle after d bytes 1 on told loaded.0 loaded.1 loaded.2
saves_load_again_on (reply.Saved (Ok file)) layout slots limit before kept middle after i d question.SaveV1_0 bytes found asked is loaded =
    let here : asked.0 ≡ d = some_is asked.0 d (sym asked.1 ∙ found) in
    let on : IsOnTable slots d = subst (IsOnTable slots) here asked.2.0 in
    let told : IsTableFile 0 slots d.table bytes.now = subst (λ bs. IsTableFile 0 slots d.table bs) (some_is file.items bytes.now is) (subst (λ (x : Dictionary). IsTableFile 0 slots x.table file.items) here asked.2.1) in
    loads layout slots limit middle after d bytes 0 on told loaded.0 loaded.1 loaded.2
saves_load_again_on (reply.Saved (Ok file)) layout slots limit before kept middle after i d q bytes found asked is loaded = absurd asked.2.1
saves_load_again_on r layout slots limit before kept middle after i d q bytes found asked is loaded = absurd cc
