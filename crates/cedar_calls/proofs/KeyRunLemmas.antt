-- What dictionaries hold at a key after some calls.
use Rattle.std.proofs.Common.{◌≡◌, ◌<◌, ℕ, ℤ, List, [], ◌∷◌, ◌++◌, arith, length, take, Option, option_map, Some, None, Ok, Err, IfOk, OnOk, IsSome, refl, ap, sym, subst, ◌∙◌}
use Rattle.std.specs.List.{slice_get}
use Rattle.std.specs.declared.result.Result.{Result}
use Rattle.std.proofs.lemmas.Bool.{false≢true}
use Rattle.std.proofs.lemmas.List.{map-append, map-set}
use Rattle.std.proofs.lemmas.Option.{slice_get-map}
use Rattle.cedarwood.specs.Tree.{IsSoundBelow, number_at}
use Rattle.cedarwood.specs.Queries.{Entry, is_path, last_at}
use Rattle.cedarwood.proofs.EntryLemmas.Built.{number_at-asc}
use Rattle.cedarwood.proofs.TreeLemmas.{number_at-empty}
use Rattle.cedarwood.specs.declared.error.CedarError.{CedarError}
use Rattle.cedarwood.specs.Words.{Pair, entries_of, keys_of}
use Rattle.cedarwood.specs.Layouts.{LayoutKind}
use Rattle.cedarwood.specs.CedarPersistenceError.{CedarPersistenceError}
use Rattle.cedarwood.specs.declared.builder.CedarBuilder.{CedarBuilder}
use Rattle.cedarwood.specs.Builds.{first_fault}
use Rattle.cedarwood.specs.Dictionary.{Dictionary}
use Rattle.cedarwood.proofs.LoadLemmas.{loaded_saves_again}
use Rattle.cedar_calls.specs.Changes.{IsChange, IsWholeBuild}
use Rattle.cedar_calls.specs.Keys.{if_made, numbers_at, IsHeldAfter, IsKeyRun, IsKeyStep, IsNumberInFile}
use Rattle.cedarwood.specs.Making.{IsNew, IsSortedBuild}
use Rattle.cedarwood.specs.Unsorted.{IsUnsortedBuild}
use Rattle.cedar_calls.specs.Making.{IsCopy, IsLoad, Joins}
use Rattle.cedar_calls.specs.Runs.{IsRun, IsStep}
use Rattle.cedar_calls.specs.declared.call.Call.{Call}
use Rattle.cedar_calls.specs.declared.call.Call.TheVariants as call
use Rattle.cedar_calls.specs.declared.call.Change.{Change}
use Rattle.cedar_calls.specs.declared.call.Change.TheVariants as change
use Rattle.cedar_calls.specs.declared.answer.Answer.{Answer}
use Rattle.cedar_calls.specs.declared.answer.Answer.TheVariants as answer
use Rattle.cedar_calls.specs.declared.answer.Changed.{Changed}
use Rattle.cedar_calls.specs.declared.answer.Changed.TheVariants as changed
use Rattle.cedar_calls.proofs.KeyLemmas.{all_go, cut_goes, keys_go_out, put_goes}
use Rattle.cedar_calls.proofs.PlaceLemmas.{map-remove}

-- pairs with a fault among them aren't none
some_pairs : (es : List Entry) (x : CedarError) → first_fault es ≡ Some x → 0 < length es
some_pairs [] x h = absurd cc
some_pairs (e ∷ es) x h = omega arith

module _ (key : List ℕ) where
  abbrev number_in : Dictionary → Option ℤ
  number_in d = number_at d.state.tree key

  -- ---- a change

  refused_build : (layout : LayoutKind) (slots : ℕ) (d e : Dictionary) (es : List Entry) (f : Option CedarError) → first_fault es ≡ f → (x : CedarError) → IsWholeBuild layout slots d e es (Err x)
      → (n : ℕ) × (n < length es) × (IsSome (first_fault es) → n ≡ 0) × (number_in e ≡ last_at key (number_in d) (take n es))
  refused_build layout slots d e es (Some y) same x h = (0, some_pairs es y same, (λ _. refl), ap number_in (h.unchanged (subst (λ o. IsSome o) (sym same) refl)))
  refused_build layout slots d e es None same x h =
      let front = (h.refused same).front in
      (front.0, front.1, (λ faulty. absurd (false≢true (subst (λ o. IsSome o) same faulty))), ap (λ s. number_at s.tree key) front.2 ∙ all_go d.state (take front.0 es) key)

  held_goes : {A : Type 0} (layout : LayoutKind) (slots : ℕ) (d e : Dictionary) (c : Change) (a : Changed A) → IsSoundBelow d.state.tree.children → IsChange layout slots d c a e
      → IsHeldAfter key (number_in d) c a (number_in e)
  held_goes layout slots d e (change.Update k v) (changed.Updated (Ok x)) sound h = ap (λ s. number_at s.tree key) h.ok ∙ put_goes d.state.tree d.state.ordered k.now v key (is_path key k.now) refl
  held_goes layout slots d e (change.Update k v) (changed.Updated (Err x)) sound h = ap (λ s. number_at s.tree key) h.err
  held_goes layout slots d e (change.Insert k v) (changed.Inserted (Ok x)) sound h = ap (λ s. number_at s.tree key) h.0.ok ∙ put_goes d.state.tree d.state.ordered k.now v key (is_path key k.now) refl
  held_goes layout slots d e (change.Insert k v) (changed.Inserted (Err x)) sound h = ap (λ s. number_at s.tree key) h.0.err
  held_goes layout slots d e (change.Erase k) (changed.Erased x) sound h = ap (λ s. number_at s.tree key) h.1.state ∙ cut_goes d.state.tree k.now key sound (is_path key k.now) refl
  held_goes layout slots d e (change.EraseFound k) (changed.ErasedFound x) sound h = ap (λ s. number_at s.tree key) h.erased.state ∙ cut_goes d.state.tree k.now key sound (is_path key k.now) refl
  held_goes layout slots d e (change.EraseBatch keys) (changed.ErasedBatch (Ok x)) sound h = ap (λ s. number_at s.tree key) h.state ∙ keys_go_out d.state (keys_of keys.now) key sound
  held_goes layout slots d e (change.EraseBatch keys) (changed.ErasedBatch (Err x)) sound h = ap number_in h.refused.1
  held_goes layout slots d e (change.ErasePrefix prefix) (changed.ErasedPrefix n) sound h = h.held key
  held_goes layout slots d e change.Clear changed.Cleared sound h = ap (λ t. number_at t key) h.tree ∙ number_at-empty key
  held_goes layout slots d e change.Shrink (changed.Shrunk x) sound h = ap (λ s. number_at s.tree key) h.state
  held_goes layout slots d e (change.Renew settings) (changed.Renewed (Ok x)) sound h = ap (λ t. number_at t key) h.tree ∙ number_at-empty key
  held_goes layout slots d e (change.Renew settings) (changed.Renewed (Err x)) sound h = ap number_in h.1
  held_goes layout slots d e (change.Build pairs) (changed.Built (Ok x)) sound h = ap (λ s. number_at s.tree key) h.stored ∙ all_go d.state (entries_of pairs.now) key
  held_goes layout slots d e (change.Build pairs) (changed.Built (Err x)) sound h = refused_build layout slots d e (entries_of pairs.now) (first_fault (entries_of pairs.now)) refl x h
  held_goes layout slots d e (change.UpdateBatch pairs) (changed.UpdatedBatch (Ok x)) sound h = ap (λ s. number_at s.tree key) h.stored ∙ all_go d.state (entries_of pairs.now) key
  held_goes layout slots d e (change.UpdateBatch pairs) (changed.UpdatedBatch (Err x)) sound h =
      (h.updates.within, ap (λ s. number_at s.tree key) h.refused ∙ all_go d.state (take x.index (entries_of pairs.now)) key)
  held_goes layout slots d e (change.Reserve n) (changed.Reserved x) sound h = ap (λ s. number_at s.tree key) h.state
  held_goes layout slots d e (change.SetSearchLimit n) changed.SearchLimitSet sound h = ap number_in h
  held_goes layout slots d e c a sound h = absurd h

  -- ---- a further dictionary

  -- it comes after the others with what it holds, if it was made
  joined_goes : {E : Type 0} (before after : List Dictionary) (made : Result Dictionary E) (r : Result (Unit {0}) E) (number : Option ℤ) → Joins before made r after
      → IfOk made (λ d. number_in d ≡ number) → numbers_at key after ≡ if_made r (numbers_at key before ++ number ∷ []) (numbers_at key before)
  joined_goes before after (Ok d) r number j same =
      ap (numbers_at key) j.1 ∙ map-append number_in before (d ∷ []) ∙ ap (λ n. numbers_at key before ++ n ∷ []) same
      ∙ ap (λ q. if_made q (numbers_at key before ++ number ∷ []) (numbers_at key before)) (sym j.0)
  joined_goes before after (Err e) r number j same = ap (numbers_at key) j.1 ∙ ap (λ q. if_made q (numbers_at key before ++ number ∷ []) (numbers_at key before)) (sym j.0)

  new_number : (settings : CedarBuilder) (made : Result Dictionary CedarError) → IsNew settings made → IfOk made (λ d. number_in d ≡ None)
  new_number settings (Ok d) h = ap (λ t. number_at t key) h.tree ∙ number_at-empty key
  new_number settings (Err e) h = tt

  sorted_number : (layout : LayoutKind) (slots : ℕ) (settings : CedarBuilder) (pairs : List Pair) (made : Result Dictionary CedarError) → IsSortedBuild layout slots settings (entries_of pairs) made
      → IfOk made (λ d. number_in d ≡ last_at key None (entries_of pairs))
  sorted_number layout slots settings pairs (Ok d) h = ap (λ t. number_at t key) h.sorted.tree ∙ number_at-asc (entries_of pairs) key
  sorted_number layout slots settings pairs (Err e) h = tt

  unsorted_number : (layout : LayoutKind) (slots : ℕ) (settings : CedarBuilder) (pairs : List Entry) (made : Result Dictionary CedarError) → IsUnsortedBuild layout slots settings pairs made
      → IfOk made (λ d. number_in d ≡ last_at key None pairs)
  unsorted_number layout slots settings pairs (Ok d) h = ap (λ t. number_at t key) h.stored.tree ∙ number_at-asc pairs key
  unsorted_number layout slots settings pairs (Err e) h = tt

  copy_number : (d : Dictionary) (made : Result Dictionary CedarError) → IsCopy d made → IfOk made (λ e. number_in e ≡ number_in d)
  copy_number d (Ok e) h = ap number_in h
  copy_number d (Err x) h = tt

  load_goes : (layout : LayoutKind) (slots limit : ℕ) (bytes : List ℕ) (before after : List Dictionary) (made : Result Dictionary CedarPersistenceError) (r : Result (Unit {0}) CedarPersistenceError)
      → IsLoad layout slots limit bytes made → Joins before made r after
      → (number : Option ℤ) × OnOk r (IsNumberInFile slots bytes key number) × (numbers_at key after ≡ if_made r (numbers_at key before ++ number ∷ []) (numbers_at key before))
  load_goes layout slots limit bytes before after (Ok d) r h j =
      let file = loaded_saves_again layout slots limit bytes d h.0 in
      let number : IsNumberInFile slots bytes key (number_in d) = (file.0, d.table, file.1, ap (λ s. number_at s.tree key) h.1.state) in
      (number_in d, subst (λ q. OnOk q (IsNumberInFile slots bytes key (number_in d))) (sym j.0) number, joined_goes before after (Ok d) r (number_in d) j refl)
  load_goes layout slots limit bytes before after (Err e) r h j =
      (None, subst (λ q. OnOk q (IsNumberInFile slots bytes key None)) (sym j.0) tt, joined_goes before after (Err e) r None j tt)

  -- ---- a step, and a run

  found_number : (ds : List Dictionary) (i : ℕ) (d : Dictionary) → slice_get ds i ≡ Some d → slice_get (numbers_at key ds) i ≡ Some (number_in d)
  found_number ds i d h = slice_get-map number_in ds i ∙ ap (option_map number_in) h

  key_step : {A : Type 0} (layout : LayoutKind) (slots : ℕ) (before after : List Dictionary) (c : Call) (a : Answer A) → IsStep layout slots before c a after
      → IsKeyStep slots key (numbers_at key before) c a (numbers_at key after)
  key_step layout slots before after (call.New settings) (answer.Made r) h = joined_goes before after h.0 r None h.2 (new_number settings h.0 h.1)
  key_step layout slots before after (call.Sorted settings pairs) (answer.Made r) h =
      joined_goes before after h.0 r (last_at key None (entries_of pairs.now)) h.2 (sorted_number layout slots settings pairs.now h.0 h.1)
  key_step layout slots before after (call.Unsorted settings pairs) (answer.Made r) h =
      joined_goes before after h.0 r (last_at key None (entries_of pairs.now)) h.2 (unsorted_number layout slots settings (entries_of pairs.now) h.0 h.1)
  key_step layout slots before after (call.Load bytes limit) (answer.Loaded r) h = load_goes layout slots limit bytes.now before after h.0 r h.1 h.2
  key_step layout slots before after (call.Clone i) (answer.Made r) h =
      (number_in h.0, found_number before i h.0 h.1, joined_goes before after h.2.0 r (number_in h.0) h.2.2 (copy_number h.0 h.2.0 h.2.1))
  key_step layout slots before after (call.Clone i) answer.Missing h = ap (numbers_at key) h.1
  key_step layout slots before after (call.Drop i) answer.Dropped h = ap (numbers_at key) h.2 ∙ map-remove number_in before i
  key_step layout slots before after (call.Drop i) answer.Missing h = ap (numbers_at key) h.1
  key_step layout slots before after (call.Change i c) (answer.Changed a) h = (
    number_in h.0,
    number_in h.1,
    found_number before i h.0 h.2,
    held_goes layout slots h.0 h.1 c a h.3.0.sound.1 h.3.1,
    ap (numbers_at key) h.4 ∙ map-set number_in before i h.1,
  )
  key_step layout slots before after (call.Change i c) answer.Missing h = ap (numbers_at key) h.1
  key_step layout slots before after (call.Ask i q) (answer.Replied a) h = ap (numbers_at key) h.3
  key_step layout slots before after (call.Ask i q) answer.Missing h = ap (numbers_at key) h.1
  key_step layout slots before after c a h = absurd h

  pub key_run : {A : Type 0} (layout : LayoutKind) (slots : ℕ) (before after : List Dictionary) (calls : List Call) (answers : List (Answer A)) → IsRun layout slots before calls answers after
      → IsKeyRun slots key (numbers_at key before) calls answers (numbers_at key after)
  key_run layout slots before after [] [] h = ap (numbers_at key) h
  key_run layout slots before after [] (a ∷ answers) h = absurd h
  key_run layout slots before after (c ∷ calls) [] h = absurd h
  key_run layout slots before after (c ∷ calls) (a ∷ answers) h =
      (numbers_at key h.0, key_step layout slots before h.0 c a h.1, key_run layout slots h.0 after calls answers h.2)
