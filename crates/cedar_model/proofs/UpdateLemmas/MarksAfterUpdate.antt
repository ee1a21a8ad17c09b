-- Where numbers are kept once an update has put one.
use Rattle.std.proofs.Common.{◌≡◌, ◌⊎◌, ℕ, ◌<◌, ◌+◌, List, [], ◌∷◌, ◌++◌, length, take, drop, get_or, sym, ◌∙◌, ap, refl, subst, inl, inr, arith, Bool, true, false, Some, None}
use Rattle.std.specs.Prelude.{pos, is_some}
use Rattle.std.proofs.lemmas.Bool.{cases_eq, true≢false}
use Rattle.std.proofs.lemmas.List.{append-nil, take-append-drop}
use Rattle.cedar_tree.specs.Tree.{Forest, is_bare, IsKey, IsSoundBelow, number_at, subtree, Tree}
use Rattle.cedar_tree.specs.Edits.{HasPath}
use Rattle.cedar_tree.specs.Queries.{IsFront, node_at}
use Rattle.cedar_tree.proofs.EntryLemmas.Prefixes.{front_of_node}
use Rattle.cedar_tree.proofs.TreeLemmas.{bare-subtree, sound_subtree}
use Rattle.cedar_model.specs.Table.Cells.{Cells}
use Rattle.cedar_model.specs.Edit.NodeEdits.{follow_on, IsAt}
use Rattle.cedar_model.specs.Meaning.Family.{Among, base_in, base_of, below}
use Rattle.cedar_model.specs.Edit.KeyWalk.{Walked}
use Rattle.cedar_model.specs.Table.Layouts.{default_layout, reduced_layout}
use Rattle.cedar_model.specs.Meaning.Marks.{KeepsMarks, mark, MarkedAt, MovesOut, NewMark, PutsMark, PutsMarks}
use Rattle.cedar_model.specs.Meaning.StandsFor.{labels, OnPath, slot_at, Stands}
use Rattle.cedar_model.specs.Edit.Own.{HasWay, NoOwn}
use Rattle.cedar_model.specs.Edit.Steps.{root_of}
use Rattle.cedar_model.specs.Table.TableFields.{Fields, size_of}
use Rattle.cedar_model.specs.Meaning.WellFormed.{cells_in, IsWellFormed, tree_of}
use Rattle.cedar_model.proofs.MeaningLemmas.NodeAtPath.{among_has, at_path}
use Rattle.cedar_model.proofs.MeaningLemmas.SearchStep.{child_stands, root_stands}
use Rattle.cedar_model.proofs.UpdateLemmas.OnTheWay.{held_on_way}
use Rattle.cedar_model.proofs.MeaningLemmas.KeyPath.{tree_root}
use Rattle.cedar_model.proofs.UpdateLemmas.NumberInTheWay.{goes_on}
use Rattle.cedar_model.proofs.MeaningLemmas.NumberSlots.{marked_slot, own_marked, slot_marked}
use Rattle.cedar_model.proofs.MeaningLemmas.OneNode.{labels_own}
use Rattle.cedar_model.proofs.EditLemmas.OwnNumber.{kind_is, number_stands, own_reduced}
use Rattle.cedar_model.proofs.EditLemmas.NumberMovesOut.{leaf_alone, own_base}
use Rattle.cedar_model.proofs.MeaningLemmas.Paths.{one_path}
use Rattle.cedar_model.proofs.UpdateLemmas.MarksAfterPut.{kept_if_same, marked_own}
use Rattle.cedar_model.proofs.MeaningLemmas.OneTree.{family_no_zero}
use Rattle.cedar_model.proofs.UpdateLemmas.Ending.{not_root}
use Rattle.cedar_model.proofs.UpdateLemmas.AlongKey.{key_some, way_at}
use Rattle.cedar_model.proofs.UpdateLemmas.FreeWay.{next_byte, own_no_root}
use Rattle.cedar_tree.proofs.OrderLemmas.{number_of_node}

-- ---- the slot of a key that is held

held_path : (t : Tree) (w : List ℕ) → is_some (number_at t w) ≡ true → HasPath t w
held_path t [] h = tt
held_path t (l ∷ w) h = (held_on_way t [] l w h, held_path (subtree t.children l) w h)

slot_on : (size : ℕ) (T : Cells) (w q : List ℕ) (t : Tree) → OnPath T q → Stands size T (slot_at T q) t → HasPath t w → OnPath T (follow_on w q)
slot_on size T [] q t on st there = on
slot_on size T (l ∷ w) q t on st there =
    let among = among_has t.children l there.0 in
    let some : l ≡ 0 → ⊥ = λ z. family_no_zero T (slot_at T q) st.head (labels t.children) st.family.begins (subst (Among (labels t.children)) z among) in
    let mine : T.check (below T (slot_at T q) l) ≡ pos (slot_at T q) = labels_own T (slot_at T q) st.head (labels t.children) st.family.begins l among in
    slot_on size T w (l ∷ q) (subtree t.children l) (some, mine, on) (child_stands size T (slot_at T q) t.children l among st.lower) there.1

module _ (slots : ℕ) (T : Fields) (well : IsWellFormed slots T) where
  -- a held key's number is kept somewhere
  pub held_marked : (w : List ℕ) → is_some (number_at (tree_of T) w) ≡ true → (m : Bool) × MarkedAt (cells_in T) w m
  held_marked w held =
      let f : Forest = (tree_of T).children in
      let here : is_some (number_at (root_of f) w) ≡ true = ap (λ (t : Tree). is_some (number_at t w)) (sym (tree_root slots T well)) ∙ held in
      let at : IsAt (cells_in T) w (slot_at (cells_in T) (follow_on w [])) = (slot_on (size_of T) (cells_in T) w [] (root_of f) tt (root_stands (size_of T) (cells_in T) f well.stands.stands) (held_path (root_of f) w here), refl) in
      let a : ℕ = slot_at (cells_in T) (follow_on w []) in
      elim (number_stands (size_of T) (cells_in T) f w a well.stands at (ap is_some (sym (number_of_node (root_of f) w)) ∙ here)) [
        | inl o ↦ (true, (a, at, slot_marked (cells_in T) a o))
        | inr stored ↦
            let alone = leaf_alone (size_of T) (cells_in T) f w a well.stands at (own_no_root slots T a stored.0 well stored.1) (own_base (cells_in T) a stored.0 stored.1) in
            (false, (a, at, own_marked (cells_in T) a stored.0 (λ o. alone _ o) stored.1))
      ]

  -- where nothing is in a key's way, the number of each proper front of it has a slot
  pub fronts_marked : (key : List ℕ) (n : ℕ) → n < length key → HasWay (cells_in T) 0 key → is_some (number_at (tree_of T) (take n key)) ≡ true → MarkedAt (cells_in T) (take n key) true
  fronts_marked key n less way held =
      let found = held_marked (take n key) held in
      by_mark found.0 found.1
    where
      split : key ≡ take n key ++ get_or key n 0 ∷ drop (n + 1) key
      split = sym (take-append-drop n key) ∙ ap (λ r. take n key ++ r) (next_byte (cells_in T) key n 0 less)

      by_mark : (m : Bool) → MarkedAt (cells_in T) (take n key) m → MarkedAt (cells_in T) (take n key) true
      by_mark true k = k
      by_mark false k =
          let own = marked_own (cells_in T) k.0 k.2 in
          let none_own : NoOwn (cells_in T) (slot_at (cells_in T) (follow_on (take n key) [])) =
          way_at (cells_in T) (take n key) [] (drop (n + 1) key) (get_or key n 0) (subst (HasWay (cells_in T) 0) split way) k.1.0 in
          absurd (none_own own.0 (ap (cells_in T).stored k.1.1 ∙ own.1))

-- ---- a put along a key

-- in a sound tree each node is on the path of a key
sound_node : (t : Tree) (w : List ℕ) → IsSoundBelow t.children → 0 < length w → HasPath t w → is_bare (node_at t w) ≡ false
sound_node t [] s some there = absurd (omega (arith, some))
sound_node t (l ∷ []) s some there = bare-subtree t.children l s there.0
sound_node t (l ∷ m ∷ w) s some there = sound_node (subtree t.children l) (m ∷ w) (sound_subtree t.children l s) (omega arith) there.1

module _ (slots : ℕ) (before mid after : Fields) (key : List ℕ) (a : ℕ) (well : IsWellFormed slots before) (is_key : IsKey key) (k : Walked slots before mid key key [] a) (layout : mid.layout ≡ before.layout)
    (in_slot : (mid.layout ≡ reduced_layout → base_of (cells_in mid) a ≡ 0 → ⊥) → PutsMark (cells_in mid) (cells_in after) a true)
    (in_own : mid.layout ≡ reduced_layout → base_of (cells_in mid) a ≡ 0 → PutsMark (cells_in mid) (cells_in after) a false) where
  -- a node that owns a slot has a base
  no_slot : (x : ℕ) → (cells_in mid).check x ≡ pos a → base_of (cells_in mid) a ≡ 0 → ⊥
  no_slot x o z = leaf_alone (size_of mid) (cells_in mid) k.forest key a k.holds k.at (not_root slots before mid key a well is_key k) z x o

  -- all numbers that were there are kept as they were
  pub put_keeps : KeepsMarks (cells_in before) (cells_in after)
  put_keeps w s m on e =
      elim (cases_eq (base_of (cells_in mid) a) 0) [
        | inl z ↦ elim (kind_is mid.layout) [
          | inl default ↦
              let put = in_slot (λ reduced. absurd (two_kinds (sym default ∙ reduced))) in
              kept_if_same (cells_in before) (cells_in mid) (cells_in after) a true k.marks put (slot_alone (λ v own. two_kinds (sym default ∙ own_reduced mid.layout _ v own))) w s m on e
          | inr reduced ↦ kept_if_same (cells_in before) (cells_in mid) (cells_in after) a false k.marks (in_own reduced z) (own_alone z) w s m on e
        ]
        | inr based ↦ kept_if_same (cells_in before) (cells_in mid) (cells_in after) a true k.marks (in_slot (λ _ z. based z)) (slot_alone (λ v own. based (own_base (cells_in mid) a v own))) w s m on e
      ]
    where
      two_kinds : default_layout ≡ reduced_layout → ⊥
      two_kinds i = cc

      slot_alone : NoOwn (cells_in mid) a → (n : Bool) → mark (cells_in mid) a ≡ Some n → n ≡ true
      slot_alone none_own true i = refl
      slot_alone none_own false i = let own = marked_own (cells_in mid) a i in absurd (none_own own.0 own.1)

      own_alone : base_of (cells_in mid) a ≡ 0 → (n : Bool) → mark (cells_in mid) a ≡ Some n → n ≡ false
      own_alone z true i = absurd (no_slot _ (marked_slot (cells_in mid) a i) z)
      own_alone z false i = refl

  -- a longer key that is held leads on from the key's node
  front_based : number_at (tree_of before) key ≡ None → IsFront (tree_of before) key → base_of (cells_in mid) a ≡ 0 → ⊥
  front_based new longer z = by_rest longer.1 (ap is_some longer.3)
    where
      by_rest : (rest : List ℕ) → is_some (number_at (tree_of before) (key ++ rest)) ≡ true → ⊥
      by_rest [] held =
          let none_there : is_some (number_at (tree_of before) (key ++ [])) ≡ false = ap (λ q. is_some (number_at (tree_of before) q)) (append-nil key) ∙ ap is_some new in
          let no : false ≡ true = sym none_there ∙ held in
          true≢false (sym no)
      by_rest (l ∷ rest) held =
          let was = held_marked slots before well (key ++ l ∷ rest) held in
          let there = k.marks (key ++ l ∷ rest) was.1.0 was.0 was.1.1 was.1.2 in
          let o = goes_on (cells_in mid) key [] rest l there.1.0 in
          no_slot _ (o ∙ ap pos k.at.1) z

  unlabelled : (IsFront (tree_of before) key → ⊥) → base_of (cells_in mid) a ≡ 0
  unlabelled alone = elim k.fresh [
    | inl same ↦
        let there : HasPath (tree_of before) key = subst (λ (t : Tree). HasPath t key) (sym (tree_root slots before well)) (at_path (size_of before) (cells_in before) (tree_of before).children key a well.stands same.0) in
        absurd (alone (front_of_node (tree_of before) key well.sound (key_some key is_key) (sound_node (tree_of before) key well.sound (key_some key is_key) there)))
    | inr new ↦ ap base_in new.1
  ]

  pub new_mark : NewMark before after key
  new_mark = record {
    front = λ new longer. (in_slot (λ _ z. front_based new longer z)).here key k.at;
    last = λ reduced alone. (in_own (layout ∙ reduced) (unlabelled alone)).here key k.at;
  }

-- ---- an update, which moves a number out of the way first where one is there

follow_back : (w q : List ℕ) → follow_on (follow_on w q) [] ≡ follow_on q w
follow_back [] q = refl
follow_back (l ∷ w) q = follow_back w (l ∷ q)

pub follow_one : (w u : List ℕ) → follow_on w [] ≡ follow_on u [] → w ≡ u
follow_one w u e = sym (follow_back w []) ∙ ap (λ p. follow_on p []) e ∙ follow_back u []

-- the other numbers
pub moved_others : (T T₁ : Cells) (t : Tree) (u w : List ℕ) (m : Bool) → ((c : ℕ) → T.check 0 ≡ pos c → ⊥) → MovesOut T T₁ t u → (w ≡ u → ⊥) → MarkedAt T w m → MarkedAt T₁ w m
moved_others T T₁ t u w m root k other marked =
    let apart : marked.0 ≡ k.slot → ⊥ = λ z. other (follow_one w u (one_path T root (follow_on w []) (follow_on u []) marked.1.0 k.at.0 (marked.1.1 ∙ z ∙ sym k.at.1))) in
    k.others w marked.0 m marked.1 apart marked.2

module _ (slots : ℕ) (before mid after : Fields) (key : List ℕ) (well : IsWellFormed slots before) (mid_well : IsWellFormed slots mid) (tree : tree_of mid ≡ tree_of before) (layout : mid.layout ≡ before.layout) (way : HasWay (cells_in mid) 0 key)
    (over : is_some (number_at (tree_of before) key) ≡ true → mid ≡ before)
    (moved : (mid ≡ before) ⊎ ((n : ℕ) × (n < length key) × MovesOut (cells_in before) (cells_in mid) (root_of (tree_of before).children) (take n key)))
    (keep : KeepsMarks (cells_in mid) (cells_in after)) (new : NewMark mid after key) where
  pub puts_marks : PutsMarks before after key
  puts_marks = record {
    over = λ held. subst (λ (F : Fields). KeepsMarks (cells_in F) (cells_in after)) (over held) keep;
    fronts = λ w front held.
        let was : is_some (number_at (tree_of mid) (take front.0 key)) ≡ true = ap (λ (t : Tree). is_some (number_at t (take front.0 key))) tree ∙ ap (λ q. is_some (number_at (tree_of before) q)) (sym front.2) ∙ held in
        let there = fronts_marked slots mid mid_well key front.0 front.1 way was in
        subst (λ q. MarkedAt (cells_in after) q true) (sym front.2) (keep (take front.0 key) there.0 true there.1 there.2);
    others = λ w m apart marked.
        let there : MarkedAt (cells_in mid) w m = elim moved [
          | inl same ↦ subst (λ (F : Fields). MarkedAt (cells_in F) w m) (sym same) marked
          | inr k ↦ moved_others (cells_in before) (cells_in mid) _ (take k.0 key) w m well.stands.root k.2 (λ is. apart (k.0, k.1, is)) marked
        ] in
        keep w there.0 m there.1 there.2;
    new = record {
      front = λ none_there longer. new.front (ap (λ (t : Tree). number_at t key) tree ∙ none_there) (subst (λ (t : Tree). IsFront t key) (sym tree) longer);
      last = λ reduced alone. new.last (layout ∙ reduced) (λ longer. alone (subst (λ (t : Tree). IsFront t key) tree longer));
    };
  }
