-- How an update ends: with the number put, or with the tree as it was.
use Rattle.std.proofs.Common.{◌≡◌, ℕ, ◌<◌, ◌≤◌, ◌+◌, ◌*◌, ◌^◌, Bool, true, false, cond, List, [], ◌∷◌, length, sym, ◌∙◌, ap, refl, subst, inl, inr, arith, length-append, None, Option, Some, ◌⊎◌}
use Rattle.std.specs.Prelude.{ℤ, pos, negsuc, is_some, not}
use Rattle.std.specs.List.{count_by, range_with_len}
use Rattle.std.proofs.lemmas.List.FromFn.{length-range_with_len}
use Rattle.std.proofs.lemmas.List.Sums.{count_by-le-length}
use Rattle.std.proofs.lemmas.Bool.{true≢false, false≢true}
use Rattle.cedar_tree.specs.Tree.{Forest, Tree, has_label, put, number_at, IsAscending, IsKey, IsSoundBelow}
use Rattle.cedar_tree.specs.Queries.{node_at, walk, walk_forest}
use Rattle.cedar_tree.specs.Edits.{edit_at, HasPath, with_number}
use Rattle.cedar_tree.proofs.EntryLemmas.Counts.{length-walk-put}
use Rattle.cedar_tree.proofs.EntryLemmas.Steps.{put-with_number}
use Rattle.cedar_tree.proofs.OrderLemmas.{ascending-put, number_of_node}
use Rattle.cedar_tree.proofs.TreeLemmas.{all-put, sound-put}
use Rattle.cedar_slots.specs.declared.shortage.Shortage.{Shortage}
use Rattle.cedar_slots.specs.declared.shortage.Shortage.TheVariants.{Memory, SlotLimit}
use Rattle.cedar_model.specs.declared.layout.Stored.TheVariants.{AtBase, OwnNumber}
use Rattle.cedar_model.specs.Table.Cells.{is_held, NoPlace}
use Rattle.cedar_model.specs.Edit.NodeEdits.{IsAt}
use Rattle.cedar_model.specs.Meaning.Family.{below}
use Rattle.cedar_model.specs.Edit.KeyWalk.{TakenBack, Walked}
use Rattle.cedar_model.specs.Table.Layouts.{default_layout, LayoutKind, reduced_layout}
use Rattle.cedar_model.specs.Meaning.Marks.{KeepsMarks}
use Rattle.cedar_model.specs.Meaning.StandsFor.{HoldsTree, OnPath, slot_at}
use Rattle.cedar_model.specs.Edit.Own.{LacksNode}
use Rattle.cedar_slots.specs.Places.{IsTable, MayRefuse, SameSlots}
use Rattle.cedar_model.specs.Meaning.Reading.{tree_read}
use Rattle.cedar_slots.specs.Slots.{check_at}
use Rattle.cedar_model.specs.Edit.Steps.{MakesBlocks, root_of, SameModes, tree_after_trim}
use Rattle.cedar_model.specs.Table.TableFields.{Fields, SameFrame, SameSettings, size_of}
use Rattle.cedar_model.specs.Meaning.WellFormed.{cells_in, is_value, IsWellFormed, slots_below, slots_named, tree_of}
use Rattle.cedar_model.proofs.MeaningLemmas.NodeAtPath.{at_path}
use Rattle.cedar_model.proofs.UpdateLemmas.BlocksMade.{made_framed, made_then}
use Rattle.cedar_model.proofs.CellsLemmas.HeldSlots.{active_is}
use Rattle.cedar_model.proofs.MeaningLemmas.NumberSlots.{marks_then}
use Rattle.cedar_model.proofs.EditLemmas.OwnNumber.{number_stands}
use Rattle.cedar_model.proofs.EditLemmas.LeafAtPlace.{below_root, ends}
use Rattle.cedar_model.proofs.MeaningLemmas.HeldCount.{count_is_named, entries_named}
use Rattle.cedar_model.proofs.MeaningLemmas.TreeOf.{is_well_formed, tree_of_is}
use Rattle.cedar_model.proofs.UpdateLemmas.AlongKey.{key_some, next_owned, one_step, walked_same}
use Rattle.cedar_model.proofs.UpdateLemmas.Frame.{settings_then}

root_kept : (slots : ℕ) (T T' : Fields) → IsWellFormed slots T → IsTable slots T'.places → (cells_in T').check 0 ≡ (cells_in T).check 0 → check_at T'.places.slots.nodes 0 ≡ negsuc 0
root_kept slots T T' w table same =
    let was : (cells_in T).check 0 ≡ check_at T.places.slots.nodes 0 = active_is T.layout T.places 0 (omega (arith, w.table.sound.shaped.blocks.some)) in
    let is : (cells_in T').check 0 ≡ check_at T'.places.slots.nodes 0 = active_is T'.layout T'.places 0 (omega (arith, table.sound.shaped.blocks.some)) in
    sym is ∙ same ∙ was ∙ w.root_check

modes : (T T' : Fields) → SameSettings T T' → SameModes T T'
modes T T' s = record { ordered = s.ordered; max_trial = s.max_trial }

-- ---- the tree as it was

-- the tree of before, in a table with its settings
pub tree_kept : (slots : ℕ) (T T' : Fields) → IsWellFormed slots T → IsTable slots T'.places → (cells_in T').check 0 ≡ (cells_in T).check 0 → HoldsTree (size_of T') (cells_in T') (tree_of T).children → SameSettings T T' → IsWellFormed slots T' × (tree_of T' ≡ tree_of T)
tree_kept slots T T' w table root holds same =
    let f : Forest = (tree_of T).children in
    let old : tree_of T ≡ root_of f = tree_of_is T f w.stands in (
      is_well_formed slots T' f table (root_kept slots T T' w table root) holds w.sound w.values (λ o. w.ascending (sym same.ordered ∙ o)) (same.entries ∙ w.entries ∙ ap (λ (t : Tree). length (walk t)) old),
      tree_of_is T' f holds ∙ sym old,
    )

pub refuses_on : (a b : Fields) (slots : ℕ) (error : Shortage) → SameFrame a b → MayRefuse a.places slots error → MayRefuse b.places slots error
refuses_on a b slots Memory frame h = let full = h.0 in let room = h.1 in (omega (arith, frame.size, frame.capacity, full), omega (arith, frame.size, room))
refuses_on a b slots SlotLimit frame h = omega (arith, frame.size, h)

-- the blocks that were made on the way are fewer than the key's bytes
pub fewer : (slots : ℕ) (before after : Fields) (key w rest : List ℕ) (a : ℕ) → Walked slots before after key w rest a → 0 < length key → (n : ℕ) × (n < length key) × MakesBlocks n before after
fewer slots before after key w rest a k some =
    let made = k.blocks in
    let few : made.0 ≤ length w = made.1 in
    let whole : length w + length rest ≡ length key = sym (length-append w rest) ∙ ap length k.whole in
    (made.0, by_rest rest whole made.0 few made.2, made.3)
  where
    by_rest : (r : List ℕ) → length w + length r ≡ length key → (n : ℕ) → n ≤ length w → (0 < length w → n < length w) → n < length key
    by_rest [] whole n few less = let now : n < length w = less (omega (arith, whole, some)) in omega (arith, whole, now)
    by_rest (l ∷ r) whole n few less = omega (arith, whole, few)

-- by one where the last byte was not come to, and the first step made none
pub fewer_still : (slots : ℕ) (before after : Fields) (key w rest : List ℕ) (l a : ℕ) → Walked slots before after key w (l ∷ rest) a → (a ≡ 0 → ⊥) → (n : ℕ) × (n + 1 < length key) × MakesBlocks n before after
fewer_still slots before after key w rest l a k below_root =
    let made = k.blocks in
    let whole : length w + length (l ∷ rest) ≡ length key = sym (length-append w (l ∷ rest)) ∙ ap length k.whole in
    let some : 0 < length w = by_front w k.at in
    let few : made.0 < length w = made.2 some in
    (made.0, omega (arith, whole, few), made.3)
  where
    by_front : (v : List ℕ) → IsAt (cells_in after) v a → 0 < length v
    by_front [] at = absurd (below_root (sym at.1))
    by_front (m ∷ v) at = omega arith

-- what `trim` makes of a table, from slot a on
pub record Trims (slots : ℕ) (mid after : Fields) (a : ℕ) : Type 0 where
  pub table : IsTable slots after.places
  pub tree : (f : Forest) (w : List ℕ) → HoldsTree (size_of mid) (cells_in mid) f → IsAt (cells_in mid) w a → HoldsTree (size_of after) (cells_in after) (tree_after_trim (root_of f) w).children
  pub root_check : (cells_in after).check 0 ≡ (cells_in mid).check 0
  pub frame : SameFrame mid after
  pub marks : KeepsMarks (cells_in mid) (cells_in after)

taken_back : (slots : ℕ) (before mid after : Fields) (key w rest : List ℕ) (a : ℕ) (error : Shortage) → IsWellFormed slots before → Walked slots before mid key w rest a → Trims slots mid after a → MayRefuse mid.places slots error
    → (n : ℕ) × (n < length key) × (before.layout ≡ reduced_layout → LacksNode (cells_in before) key → n + 1 < length key) × MakesBlocks n before mid
    → (is_some (number_at (tree_of before) key) ≡ true → ⊥)
    → ((b : ℕ) → key ≡ b ∷ [] → has_label (tree_of before).children b ≡ false → (before.layout ≡ default_layout) × NoPlace (size_of before) (cells_in before))
    → TakenBack slots before after key error
taken_back slots before mid after key w rest a error well k trims refused made over one_byte =
    let settings = settings_then before mid after k.settings trims.frame.settings in
    let holds : HoldsTree (size_of after) (cells_in after) (tree_of before).children = subst (λ (t : Tree). HoldsTree (size_of after) (cells_in after) t.children) k.back (trims.tree k.forest w k.holds k.at) in
    let kept = tree_kept slots before after well trims.table (trims.root_check ∙ k.root_check) holds settings in
    record {
      well_formed = kept.0;
      tree = kept.1;
      refused = refuses_on mid after slots error trims.frame refused;
      blocks = (made.0, made.1, made.2, made_framed made.0 before mid after made.3 trims.frame);
      marks = marks_then (cells_in before) (cells_in mid) (cells_in after) k.marks trims.marks;
      over = over;
      one_byte = one_byte;
      modes = modes before after settings;
    }

-- a call that was refused: the slots are as they were
pub record Refuses (slots : ℕ) (mid after : Fields) (error : Shortage) : Type 0 where
  pub layout : after.layout ≡ mid.layout
  pub table : IsTable slots after.places
  pub unchanged : SameSlots mid.places after.places
  pub settings : SameSettings mid after
  pub refused : MayRefuse after.places slots error

-- a step that was refused
pub step_refused : (slots : ℕ) (before mid failed after : Fields) (key w rest : List ℕ) (l a : ℕ) (error : Shortage) → IsWellFormed slots before → IsKey key → Walked slots before mid key w (l ∷ rest) a → Refuses slots mid failed error → Trims slots failed after a
    → ((cells_in mid).check (below (cells_in mid) a l) ≡ pos a → ⊥) → (a ≡ 0 → ⊥) → TakenBack slots before after key error
step_refused slots before mid failed after key w rest l a error well is_key k refuses trims owned at_root =
    let same = walked_same slots before mid failed key w (l ∷ rest) a k refuses.layout refuses.table refuses.unchanged refuses.settings in
    let few = fewer_still slots before failed key w rest l a same at_root in
    taken_back slots before failed after key w (l ∷ rest) a error well same trims refuses.refused
    (few.0, let less = few.1 in omega (arith, less), (λ _ _. few.1), few.2)
    (λ h. owned (next_owned slots before mid key w rest l a k h))
    (λ b e new. absurd (at_root (one_step slots before mid key w rest l a b k e)))

-- ---- the number put

put_number_of_root : (t : Tree) (o : Bool) (key : List ℕ) (v : ℤ) → IsKey key → (put t o key v).number ≡ t.number
put_number_of_root t o [] v h = absurd h
put_number_of_root t o (l ∷ path) v h = refl

sound_put : (t : Tree) (o : Bool) (key : List ℕ) (v : ℤ) → IsKey key → IsSoundBelow t.children → IsSoundBelow (put t o key v).children
sound_put t o [] v h s = absurd h
sound_put t o (l ∷ path) v h s = sound-put t o (l ∷ path) v h s

ascending_put : (t : Tree) (o : Bool) (key : List ℕ) (v : ℤ) → o ≡ true → IsAscending t.children → IsAscending (put t o key v).children
ascending_put t o key v is a = subst (λ b. IsAscending (put t b key v).children) (sym is) (ascending-put t key v a)

-- the tree with the number put, in a table that counts it
pub tree_put : (slots : ℕ) (T T' : Fields) (key : List ℕ) (v : ℤ) → IsWellFormed slots T → IsKey key → is_value v ≡ true → IsTable slots T'.places → (cells_in T').check 0 ≡ (cells_in T).check 0
    → HoldsTree (size_of T') (cells_in T') (put (tree_of T) T.ordered key v).children → T'.ordered ≡ T.ordered → T'.entries ≡ T.entries + cond (is_some (number_at (tree_of T) key)) 0 1
    → IsWellFormed slots T' × (tree_of T' ≡ put (tree_of T) T.ordered key v)
tree_put slots T T' key v w is_key value table root holds ordered entries =
    let t : Tree = tree_of T in
    let g : Forest = (put t T.ordered key v).children in
    let old : t ≡ root_of t.children = tree_of_is T t.children w.stands in
    let bare : (put t T.ordered key v).number ≡ None = put_number_of_root t T.ordered key v is_key ∙ ap (λ (u : Tree). u.number) old in
    let is : root_of g ≡ put t T.ordered key v = ap (λ n. record { number = n; children = g }) (sym bare) in
    let count : T'.entries ≡ length (walk (root_of g)) = entries ∙ ap (λ n. n + cond (is_some (number_at t key)) 0 1) w.entries ∙ sym (length-walk-put t T.ordered key v) ∙ sym (ap (λ (u : Tree). length (walk u)) is) in (
      is_well_formed slots T' g table (root_kept slots T T' w table root) holds (sound_put t T.ordered key v is_key w.sound) (all-put (λ n. is_value n ≡ true) t T.ordered key v value w.values)
          (λ o. let was : T.ordered ≡ true = sym ordered ∙ o in ascending_put t T.ordered key v was (w.ascending was)) count,
      tree_of_is T' g holds ∙ is,
    )

-- the same table with another count of entries
abbrev pub counted : Fields → ℕ → Fields
counted T n = record { layout = T.layout; ordered = T.ordered; entries = n; places = T.places }

-- what setting the number of the node at slot a makes sure of
pub record Sets (slots : ℕ) (layout : LayoutKind) (mid after : Fields) (a : ℕ) (v : ℤ) : Type 0 where
  pub table : IsTable slots after.places
  pub set : (f : Forest) (w : List ℕ) → HoldsTree (size_of mid) (cells_in mid) f → IsAt (cells_in mid) w a → HoldsTree (size_of after) (cells_in after) (edit_at w (λ _. Some v) (λ u. u) f)
  pub blocks : (n : ℕ) × (n ≤ 1) × MakesBlocks n mid after
  pub owned : (cells_in mid).check (below (cells_in mid) a 0) ≡ pos a → MakesBlocks 0 mid after
  pub own : (v : ℤ) → (cells_in mid).stored a ≡ OwnNumber v → MakesBlocks 0 mid after
  pub leaf : (cells_in mid).stored a ≡ AtBase 0 → MakesBlocks 0 mid after ⊎ (layout ≡ default_layout) × NoPlace (size_of mid) (cells_in mid)
  pub root_check : (cells_in after).check 0 ≡ (cells_in mid).check 0
  pub settings : SameSettings mid after

-- the number is put at the key
pub record IsPut (slots : ℕ) (before after : Fields) (key : List ℕ) (v : ℤ) : Type 0 where
  pub well_formed : IsWellFormed slots after
  pub tree : tree_of after ≡ put (tree_of before) before.ordered key v
  pub blocks : (n : ℕ) × (n ≤ length key) × MakesBlocks n before after
  pub over : is_some (number_at (tree_of before) key) ≡ true → MakesBlocks 0 before after
  pub one_byte : (b : ℕ) → key ≡ b ∷ [] → has_label (tree_of before).children b ≡ false → MakesBlocks 0 before after ⊎ (before.layout ≡ default_layout) × NoPlace (size_of before) (cells_in before)
  -- where a leaf of the key keeps its number in its own base field, no block is made for it
  pub lacking : before.layout ≡ reduced_layout → LacksNode (cells_in before) key → (n : ℕ) × (n < length key) × MakesBlocks n before after
  pub modes : SameModes before after

never : default_layout ≡ reduced_layout → ⊥
never e = cc

-- where all of a key was walked
module _ (slots : ℕ) (before mid : Fields) (key : List ℕ) (a : ℕ) (well : IsWellFormed slots before) (is_key : IsKey key) (k : Walked slots before mid key key [] a) where
  some_bytes : 0 < length key
  some_bytes = key_some key is_key

  pub not_root : a ≡ 0 → ⊥
  not_root = by_key key is_key k.at
    where
      by_key : (q : List ℕ) → IsKey q → IsAt (cells_in mid) q a → a ≡ 0 → ⊥
      by_key [] h at z = absurd h
      by_key (l ∷ q) h at z =
          let e = ends l q in
          below_root (cells_in mid) k.holds.root e.0 e.1 (subst (OnPath (cells_in mid)) e.2 at.0) (ap (slot_at (cells_in mid)) (sym e.2) ∙ at.1 ∙ z)

  number_is : number_at (tree_of before) key ≡ (node_at (root_of k.forest) key).number
  number_is = sym k.number ∙ number_of_node (root_of k.forest) key

  -- the number of the node is the one that the key had
  pub number_before : (n : Option ℤ) → ((f : Forest) (w : List ℕ) → HoldsTree (size_of mid) (cells_in mid) f → IsAt (cells_in mid) w a → n ≡ (node_at (root_of f) w).number) → n ≡ number_at (tree_of before) key
  number_before n tells = tells k.forest key k.holds k.at ∙ sym number_is

  -- where the number of the key is kept
  stands_at : is_some (number_at (tree_of before) key) ≡ true → ((cells_in mid).check (below (cells_in mid) a 0) ≡ pos a) ⊎ ((v : ℤ) × ((cells_in mid).stored a ≡ OwnNumber v))
  stands_at h = number_stands (size_of mid) (cells_in mid) k.forest key a k.holds k.at (sym (ap is_some number_is) ∙ h)

  -- where the key had no node, it now has a leaf
  new_leaf : LacksNode (cells_in before) key → (cells_in mid).stored a ≡ AtBase 0
  new_leaf lacks = elim k.fresh [ inl same ↦ absurd (lacks a same.0) | inr new ↦ new.1 ]

  put_there : (v : ℤ) → put (tree_of before) before.ordered key v ≡ with_number (root_of k.forest) key v
  put_there v = sym (k.puts v) ∙ by_key key is_key (at_path (size_of mid) (cells_in mid) k.forest key a k.holds k.at)
    where
      by_key : (q : List ℕ) → IsKey q → HasPath (root_of k.forest) q → put (root_of k.forest) before.ordered q v ≡ with_number (root_of k.forest) q v
      by_key [] h there = absurd h
      by_key (l ∷ q) h there = put-with_number (root_of k.forest) before.ordered l q v there

  no_place : (b : ℕ) → key ≡ b ∷ [] → NoPlace (size_of mid) (cells_in mid) → NoPlace (size_of before) (cells_in before)
  no_place b e full x far inside =
      let one : length key ≡ 1 = ap length e in
      let made = k.blocks in
      let grows : mid.places.blocks.active ≡ before.places.blocks.active + made.0 = made.3.active in
      k.outside (omega (arith, one)) x far (full x far (omega (arith, inside, grows)))

  pub is_put : (after : Fields) (v : ℤ) (entries : ℕ) → is_value v ≡ true → Sets slots before.layout mid after a v → entries ≡ after.entries + cond (is_some (number_at (tree_of before) key)) 0 1 → IsPut slots before (counted after entries) key v
  is_put after v entries value sets count =
      let settings = settings_then before mid after k.settings sets.settings in
      let holds : HoldsTree (size_of after) (cells_in after) (put (tree_of before) before.ordered key v).children =
      subst (λ (t : Tree). HoldsTree (size_of after) (cells_in after) t.children) (sym (put_there v)) (sets.set k.forest key k.holds k.at) in
      let done = tree_put slots before (counted after entries) key v well is_key value sets.table (sets.root_check ∙ k.root_check) holds settings.ordered (count ∙ ap (λ n. n + cond (is_some (number_at (tree_of before) key)) 0 1) settings.entries) in
      let first = k.blocks in
      let next = sets.blocks in
      let few : first.0 < length key = first.2 some_bytes in
      let one : next.0 ≤ 1 = next.1 in
      let all = made_then first.0 next.0 before mid after first.3 next.2 in
      record {
        well_formed = done.0;
        tree = done.1;
        blocks = (first.0 + next.0, omega (arith, few, one), made_counted (first.0 + next.0) after entries all);
        over = λ h. made_counted 0 after entries (made_then 0 0 before mid after (k.over h) (elim (stands_at h) [ inl o ↦ sets.owned o | inr own ↦ sets.own own.0 own.1 ]));
        one_byte = λ b e new. by_leaf b e (sets.leaf (k.leaf b e new));
        lacking = λ reduced lacks. elim (sets.leaf (new_leaf lacks)) [
          | inl none ↦ (first.0 + 0, omega (arith, few), made_counted (first.0 + 0) after entries (made_then first.0 0 before mid after first.3 none))
          | inr full ↦ absurd (never (sym full.0 ∙ reduced))
        ];
        modes = record { ordered = settings.ordered; max_trial = settings.max_trial };
      }
    where
      made_counted : (n : ℕ) (T : Fields) (entries : ℕ) → MakesBlocks n before T → MakesBlocks n before (counted T entries)
      made_counted n T entries m = record { active = m.active; capacity = m.capacity }

      none_made : (b : ℕ) → key ≡ b ∷ [] → MakesBlocks 0 mid after → MakesBlocks 0 before after
      none_made b e none =
          let first = k.blocks in
          let one : length key ≡ 1 = ap length e in
          let few : first.0 < length key = first.2 some_bytes in
          let zero : first.0 ≡ 0 = omega (arith, few, one) in
          made_then 0 0 before mid after (subst (λ n. MakesBlocks n before mid) zero first.3) none

      by_leaf : (b : ℕ) → key ≡ b ∷ [] → MakesBlocks 0 mid after ⊎ (before.layout ≡ default_layout) × NoPlace (size_of mid) (cells_in mid) → MakesBlocks 0 before (counted after entries) ⊎ (before.layout ≡ default_layout) × NoPlace (size_of before) (cells_in before)
      by_leaf b e (inl none) = inl (made_counted 0 after entries (none_made b e none))
      by_leaf b e (inr full) = inr (full.0, no_place b e full.1)

  -- the number was refused
  pub put_refused : (failed after : Fields) (error : Shortage) → Refuses slots mid failed error → Trims slots failed after a
      → ((cells_in mid).check (below (cells_in mid) a 0) ≡ pos a → ⊥) → ((v : ℤ) → (cells_in mid).stored a ≡ OwnNumber v → ⊥)
      → ((cells_in mid).stored a ≡ AtBase 0 → (before.layout ≡ default_layout) × NoPlace (size_of mid) (cells_in mid)) → TakenBack slots before after key error
  put_refused failed after error refuses trims owned own leaf =
      let same = walked_same slots before mid failed key key [] a k refuses.layout refuses.table refuses.unchanged refuses.settings in
      let few = fewer slots before failed key key [] a same some_bytes in
      taken_back slots before failed after key key [] a error well same trims refuses.refused
      (few.0, few.1, (λ reduced lacks. absurd (never (sym (leaf (new_leaf lacks)).0 ∙ reduced))), few.2)
      (λ h. elim (stands_at h) [ inl o ↦ owned o | inr o ↦ own o.0 o.1 ])
      (λ b e new. let full = leaf (k.leaf b e new) in (full.0, no_place b e full.1))

-- ---- the count of entries

-- a number where there was none counts
pub one_more : (n : ℕ) (had new : Bool) → had ≡ not new → new ≡ true → n + 1 ≡ n + cond had 0 1
one_more n true true is new = absurd (true≢false is)
one_more n false true is new = refl
one_more n had false is new = absurd (false≢true new)

pub no_more : (n : ℕ) (had new : Bool) → had ≡ not new → new ≡ false → n ≡ n + cond had 0 1
no_more n true false is old = omega arith
no_more n false false is old = absurd (false≢true is)
no_more n had true is old = absurd (true≢false old)

pub entries_fit : (slots : ℕ) (T : Fields) → IsWellFormed slots T → T.entries < 2 ^ 30
unfolding tree_read
entries_fit slots T w =
    let named : count_by (is_held (cells_in T)) (range_with_len 0 (size_of T)) ≡ length (slots_named (cells_in T) (tree_of T)) = count_is_named slots T w in
    let most : count_by (is_held (cells_in T)) (range_with_len 0 (size_of T)) ≤ length (range_with_len 0 (size_of T)) = count_by-le-length (is_held (cells_in T)) (range_with_len 0 (size_of T)) in
    let len : length (range_with_len 0 (size_of T)) ≡ size_of T = length-range_with_len 0 (size_of T) in
    let parts : length (slots_named (cells_in T) (tree_of T)) ≡ 1 + length (slots_below (cells_in T) 0 (tree_of T).children) = omega arith in
    let fewer : length (walk_forest (tree_of T).children) ≤ length (slots_below (cells_in T) 0 (tree_of T).children) = entries_named (cells_in T) 0 (tree_of T).children in
    let active : T.places.blocks.active ≤ length T.places.blocks.records = w.table.sound.shaped.blocks.active_in in
    let within : 256 * length T.places.blocks.records ≤ slots = w.table.within in
    let limit : slots ≤ 2 ^ 30 = w.table.limit.most in
    let entries : T.entries ≡ length (walk_forest (tree_of T).children) = w.entries in
    omega (arith, named, most, len, parts, fewer, active, within, limit, entries)
