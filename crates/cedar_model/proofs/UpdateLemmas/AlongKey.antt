-- One step after another of an update along a key.
use Rattle.std.proofs.Common.{suc, take, drop, get_or, drop-cons, ◌≡◌, ℕ, ◌<◌, ◌≤◌, ◌+◌, ◌*◌, Bool, true, false, cond, List, [], ◌∷◌, ◌++◌, length, ◌⊎◌, inl, inr, sym, ◌∙◌, ap, refl, subst, arith, append_assoc, length-append}
use Rattle.std.specs.Prelude.{ℤ, pos, negsuc, is_some, nat_lt}
use Rattle.std.proofs.lemmas.Grind.{common_steps}
use Rattle.std.proofs.lemmas.Bool.{true≢false}
use Rattle.cedar_tree.specs.Tree.{Forest, Tree, has_label, put, number_at, IsKey, IsSoundBelow, IsPath}
use Rattle.cedar_tree.specs.Queries.{node_at}
use Rattle.cedar_tree.specs.Edits.{HasPath}
use Rattle.cedar_model.specs.declared.layout.Stored.TheVariants.{AtBase, OwnNumber}
use Rattle.cedar_model.specs.Table.Cells.{Cells, cells_of, Held}
use Rattle.cedar_model.specs.Edit.NodeEdits.{follow_on, IsAt, IsNodeOf}
use Rattle.cedar_model.specs.Meaning.Family.{base_in, below}
use Rattle.cedar_model.specs.Edit.KeyWalk.{Walked}
use Rattle.cedar_model.specs.Table.Layouts.{LayoutKind, reading}
use Rattle.cedar_model.specs.Meaning.Marks.{KeepsMarks}
use Rattle.cedar_model.specs.Meaning.StandsFor.{HoldsTree, OnPath, slot_at}
use Rattle.cedar_model.specs.Edit.Own.{HasWay, NoOwn}
use Rattle.cedar_slots.specs.Places.{IsTable, PlaceFields, SameSlots}
use Rattle.cedar_slots.specs.Slots.{base_at, check_at, info_at}
use Rattle.cedar_model.specs.Edit.Steps.{MakesBlocks, root_of, StepsTo, tree_after_trim, with_child}
use Rattle.cedar_model.specs.Table.TableFields.{Fields, SameSettings, size_of}
use Rattle.cedar_model.specs.Meaning.WellFormed.{cells_in, IsWellFormed, tree_of}
use Rattle.cedar_model.proofs.MeaningLemmas.NodeAtPath.{at_owned, at_owner, at_path, path_front}
use Rattle.cedar_model.proofs.UpdateLemmas.BlocksMade.{made_none, made_nothing, made_then}
use Rattle.cedar_model.proofs.UpdateLemmas.OnTheWay.{ascending-with_child, child_root, held_on_way, number_at-with_child, put-with_child, trimmed_child, trimmed_root}
use Rattle.cedar_model.proofs.MeaningLemmas.NumberSlots.{marks_same, marks_then}
use Rattle.cedar_model.proofs.EditLemmas.OwnNumber.{same_or_not}
use Rattle.cedar_model.proofs.EditLemmas.NumberMovesOut.{leaf_alone}
use Rattle.cedar_model.proofs.MeaningLemmas.TreeOf.{tree_of_is}
use Rattle.cedar_model.proofs.UpdateLemmas.Frame.{settings_then}

-- ---- the start

pub walk_begins : (slots : ℕ) (T : Fields) (key : List ℕ) → IsWellFormed slots T → IsPath key → Walked slots T T key [] key 0
walk_begins slots T key w bytes =
    let f : Forest = (tree_of T).children in
    let tree : tree_of T ≡ root_of f = tree_of_is T f w.stands in
    record {
      table = w.table;
      root_check = refl;
      settings = record { ordered = refl; entries = refl; max_trial = refl };
      whole = refl;
      bytes = bytes;
      inside = omega (arith, w.table.sound.shaped.blocks.some);
      forest = f;
      holds = w.stands;
      ascending = w.ascending;
      at = (tt, refl);
      puts = λ v. ap (λ (t : Tree). put t T.ordered key v) (sym tree);
      number = ap (λ (t : Tree). number_at t key) (sym tree);
      back = trimmed_root f ∙ sym tree;
      blocks = (0, omega arith, λ h. omega (arith, h), made_nothing T T refl);
      over = λ _. made_nothing T T refl;
      outside = λ _ x _ h. h;
      leaf = λ b e. absurd (omega (arith, ap length e));
      fresh = inl ((tt, refl), refl);
      marks = marks_same (cells_in T);
    }

-- ---- a step

more_label : (w rest key : List ℕ) (l : ℕ) → w ++ l ∷ rest ≡ key → (w ++ l ∷ []) ++ rest ≡ key
more_label w rest key l e = append_assoc w (l ∷ []) rest ∙ e

first_step : (w : List ℕ) (l : ℕ) → length (w ++ l ∷ []) ≤ 1 → w ≡ []
first_step [] l h = refl
first_step (m ∷ w) l h = absurd (omega (arith, h, length-append w (l ∷ [])))

first_label : (w : List ℕ) (l b : ℕ) → w ++ l ∷ [] ≡ b ∷ [] → (w ≡ []) × (l ≡ b)
first_label w l b e =
    let none : w ≡ [] = first_step w l (omega (arith, ap length e)) in
    let one : l ∷ [] ≡ b ∷ [] = ap (λ x. x ++ l ∷ []) (sym none) ∙ e in
    (none, cc)

at_root : (T : Cells) (w : List ℕ) (a : ℕ) → w ≡ [] → IsAt T w a → a ≡ 0
at_root T w a e at = sym (subst (λ x. IsAt T x a) e at).1

-- what a call that goes from the node at slot a to its child under label l makes sure of
pub record Step (slots : ℕ) (mid after : Fields) (a l s : ℕ) : Type 0 where
  pub table : IsTable slots after.places
  pub stepped : StepsTo mid after a l s
  pub blocks : (n : ℕ) × (n ≤ 1) × MakesBlocks n mid after
  pub owned : (cells_in mid).check (below (cells_in mid) a l) ≡ pos a → MakesBlocks 0 mid after
  pub stays : (cells_in mid).check (below (cells_in mid) a l) ≡ pos a → cells_in after ≡ cells_in mid
  pub root_step : a ≡ 0 → MakesBlocks 0 mid after
  pub root_check : (cells_in after).check 0 ≡ (cells_in mid).check 0
  pub settings : SameSettings mid after

-- a step along a key that has a number is one to a child that is there
pub next_owned : (slots : ℕ) (before mid : Fields) (key w rest : List ℕ) (l a : ℕ) → Walked slots before mid key w (l ∷ rest) a → is_some (number_at (tree_of before) key) ≡ true → (cells_in mid).check (below (cells_in mid) a l) ≡ pos a
next_owned slots before mid key w rest l a k h =
    let t : Tree = root_of k.forest in
    let held : is_some (number_at t (w ++ l ∷ rest)) ≡ true = ap is_some (ap (number_at t) k.whole ∙ k.number) ∙ h in
    at_owner (size_of mid) (cells_in mid) k.forest w a k.holds k.at l (held_on_way t w l rest held)

module _ (slots : ℕ) (before mid after : Fields) (key w rest : List ℕ) (l a s : ℕ) (sound : IsSoundBelow (tree_of before).children) (k : Walked slots before mid key w (l ∷ rest) a) (step : Step slots mid after a l s) where
  abbrev o : Bool
  o = before.ordered

  abbrev t : Tree
  t = root_of k.forest

  abbrev grown : Forest
  grown = (with_child t o w l).children

  there : HasPath t w
  there = at_path (size_of mid) (cells_in mid) k.forest w a k.holds k.at

  grown_is : root_of grown ≡ with_child t o w l
  grown_is = sym (child_root k.forest o w l)

  holds_on : HoldsTree (size_of after) (cells_in after) grown
  holds_on =
      subst (λ b. HoldsTree (size_of after) (cells_in after) (with_child t b w l).children) k.settings.ordered
      (step.stepped.tree k.forest w k.holds (λ is. k.ascending (sym k.settings.ordered ∙ is)) k.at)

  puts_on : (v : ℤ) → put (root_of grown) o key v ≡ put (tree_of before) o key v
  puts_on v =
      ap (λ (u : Tree). put u o key v) grown_is
      ∙ ap (λ q. put (with_child t o w l) o q v) (sym k.whole)
      ∙ put-with_child t o w l rest v there
      ∙ ap (λ q. put t o q v) k.whole
      ∙ k.puts v

  number_on : number_at (root_of grown) key ≡ number_at (tree_of before) key
  number_on = ap (λ (u : Tree). number_at u key) grown_is ∙ number_at-with_child t o w l key there ∙ k.number

  back_on : tree_after_trim (root_of grown) (w ++ l ∷ []) ≡ tree_of before
  back_on = ap (λ (u : Tree). tree_after_trim u (w ++ l ∷ [])) grown_is ∙ trimmed_child (tree_of before) t o w l sound there k.back

  blocks_on : (n : ℕ) × (n ≤ length (w ++ l ∷ [])) × (0 < length (w ++ l ∷ []) → n < length (w ++ l ∷ [])) × MakesBlocks n before after
  blocks_on = by_front w refl
    where
      by_front : (v : List ℕ) → w ≡ v → (n : ℕ) × (n ≤ length (w ++ l ∷ [])) × (0 < length (w ++ l ∷ []) → n < length (w ++ l ∷ [])) × MakesBlocks n before after
      by_front [] e =
          let made = k.blocks in
          let few : made.0 ≤ length w = made.1 in
          let none : length w ≡ 0 = ap length e in
          let long : length (w ++ l ∷ []) ≡ length w + 1 = length-append w (l ∷ []) in
          (made.0 + 0, omega (arith, few, none, long), λ _. omega (arith, few, none, long), made_then made.0 0 before mid after made.3 (step.root_step (at_root (cells_in mid) w a e k.at)))
      by_front (m ∷ v) e =
          let made = k.blocks in
          let more = step.blocks in
          let size : length w ≡ length (m ∷ v) = ap length e in
          let fewer : made.0 < length w = made.2 (omega (arith, size)) in
          let one : more.0 ≤ 1 = more.1 in
          let long : length (w ++ l ∷ []) ≡ length w + 1 = length-append w (l ∷ []) in
          (made.0 + more.0, omega (arith, fewer, one, long), λ _. omega (arith, fewer, one, long), made_then made.0 more.0 before mid after made.3 more.2)

  leaf_on : (b : ℕ) → w ++ l ∷ [] ≡ b ∷ [] → has_label (tree_of before).children b ≡ false → (cells_in after).stored s ≡ AtBase 0
  leaf_on b e new =
      let first = first_label w l b e in
      let same : t ≡ tree_of before = sym (trimmed_root k.forest) ∙ ap (tree_after_trim t) (sym first.0) ∙ k.back in
      let lacks : has_label (node_at t w).children l ≡ false = ap (λ v. has_label (node_at t v).children l) first.0 ∙ ap (λ (u : Tree). has_label u.children l) same ∙ ap (has_label (tree_of before).children) first.1 ∙ new in
      step.stepped.leaf (λ own. true≢false (sym (at_owned (size_of mid) (cells_in mid) k.forest w a k.holds k.at l k.bytes.0 own) ∙ lacks))

  fresh_on : IsAt (cells_in before) (w ++ l ∷ []) s × (cells_in after ≡ cells_in before) ⊎ ((s ≡ 0 → ⊥) × ((cells_in after).stored s ≡ AtBase 0))
  fresh_on = elim (same_or_not ((cells_in mid).check (below (cells_in mid) a l)) (pos a)) [
    | inl o ↦ elim k.fresh [
      | inl same ↦
          let all : cells_in after ≡ cells_in before = step.stays o ∙ same.1 in
          inl (subst (λ T. IsAt T (w ++ l ∷ []) s) all (step.stepped.at w k.at), all)
      | inr new ↦ absurd (leaf_alone (size_of mid) (cells_in mid) k.forest w a k.holds k.at new.0 (ap base_in new.1) _ o)
    ]
    | inr n ↦ inr (step.stepped.not_root, step.stepped.leaf n)
  ]

  pub walked_on : Walked slots before after key (w ++ l ∷ []) rest s
  walked_on = record {
    table = step.table;
    root_check = step.root_check ∙ k.root_check;
    settings = settings_then before mid after k.settings step.settings;
    whole = more_label w rest key l k.whole;
    bytes = k.bytes.2;
    inside = step.stepped.inside;
    forest = grown;
    holds = holds_on;
    ascending = λ is. ascending-with_child t o w l there is (k.ascending is);
    at = step.stepped.at w k.at;
    puts = puts_on;
    number = number_on;
    back = back_on;
    blocks = blocks_on;
    over = λ h. made_then 0 0 before mid after (k.over h) (step.owned (next_owned slots before mid key w rest l a k h));
    outside = λ short x far h.
        let none : w ≡ [] = first_step w l short in
        k.outside (omega (arith, ap length none)) x far (step.stepped.outside (at_root (cells_in mid) w a none k.at) x far h);
    leaf = leaf_on;
    fresh = fresh_on;
    marks = marks_then (cells_in before) (cells_in mid) (cells_in after) k.marks step.stepped.marks;
  }

-- ---- a table with the same slots

pub cells_same : (layout : LayoutKind) (a b : PlaceFields) → SameSlots a b → cells_of layout b ≡ cells_of layout a
cells_same layout a b s = λ i. record {
  base = λ x. base_at (s.slots i).nodes x;
  stored = λ x. reading layout (base_at (s.slots i).nodes x);
  check = λ x. cond (nat_lt x (256 * s.active i)) (check_at (s.slots i).nodes x) (negsuc 0);
  sibling = λ x. (info_at (s.slots i).infos x).sibling;
  child = λ x. (info_at (s.slots i).infos x).child;
}

pub walked_same : (slots : ℕ) (before mid after : Fields) (key w rest : List ℕ) (a : ℕ) → Walked slots before mid key w rest a → after.layout ≡ mid.layout → IsTable slots after.places → SameSlots mid.places after.places → SameSettings mid after → Walked slots before after key w rest a
walked_same slots before mid after key w rest a k layout table same settings =
    let cells : cells_in after ≡ cells_in mid = ap (λ kind. cells_of kind after.places) layout ∙ cells_same mid.layout mid.places after.places same in
    let size : size_of after ≡ size_of mid = ap (λ n. 256 * n) same.active in
    let none : MakesBlocks 0 mid after = made_none mid after same in
    let made = k.blocks in
    let less : made.0 ≤ length w = made.1 in
    record {
      table = table;
      root_check = ap (λ (T : Cells). T.check 0) cells ∙ k.root_check;
      settings = settings_then before mid after k.settings settings;
      whole = k.whole;
      bytes = k.bytes;
      inside = subst (λ n. a < n) (sym size) k.inside;
      forest = k.forest;
      holds = subst (λ n. HoldsTree n (cells_in after) k.forest) (sym size) (subst (λ T. HoldsTree (size_of mid) T k.forest) (sym cells) k.holds);
      ascending = k.ascending;
      at = subst (λ T. IsAt T w a) (sym cells) k.at;
      puts = k.puts;
      number = k.number;
      back = k.back;
      blocks = (made.0 + 0, omega (arith, less), λ some. let fewer : made.0 < length w = made.2 some in omega (arith, fewer), made_then made.0 0 before mid after made.3 none);
      over = λ h. made_then 0 0 before mid after (k.over h) none;
      outside = λ short x far h. k.outside short x far (subst (λ T. Held T x) cells h);
      leaf = λ b e new. ap (λ (T : Cells). T.stored a) cells ∙ k.leaf b e new;
      fresh = elim k.fresh [ inl same ↦ inl (same.0, cells ∙ same.1) | inr new ↦ inr (new.0, ap (λ (T : Cells). T.stored a) cells ∙ new.1) ];
      marks = subst (KeepsMarks (cells_in before)) (sym cells) k.marks;
    }

pub node_walked : (slots : ℕ) (before after : Fields) (key w rest : List ℕ) (a : ℕ) → Walked slots before after key w rest a → (f : Forest) × IsNodeOf (size_of after) (cells_in after) after.ordered f a
node_walked slots before after key w rest a k = (k.forest, record { holds = k.holds; ascending = λ is. k.ascending (sym k.settings.ordered ∙ is); path = w; at = k.at })

-- ---- by the index in the key

pub key_some : (key : List ℕ) → IsKey key → 0 < length key
key_some [] h = absurd h
key_some (l ∷ rest) h = omega arith

module _ (slots : ℕ) (before after : Fields) (key : List ℕ) (i a : ℕ) where
  -- the next byte
  pub walked_at : i < length key → Walked slots before after key (take i key) (drop i key) a → Walked slots before after key (take i key) (get_or key i 0 ∷ drop (i + 1) key) a
  walked_at h k =
      let next : suc i ≡ i + 1 = omega arith in
      subst (λ rest. Walked slots before after key (take i key) rest a) (drop-cons key i 0 h ∙ ap (λ n. get_or key i 0 ∷ drop n key) next) k

  pub walked_to : i < length key → Walked slots before after key (take i key ++ get_or key i 0 ∷ []) (drop (i + 1) key) a → Walked slots before after key (take (i + 1) key) (drop (i + 1) key) a
  walked_to h k = subst (λ w. Walked slots before after key w (drop (i + 1) key) a) (sym (take-more key i h)) k
    where
      take-more : (xs : List ℕ) (j : ℕ) → j < length xs → take (j + 1) xs ≡ take j xs ++ get_or xs j 0 ∷ []
      take-more xs j less = grind (arith, common_steps)

  pub walked_all : length key ≤ i → Walked slots before after key (take i key) (drop i key) a → Walked slots before after key key [] a
  walked_all h k =
      let all : take i key ≡ key = grind (arith, common_steps) in
      let none : drop i key ≡ [] = grind (arith, common_steps) in
      subst (λ rest. Walked slots before after key key rest a) none (subst (λ w. Walked slots before after key w (drop i key) a) all k)

-- the step along a key of one byte is one at the root
pub one_step : (slots : ℕ) (before mid : Fields) (key w rest : List ℕ) (l a b : ℕ) → Walked slots before mid key w (l ∷ rest) a → key ≡ b ∷ [] → a ≡ 0
one_step slots before mid key w rest l a b k e = by_front w k.whole k.at
  where
    by_front : (v : List ℕ) → v ++ l ∷ rest ≡ key → IsAt (cells_in mid) v a → a ≡ 0
    by_front [] whole at = sym at.1
    by_front (m ∷ v) whole at = absurd (omega (arith, ap length whole, length-append v (l ∷ rest), ap length e))

-- ---- the way

-- a node at a front of a key that has a way
pub way_at : (T : Cells) (w q rest : List ℕ) (l : ℕ) → HasWay T (slot_at T q) (w ++ l ∷ rest) → OnPath T (follow_on w q) → NoOwn T (slot_at T (follow_on w q))
way_at T [] q rest l way on = way.0
way_at T (m ∷ w) q rest l way on =
    let step = path_front T w (m ∷ q) on in
    way_at T w (m ∷ q) rest l (way.1 step.1) on

no_own_leaf : (T : Cells) (a : ℕ) → T.stored a ≡ AtBase 0 → NoOwn T a
no_own_leaf T a e v o = let z : AtBase 0 ≡ OwnNumber v = sym e ∙ o in cc

-- the next label can come below the node
pub way_on : (slots : ℕ) (before mid : Fields) (key w rest : List ℕ) (l a : ℕ) → Walked slots before mid key w (l ∷ rest) a → HasWay (cells_in before) 0 key → NoOwn (cells_in mid) a
way_on slots before mid key w rest l a k way = elim k.fresh [
  | inl same ↦
      let on : HasWay (cells_in before) 0 (w ++ l ∷ rest) = subst (HasWay (cells_in before) 0) (sym k.whole) way in
      subst (λ T. NoOwn T a) (sym same.1) (subst (NoOwn (cells_in before)) same.0.1 (way_at (cells_in before) w [] rest l on same.0.0))
  | inr new ↦ no_own_leaf (cells_in mid) a new.1
]
