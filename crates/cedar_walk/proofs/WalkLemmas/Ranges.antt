-- A walk over a range of keys in a table: where it begins, and the path of a node.
use Rattle.std.proofs.Common.{◌≡◌, ◌⊎◌, inl, inr, ℕ, zero, suc, ◌+◌, ◌-◌, ◌<◌, ◌≤◌, ◌==◌, true, false, cond, ℤ, List, [], ◌∷◌, ◌++◌, length, take, drop, set, get_or, Option, Some, None, MatchOption, append_assoc, sym, ◌∙◌, ap, refl, subst, arith}
use Rattle.std.specs.Prelude.{pos, unsigned_abs}
use Rattle.std.proofs.lemmas.Bool.{eqb-false, eqb-true}
use Rattle.std.proofs.lemmas.Bool.Decides.{eqb_tells}
use Rattle.std.proofs.lemmas.List.{drop_more, drop-set, length-append, length-set, length-take-le, take_all, take-append-drop, take-set, take-take}
use Rattle.cedar_model.specs.Edits.{HasPath}
use Rattle.cedar_model.specs.Tree.{Forest, none, Tree, has_label, IsSoundBelow, subtree}
use Rattle.cedar_model.specs.Queries.{node_at, walk}
use Rattle.cedar_model.specs.Walks.{behind, visited_entries, forwards, node_up, visits_left}
use Rattle.cedar_model.proofs.OrderLemmas.{sound_node_at}
use Rattle.cedar_model.proofs.VisitLemmas.{node_up_is}
use Rattle.cedar_model.specs.Meaning.Family.{Among, base_of, below}
use Rattle.cedar_model.specs.Meaning.StandsFor.{labels}
use Rattle.cedar_model.specs.Edit.NodeEdits.{IsAt}
use Rattle.cedar_model.specs.Table.TableFields.{Fields, size_of}
use Rattle.cedar_model.specs.Meaning.WellFormed.{cells_in, IsWellFormed, tree_of}
use Rattle.cedar_model.proofs.MeaningLemmas.ExclusiveOr.{xor_back}
use Rattle.cedar_model.proofs.MeaningLemmas.KeyPath.{tree_root}
use Rattle.cedar_model.proofs.MeaningLemmas.NodeAtPath.{at_path}
use Rattle.cedar_model.proofs.MeaningLemmas.OneNode.{owned_label}
use Rattle.cedar_model.proofs.MeaningLemmas.SearchStep.{has_among}
use Rattle.cedar_walk.specs.declared.ranges.Reached.{Reached}
use Rattle.cedar_walk.specs.declared.visits.Numbered.{Numbered}
use Rattle.cedar_walk.specs.declared.visits.Place.{Place}
use Rattle.cedar_walk.specs.Visits.{ComesTo, ComesToNumber, entries_at, first_sibling_label, IsBelow, left_after, number_below, owner_of, path_to, visited_at, way_up}
use Rattle.cedar_walk.specs.Ranges.{entries_since, siblings_above}
use Rattle.cedar_walk.specs.RangePlaces.{AboveFrom, BeginsAt, IsReached, left_above}
use Rattle.cedar_walk.proofs.WalkLemmas.NextNode.{child_is_at, child_owned, last_of, next_label, node_stands, parent_below, up_of, way_one_more}
use Rattle.cedar_walk.proofs.WalkLemmas.NextNumber.{last_label, number_there}
use Rattle.cedar_walk.proofs.WalkLemmas.Since.{above_first, above_label, above_none, above_on, ascending_at, at_up, since_missing, since_node, since_none}
use Rattle.cedar_model.proofs.EntryLemmas.Keys.{label_bounds}

-- ---- labels

-- a byte that is no more than 255 steps from 0
abbrev pub steps_left : ℕ → ℕ
steps_left l = cond (l == 0) 0 (256 - l)

pub fewer_left : (a b : ℕ) → (a ≡ 0 → ⊥) → a < 256 → b < 256 → ((b ≡ 0 → ⊥) → a < b) → steps_left b < steps_left a
fewer_left a b some low lower more = elim (eqb_tells a 0) [
  | inl z ↦ absurd (some z.1)
  | inr far ↦ subst (λ t. steps_left b < cond t 0 (256 - a)) (sym far.0) (elim (eqb_tells b 0) [
    | inl z ↦ subst (λ t. cond t 0 (256 - b) < 256 - a) (sym z.0) (omega (arith, low))
    | inr other ↦ let up : a < b = more other.1 in subst (λ t. cond t 0 (256 - b) < 256 - a) (sym other.0) (omega (arith, low, lower, up))
  ])
]

pub one_more : (n : ℕ) → (n ≡ 0 → ⊥) → n ≡ suc (n - 1)
one_more zero some = absurd (some refl)
one_more (suc n) some = omega arith

module _ (slots : ℕ) (T : Fields) (k : IsWellFormed slots T) where
  -- the label of a node, read from its slot and the one above it
  pub label_is : (w : List ℕ) (l above node : ℕ) → IsAt (cells_in T) w above → IsAt (cells_in T) (w ++ l ∷ []) node → (below (cells_in T) above node ≡ l) × (l < 256)
  label_is w l above node at there =
      let last = last_of (cells_in T) w l node there in
      let same : last.above ≡ above = sym last.at.1 ∙ at.1 in
      let is : below (cells_in T) above l ≡ node = ap (λ a. below (cells_in T) a l) (sym same) ∙ last.is in
      let st = node_stands slots T k w above at in
      let f : Forest = (node_at (tree_of T) w).children in
      let owned : (cells_in T).check (below (cells_in T) above l) ≡ pos above = ap (cells_in T).check is ∙ last.check ∙ ap pos same in
      let among : Among (labels f) l = owned_label (size_of T) (cells_in T) above l st.head (labels f) st.family last.label owned in (
        ap (below (cells_in T) above) (sym is) ∙ xor_back (base_of (cells_in T) above) l,
        (label_bounds f l (sound_node_at (tree_of T) w k.sound) (has_among f l among)).1,
      )

  -- one label up
  pub one_up : (start : List ℕ) (n s : ℕ) → IsBelow (cells_in T) start n s → (n ≡ 0 → ⊥) → IsAt (cells_in T) ((start ++ path_to T (n - 1) (owner_of (cells_in T) s)) ++ below (cells_in T) (owner_of (cells_in T) s) s ∷ []) s
  one_up start n s at some = up_of slots T k start (n - 1) s (subst (λ x. IsBelow (cells_in T) start x s) (one_more n some) at)

  pub one_up_below : (start : List ℕ) (n s p : ℕ) → IsBelow (cells_in T) start n s → (n ≡ 0 → ⊥) → (cells_in T).check s ≡ pos p → IsBelow (cells_in T) start (n - 1) p
  one_up_below start n s p at some o = parent_below slots T k start (n - 1) s p (subst (λ x. IsBelow (cells_in T) start x s) (one_more n some) at) o

  pub one_up_at : (start : List ℕ) (n s p : ℕ) → IsBelow (cells_in T) start n s → (n ≡ 0 → ⊥) → (cells_in T).check s ≡ pos p → IsAt (cells_in T) (start ++ path_to T (n - 1) (owner_of (cells_in T) s)) p
  one_up_at start n s p at some o =
      let owner : owner_of (cells_in T) s ≡ p = ap unsigned_abs o in
      subst (λ x. IsAt (cells_in T) (start ++ path_to T (n - 1) x) p) (sym owner) (one_up_below start n s p at some o)

  -- the sibling after a label that isn't above
  pub sibling_on : T.ordered ≡ true → (w : List ℕ) (s m next slot sib : ℕ) → IsAt (cells_in T) w s → AboveFrom (node_at (tree_of T) w).children m next → (next ≡ 0 → ⊥) → next ≤ m
      → slot ≡ below (cells_in T) s next → sib ≡ (cells_in T).sibling slot → AboveFrom (node_at (tree_of T) w).children m sib × ((sib ≡ 0 → ⊥) → next < sib)
  sibling_on ordered w s m next slot sib at above some most is read =
      let f : Forest = (node_at (tree_of T) w).children in
      let sound : IsSoundBelow f = sound_node_at (tree_of T) w k.sound in
      let has : has_label f next ≡ true = above_label f m next sound above some in
      let there = child_is_at slots T k w s next (label_bounds f next sound has).0 at has in
      let first : sib ≡ first_sibling_label (behind f next) = read ∙ ap (cells_in T).sibling is ∙ next_label slots T k w next (below (cells_in T) s next) there in
      let on = above_on f m next sound (ascending_at (tree_of T) w (k.ascending ordered)) above some most in
      subst (λ x. AboveFrom f m x × ((x ≡ 0 → ⊥) → next < x)) (sym first) on

  -- a label under which the slot isn't owned is no child's
  pub lacks : (w : List ℕ) (s l : ℕ) → IsAt (cells_in T) w s → (l ≡ 0) ⊎ ((cells_in T).check (below (cells_in T) s l) ≡ pos s → ⊥) → has_label (node_at (tree_of T) w).children l ≡ false
  lacks w s l at off = (elim (has_label (node_at (tree_of T) w).children l) as (λ b. has_label (node_at (tree_of T) w).children l ≡ b → b ≡ false) [
    | true ↦ λ e. absurd (elim off [
      | inl z ↦ let positive = (label_bounds (node_at (tree_of T) w).children l (sound_node_at (tree_of T) w k.sound) e).0 in omega (arith, positive, z)
      | inr other ↦ other (child_owned slots T k w s l at e)
    ])
    | false ↦ λ e. refl
  ]) refl

-- ---- the path of a node, from its last label to its first

pub way_back : (T : Fields) (n : ℕ) (w : List ℕ) (s : ℕ) → length w ≡ n → IsAt (cells_in T) w s → path_to T n s ≡ w
way_back T zero [] s e at = refl
way_back T zero (j ∷ v) s e at = absurd (omega (arith, e))
way_back T (suc n) [] s e at = absurd (omega (arith, e))
way_back T (suc n) (j ∷ v) s e at =
    let split = last_label j v in
    let long = ap length split.2 ∙ length-append split.0 (split.1 ∷ []) in
    let last = last_of (cells_in T) split.0 split.1 s (subst (λ w. IsAt (cells_in T) w s) split.2 at) in
    let owner : owner_of (cells_in T) s ≡ last.above = ap unsigned_abs last.check in
    ap (λ x. forwards (below (cells_in T) x s ∷ way_up (cells_in T) n x)) owner
    ∙ ap (λ p. p ++ below (cells_in T) last.above s ∷ []) (way_back T n split.0 last.above (omega (arith, e, long)) last.at)
    ∙ ap (λ x. split.0 ++ x ∷ []) (ap (below (cells_in T) last.above) (sym last.is) ∙ xor_back (base_of (cells_in T) last.above) split.1)
    ∙ sym split.2

pub below_root_at : (T : Fields) (w : List ℕ) (n s : ℕ) → length w ≡ n → IsAt (cells_in T) w s → IsBelow (cells_in T) [] n s
below_root_at T w n s e at = subst (λ v. IsAt (cells_in T) v s) (sym (way_back T n w s e at)) at

-- a key whose last labels are written, but for n' of them, which lead to slot s'
pub record Written (T : Fields) (n s : ℕ) (key : List ℕ) (n' s' : ℕ) (now : List ℕ) : Type 0 where
  pub less : n' ≤ n
  pub long : length now ≡ length key
  pub front : take (length key - n + n') now ≡ take (length key - n + n') key
  pub path : path_to T n s ≡ path_to T n' s' ++ drop (length key - n + n') now

pub written_on : (T : Fields) (n s : ℕ) (key : List ℕ) (m s' p x : ℕ) (now : List ℕ) → n ≤ length key → Written T n s key (suc m) s' now → (cells_in T).check s' ≡ pos p → x ≡ below (cells_in T) p s'
    → Written T n s key m p (set now (length key - n + m) x)
written_on T n s key m s' p x now room c o is =
    let i : ℕ = length key - n + m in
    let next : length key - n + suc m ≡ i + 1 = omega arith in
    let inside : i < length now = let less = c.less in let long = c.long in omega (arith, room, less, long) in
    let owner : owner_of (cells_in T) s' ≡ p = ap unsigned_abs o in
    let front : take (i + 1) now ≡ take (i + 1) key = subst (λ j. take j now ≡ take j key) next c.front in
    record {
      less = let less = c.less in omega (arith, less);
      long = length-set now i x ∙ c.long;
      front = take-set now i x ∙ sym (take-take i (i + 1) now (omega arith)) ∙ ap (take i) front ∙ take-take i (i + 1) key (omega arith);
      path =
          c.path
          ∙ ap (λ j. path_to T (suc m) s' ++ drop j now) next
          ∙ ap (λ y. forwards (below (cells_in T) y s' ∷ way_up (cells_in T) m y) ++ drop (i + 1) now) owner
          ∙ append_assoc (path_to T m p) (below (cells_in T) p s' ∷ []) (drop (i + 1) now)
          ∙ ap (λ y. path_to T m p ++ y ∷ drop (i + 1) now) (sym is)
          ∙ ap (λ r. path_to T m p ++ r) (sym (drop-set now i x inside));
    }

pub written_all : (T : Fields) (n s : ℕ) (key : List ℕ) (s' : ℕ) (now : List ℕ) → Written T n s key 0 s' now → now ≡ take (length key - n) key ++ path_to T n s
written_all T n s key s' now c =
    let e : length key - n + 0 ≡ length key - n = omega arith in
    sym (take-append-drop (length key - n + 0) now)
    ∙ ap (λ x. x ++ drop (length key - n + 0) now) c.front
    ∙ ap (λ x. take (length key - n + 0) key ++ x) (sym c.path)
    ∙ ap (λ j. take j key ++ path_to T n s) e

-- ---- where it begins

module _ (slots : ℕ) (T : Fields) (k : IsWellFormed slots T) (ordered : T.ordered ≡ true) where
  -- a first child above the label
  pub begins_above : (n s label next : ℕ) (place : Place) → IsBelow (cells_in T) [] n s → AboveFrom (node_at (tree_of T) (path_to T n s)).children label next → (next ≡ 0 → ⊥) → label < next
      → place.slot ≡ below (cells_in T) s next → place.depth ≡ n + 1 → BeginsAt T (left_above T n s label) place
  begins_above n s label next place at above some higher slot deep =
      let t : Tree = tree_of T in
      let up : List ℕ = way_up (cells_in T) n s in
      let f : Forest = (node_at t (path_to T n s)).children in
      let sound : IsSoundBelow f = sound_node_at t (path_to T n s) k.sound in
      let has : has_label f next ≡ true = above_label f label next sound above some in
      let owned = child_owned slots T k (path_to T n s) s next at has in
      let way : way_up (cells_in T) place.depth place.slot ≡ next ∷ up = ap (λ d. way_up (cells_in T) d place.slot) deep ∙ ap (way_up (cells_in T) (n + 1)) slot ∙ way_one_more (cells_in T) n s next owned in
      let there : IsAt (cells_in T) (path_to T n s ++ next ∷ []) place.slot = subst (IsAt (cells_in T) (path_to T n s ++ next ∷ [])) (sym slot) (child_is_at slots T k (path_to T n s) s next (label_bounds f next sound has).0 at has) in
      let number : number_below T [] place.depth place.slot ≡ (subtree (node_up t up).children next).number =
      number_there slots T k [] n s next place.slot place.depth at has slot deep ∙ ap (λ g. (subtree g next).number) (at_up t up) in
      record {
        below = subst (λ v. IsAt (cells_in T) v place.slot) (sym (ap forwards way)) there;
        deep = omega (arith, deep);
        entries =
            ap visited_entries (above_first t up label next (subst IsSoundBelow (at_up t up) sound) (subst (λ g. AboveFrom g label next) (at_up t up) above) higher)
            ∙ ap (λ (o : Option ℤ). visited_entries ((forwards (next ∷ up), o) ∷ visits_left t (next ∷ up))) (sym number)
            ∙ ap (λ v. visited_entries ((forwards v, number_below T [] place.depth place.slot) ∷ visits_left t v)) (sym way);
      }

  pub none_above : (n s label next : ℕ) → AboveFrom (node_at (tree_of T) (path_to T n s)).children label next → next ≡ 0 → left_above T n s label ≡ left_after T [] n s
  none_above n s label next above z =
      let t : Tree = tree_of T in
      let up : List ℕ = way_up (cells_in T) n s in
      let sound : IsSoundBelow (node_at t (path_to T n s)).children = sound_node_at t (path_to T n s) k.sound in
      left_over T n s label (above_none (node_up t up).children label next (subst IsSoundBelow (at_up t up) sound) (subst (λ g. AboveFrom g label next) (at_up t up) above) z)
    where
      left_over : (T : Fields) (n s label : ℕ) → siblings_above (node_up (tree_of T) (way_up (cells_in T) n s)).children label ≡ none → left_above T n s label ≡ left_after T [] n s
      left_over T n s label e = rw e refl

  pub begins_after : (n s label : ℕ) (found : Option Place) → left_above T n s label ≡ left_after T [] n s
      → MatchOption found (left_after T [] n s ≡ []) (λ place. ComesTo T [] (left_after T [] n s) (path_to T n s) (visited_at T [] place))
      → MatchOption found (left_above T n s label ≡ []) (BeginsAt T (left_above T n s label))
  begins_after n s label None e gone = e ∙ gone
  begins_after n s label (Some place) e comes = record {
    below = comes.below;
    deep = comes.deep.0;
    entries = ap visited_entries (e ∙ comes.visits);
  }

  path_held : (w : List ℕ) (s : ℕ) → IsAt (cells_in T) w s → HasPath (tree_of T) w
  path_held w s at = subst (λ (t : Tree). HasPath t w) (sym (tree_root slots T k)) (at_path (size_of T) (cells_in T) (tree_of T).children w s k.stands at)

  -- the whole key leads to a node
  pub since_whole : (key : List ℕ) (r : Reached) → IsReached T key r → r.depth ≡ length key → (IsBelow (cells_in T) [] r.depth r.slot) × (entries_since (tree_of T) key ≡ entries_at T [] r.depth r.slot)
  since_whole key r at e =
      let t : Tree = tree_of T in
      let whole : take r.depth key ≡ key = take_all r.depth key (omega (arith, e)) in
      let there : IsAt (cells_in T) key r.slot = subst (λ w. IsAt (cells_in T) w r.slot) whole at.at in
      let up : List ℕ = way_up (cells_in T) r.depth r.slot in
      let back : forwards up ≡ key = way_back T r.depth key r.slot (sym e) there in (
        below_root_at T key r.depth r.slot (sym e) there,
        ap (entries_since t) (sym back)
            ∙ since_node t up (k.ascending ordered) (subst (HasPath t) (sym back) (path_held key r.slot there))
            ∙ ap (λ (o : Option ℤ). visited_entries ((forwards up, o) ∷ visits_left t up)) (ap (λ (u : Tree). u.number) (node_up_is t up)),
      )

  -- the key goes on where there is no child for its next byte
  pub since_short : (key : List ℕ) (r : Reached) → IsReached T key r → r.depth < length key
      → (IsBelow (cells_in T) [] r.depth r.slot) × (entries_since (tree_of T) key ≡ visited_entries (left_above T r.depth r.slot (get_or key r.depth 0)))
  since_short key r at short =
      let t : Tree = tree_of T in
      let n : ℕ = r.depth in
      let m : ℕ = get_or key n 0 in
      let long : length (take n key) ≡ n = length-take-le n key at.within in
      let up : List ℕ = way_up (cells_in T) n r.slot in
      let back : forwards up ≡ take n key = way_back T n (take n key) r.slot long at.at in
      let split : key ≡ take n key ++ m ∷ drop (n + 1) key = sym (take-append-drop n key) ∙ ap (λ x. take n key ++ x) (drop_more key n 0 short) in
      let missing : has_label (node_up t up).children m ≡ false = ap (λ g. has_label g m) (sym (at_up t up)) ∙ ap (λ w. has_label (node_at t w).children m) back ∙ at.ends short in (
        below_root_at T (take n key) n r.slot long at.at,
        ap (entries_since t) (split ∙ ap (λ w. w ++ m ∷ drop (n + 1) key) (sym back))
            ∙ since_missing t up m (drop (n + 1) key) (k.ascending ordered) (subst (HasPath t) (sym back) (path_held (take n key) r.slot at.at)) missing,
      )

-- from the empty key on there are all
pub since_empty : (T : Fields) (key : List ℕ) (found : Option Numbered) → key ≡ [] → MatchOption found (walk (node_at (tree_of T) key) ≡ []) (ComesToNumber T key (walk (node_at (tree_of T) key)))
    → MatchOption found (entries_since (tree_of T) key ≡ []) (ComesToNumber T [] (entries_since (tree_of T) key))
since_empty T key found e h =
    subst (λ q. MatchOption found (entries_since (tree_of T) q ≡ []) (ComesToNumber T [] (entries_since (tree_of T) q))) (sym e)
    (subst (λ es. MatchOption found (es ≡ []) (ComesToNumber T [] es)) (sym (since_none (walk (tree_of T))))
    (subst (λ q. MatchOption found (walk (node_at (tree_of T) q) ≡ []) (ComesToNumber T q (walk (node_at (tree_of T) q)))) e h))

pub empty_key : (key : List ℕ) → (length key == 0) ≡ true → key ≡ []
empty_key [] e = refl
empty_key (b ∷ key) e = let z : length (b ∷ key) ≡ 0 = eqb-true (length (b ∷ key)) 0 e in absurd (omega (arith, z))

pub some_key : (key : List ℕ) → (length key == 0) ≡ false → 0 < length key
some_key [] e = absurd (eqb-false 0 0 e refl)
some_key (b ∷ key) e = omega arith
