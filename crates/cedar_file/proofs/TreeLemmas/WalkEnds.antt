-- The walk over the nodes of a well-formed table comes back to the root, and has met all that is held.
use Rattle.std.proofs.Common.{◌≡◌, ℕ, zero, suc, ◌+◌, ◌-◌, ◌*◌, ◌<◌, ◌≤◌, length, sym, ◌∙◌, ap, refl, subst, inl, inr, arith, Bool, true, false}
use Rattle.std.specs.Prelude.{pos}
use Rattle.std.specs.List.{count_by, range_with_len}
use Rattle.cedar_model.specs.Tree.{AllAbove, AllNumbers, Forest, IsAscending, IsSoundBelow, none, child}
use Rattle.cedar_model.specs.Queries.{walk, walk_forest}
use Rattle.cedar_file.specs.declared.check.tree.Walk.{Walk}
use Rattle.cedar_model.specs.Table.Cells.{Cells, is_held}
use Rattle.cedar_file.specs.TreeWalk.{ComesBack, GoesDown, GoesOn, GoesUp, IsBack, LooksLikeRoot, number_count_at, slots_at, walk_at, walk_down, walk_start, walk_up}
use Rattle.cedar_model.specs.Meaning.Family.{base_of, below, Links}
use Rattle.cedar_model.specs.Meaning.StandsFor.{ChildrenStand, labels}
use Rattle.cedar_model.specs.Meaning.Reading.{first_in}
use Rattle.cedar_model.specs.Table.TableFields.{Fields, size_of}
use Rattle.cedar_model.specs.Meaning.WellFormed.{cells_in, is_value, IsWellFormed, slots_below, tree_of}
use Rattle.cedar_model.proofs.CellsLemmas.HeldSlots.{active_is}
use Rattle.cedar_file.proofs.TreeLemmas.Turns.{one_step}
use Rattle.cedar_file.proofs.TreeLemmas.LooksLikeNode.{node_looks}
use Rattle.cedar_file.proofs.TreeLemmas.TreeRead.{numbers-more, same_counts, slots-more}
use Rattle.cedar_slots.proofs.ListsLemmas.FreeCounts.{count_by-total, total, yes}
use Rattle.cedar_model.proofs.MeaningLemmas.ExclusiveOr.{xor_back}
use Rattle.cedar_model.proofs.MeaningLemmas.HeldCount.{count_is_named}
use Rattle.cedar_model.proofs.MeaningLemmas.TreeOf.{in_use, tree_of_is}
use Rattle.cedar_model.proofs.MeaningLemmas.OneTree.{node_reads}

-- how many steps a walk makes below a node: down to each node and up again
unfoldable steps_below : Forest → ℕ
steps_below none = 0
steps_below (child l n u rest) = suc (steps_below u + suc (steps_below rest))

steps_few : (T : Cells) (s : ℕ) (f : Forest) → steps_below f ≤ 2 * length (slots_below T s f)
unfolding steps_below
steps_few T s none = omega arith
steps_few T s (child l n u rest) =
    omega (arith, slots-more T s l n u rest, steps_few T (below T s l) u, steps_few T s rest)

module _ (size : ℕ) (ordered : Bool) (T : Cells) (root : (c : ℕ) → T.check 0 ≡ pos c → ⊥) (active : (q c : ℕ) → T.check q ≡ pos c → q < size) where
  step_down : (k : ℕ) (w : Walk) (m e : ℕ) → GoesDown size T w → ComesBack k size ordered T (walk_down T w) m e → ComesBack (suc k) size ordered T w m e
  unfolding ComesBack
  step_down k w m e down h = inr (walk_down T w, inl (down, refl), h)

  step_up : (k c : ℕ) (w : Walk) (m e : ℕ) → GoesUp size ordered T w c → ComesBack k size ordered T (walk_up T w c) m e → ComesBack (suc k) size ordered T w m e
  unfolding ComesBack
  step_up k c w m e up h = inr (walk_up T w c, inr (c, up, refl), h)

  next_above : (s l x : ℕ) (rest : Forest) → Links T s x (labels rest) → AllAbove l rest → 0 < x → l < x
  next_above s l x none h a p = absurd (omega (arith, h, p))
  next_above s l x (child m n u others) h a p = omega (arith, h.0, a.0)

  -- a walk that has come to the chain below slot s meets all that is below it, and goes on from s
  walk_below : (f : Forest) (n s c met numbers m e : ℕ) → s < size → Links T s c (labels f) → ChildrenStand size T s f → IsSoundBelow f → AllNumbers (λ v. is_value v ≡ true) f → (ordered ≡ true → IsAscending f)
      → ComesBack n size ordered T (walk_at T s 0 (met + length (slots_below T s f)) (numbers + length (walk_forest f))) m e
      → ComesBack (steps_below f + n) size ordered T (walk_at T s c met numbers) m e
  unfolding steps_below
  walk_below none n s c met numbers m e inside h g sound values asc k =
      let start : ComesBack n size ordered T (walk_at T s 0 met numbers) m e = same_counts n size ordered T s 0 (met + 0) met (numbers + 0) numbers m e (omega arith) (omega arith) k in
      let steps : n ≡ 0 + n = omega arith in
      subst (λ x. ComesBack x size ordered T (walk_at T s c met numbers) m e) steps (subst (λ x. ComesBack n size ordered T (walk_at T s x met numbers) m e) (sym h) start)
  walk_below (child l v u rest) n s c met numbers m e inside h g sound values asc k =
      let b : ℕ = below T s l in
      let not_root : b ≡ 0 → ⊥ = λ z. root s (ap T.check (sym z) ∙ h.3) in
      let reads = node_reads size T b v (labels u) not_root g.0 in
      let looks = node_looks size T b v u not_root g.0 sound.3 values.0 in
      let met_here : ℕ = met + slots_at T b in
      let numbers_here : ℕ = numbers + number_count_at T b in
      let slots = slots-more T s l v u rest in
      let entries = numbers-more T b l v u rest reads.number in
      let beside : ComesBack (steps_below rest + n) size ordered T (walk_at T s (T.sibling b) (met_here + length (slots_below T b u)) (numbers_here + length (walk_forest u))) m e =
      walk_below rest n s (T.sibling b) (met_here + length (slots_below T b u)) (numbers_here + length (walk_forest u)) m e inside h.4 g.2 sound.5 values.2 (λ o. (asc o).2)
      (same_counts n size ordered T s 0 _ _ _ _ m e (omega (arith, slots)) (omega (arith, entries)) k) in
      let up : GoesUp size ordered T (walk_at T b 0 (met_here + length (slots_below T b u)) (numbers_here + length (walk_forest u))) s = record {
        ended = refl;
        not_root = not_root;
        owner = h.3;
        inside = inside;
        ascends = λ o p. subst (λ x. x < T.sibling b) (sym (xor_back (base_of T s) l)) (next_above s l (T.sibling b) rest h.4 (asc o).0 p);
      } in
      let under : ComesBack (steps_below u + suc (steps_below rest + n)) size ordered T (walk_at T b (first_in T b) met_here numbers_here) m e =
      walk_below u (suc (steps_below rest + n)) b (first_in T b) met_here numbers_here m e (active b s h.3) reads.links g.1 sound.4 values.1 (λ o. (asc o).1)
      (step_up (steps_below rest + n) s _ m e up beside) in
      let down : GoesDown size T (walk_at T s l met numbers) = record { positive = h.1; small = h.2; owned = h.3; looks = looks } in
      let all : ComesBack (suc (steps_below u + suc (steps_below rest + n))) size ordered T (walk_at T s l met numbers) m e = step_down (steps_below u + suc (steps_below rest + n)) (walk_at T s l met numbers) m e down under in
      let steps : suc (steps_below u + suc (steps_below rest + n)) ≡ suc (steps_below u + suc (steps_below rest)) + n = omega arith in
      subst (λ x. ComesBack x size ordered T (walk_at T s c met numbers) m e) steps (subst (λ x. ComesBack (suc (steps_below u + suc (steps_below rest + n))) size ordered T (walk_at T s x met numbers) m e) (sym h.0) all)

  back_or_on : (w : Walk) (m e : ℕ) (next : Walk) → IsBack w m e → GoesOn size ordered T w next → ⊥
  back_or_on w m e next back (inl down) = omega (arith, back.ended, down.0.positive)
  back_or_on w m e next back (inr up) = up.1.not_root back.root

  -- a walk ends in one way
  ends_once : (n : ℕ) (w : Walk) (m e m' e' : ℕ) → ComesBack n size ordered T w m e → ComesBack n size ordered T w m' e' → (m ≡ m') × (e ≡ e')
  unfolding ComesBack
  ends_once zero w m e m' e' h k = absurd h
  ends_once (suc n) w m e m' e' (inl h) (inl k) = (sym h.met ∙ k.met, sym h.numbers ∙ k.numbers)
  ends_once (suc n) w m e m' e' (inl h) (inr k) = absurd (back_or_on w m e k.0 h k.1)
  ends_once (suc n) w m e m' e' (inr h) (inl k) = absurd (back_or_on w m' e' h.0 k h.1)
  ends_once (suc n) w m e m' e' (inr h) (inr k) =
      ends_once n h.0 m e m' e' h.2 (subst (λ x. ComesBack n size ordered T x m' e') (one_step size ordered T w k.0 h.0 k.1 h.1) k.2)

held_few : (p : ℕ → Bool) (a n : ℕ) → total (λ s. yes (p s)) a n ≤ n
unfolding total
held_few p a zero = omega arith
held_few p a (suc n) = omega (arith, held_few p (a + 1) n, one (p a))
  where
    one : (b : Bool) → yes b ≤ 1
    one true = omega arith
    one false = omega arith

back_now : (n size : ℕ) (ordered : Bool) (T : Cells) (m e : ℕ) → ComesBack (suc n) size ordered T (walk_at T 0 0 m e) m e
unfolding ComesBack
back_now n size ordered T m e = inl (record { ended = refl; root = refl; met = refl; numbers = refl })

pub root_looks : (slots : ℕ) (T : Fields) → IsWellFormed slots T → LooksLikeRoot (cells_in T)
root_looks slots T w = record {
  check = active_is T.layout T.places 0 (omega (arith, w.table.sound.shaped.blocks.some)) ∙ w.root_check;
  stored = w.stands.stands.0.based;
  child = w.stands.stands.0.begins.1;
}

-- the walk over a well-formed table meets each held slot, and as many numbers as there are entries
pub well_formed_walked : (slots : ℕ) (T : Fields) (start : Walk) → start ≡ walk_start (cells_in T) → IsWellFormed slots T → ComesBack (2 * size_of T) (size_of T) T.ordered (cells_in T) start (count_by (is_held (cells_in T)) (range_with_len 0 (size_of T))) T.entries
well_formed_walked slots T start begins w =
    let c : Cells = cells_in T in
    let f : Forest = (tree_of T).children in
    let size : ℕ = size_of T in
    let m : ℕ = 1 + length (slots_below c 0 f) in
    let e : ℕ = 0 + length (walk_forest f) in
    let some : 0 < size = omega (arith, w.table.sound.shaped.blocks.some) in
    let counted : count_by (is_held c) (range_with_len 0 size) ≡ m = count_is_named slots T w ∙ omega arith in
    let entries : T.entries ≡ e = w.entries ∙ ap (λ t. length (walk t)) (tree_of_is T f w.stands) ∙ omega arith in
    let few : count_by (is_held c) (range_with_len 0 size) ≤ size = omega (arith, count_by-total (is_held c) 0 size, held_few (is_held c) 0 size) in
    let spare : ℕ = 2 * size - steps_below f - 1 in
    let steps : steps_below f + suc spare ≡ 2 * size = omega (arith, steps_few c 0 f, few, counted) in
    let walked = walk_below size T.ordered c w.stands.root (in_use T) f (suc spare) 0 (c.sibling 0) 1 0 m e some w.stands.stands.0.begins.2 w.stands.stands.1 w.sound w.values w.ascending (back_now spare size T.ordered c m e) in
    let there = subst (λ n. ComesBack n size T.ordered c (walk_start c) m e) steps walked in
    let from = subst (λ s. ComesBack (2 * size) size T.ordered c s m e) (sym begins) there in
    subst (λ x. ComesBack (2 * size) size T.ordered c start x T.entries) (sym counted) (subst (λ y. ComesBack (2 * size) size T.ordered c start m y) (sym entries) from)

-- so a walk that ends has met these
pub well_formed_met : (slots : ℕ) (T : Fields) (start : Walk) (m e : ℕ) → start ≡ walk_start (cells_in T) → ComesBack (2 * size_of T) (size_of T) T.ordered (cells_in T) start m e → IsWellFormed slots T → (m ≡ count_by (is_held (cells_in T)) (range_with_len 0 (size_of T))) × (e ≡ T.entries)
well_formed_met slots T start m e begins ended w =
    ends_once (size_of T) T.ordered (cells_in T) w.stands.root (in_use T) (2 * size_of T) start m e _ _ ended (well_formed_walked slots T start begins w)
