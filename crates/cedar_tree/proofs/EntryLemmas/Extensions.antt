-- That a key comes before its extensions in the walk.
use Rattle.std.proofs.Common.{◌≡◌, ℕ, ◌<◌, true, false, cond, ◌==◌, ◌||◌, ℤ, List, [], ◌∷◌, ◌++◌, length, map, Some, None, refl, sym, ap, subst, ◌∙◌, arith, append_assoc}
use Rattle.std.proofs.lemmas.Bool.{false≢true, eqb-true}
use Rattle.std.proofs.lemmas.List.{map-append}
use Rattle.std.proofs.lemmas.List.Elements.{Contains-append_left}
use Rattle.cedar_tree.specs.Tree.{Forest, none, child, Tree, has_label, subtree, number_at, IsSoundBelow}
use Rattle.cedar_tree.specs.Queries.{Entry, own_entry, under, walk_forest, walk}
use Rattle.cedar_tree.specs.Laws.{ComesBefore}
use Rattle.cedar_tree.proofs.TreeLemmas.{sound_subtree, held_label}
use Rattle.cedar_tree.proofs.MemberLemmas.{into_map, walk_from_held}

-- what comes before stays so in a longer list, and among what a function makes of the members
comes_before-after : {X : Type 0} (front xs : List X) (x y : X) → ComesBefore xs x y → ComesBefore (front ++ xs) x y
comes_before-after front xs x y c = (front ++ c.0, c.1, ap (λ l. front ++ l) c.2 ∙ sym (append_assoc front c.0 (x ∷ c.1)), c.3)

comes_before-with : {X : Type 0} (xs back : List X) (x y : X) → ComesBefore xs x y → ComesBefore (xs ++ back) x y
comes_before-with xs back x y c =
    (c.0, c.1 ++ back, ap (λ l. l ++ back) c.2 ∙ append_assoc c.0 (x ∷ c.1) back, Contains-append_left c.1 back y c.3)

comes_before-map : {X Y : Type 0} (f : X → Y) (xs : List X) (x y : X) → ComesBefore xs x y → ComesBefore (map f xs) (f x) (f y)
comes_before-map f xs x y c =
    (map f c.0, map f c.1, ap (map f) c.2 ∙ map-append f c.0 (x ∷ c.1), into_map f c.1 y c.3)

-- the entries under a label are in one piece
walk_split : (f : Forest) (l : ℕ) → has_label f l ≡ true → (front : List Entry) × (back : List Entry) × (walk_forest f ≡ front ++ (map (under l) (walk (subtree f l)) ++ back))
walk_split none l h = absurd (false≢true h)
walk_split (child m n below rest) l h =
    (elim (m == l) as (λ b. (m == l) ≡ b → (b || has_label rest l) ≡ true
    → (front : List Entry) × (back : List Entry) × (walk_forest (child m n below rest) ≡ front ++ (map (under l) (walk (cond b (record { number = n; children = below }) (subtree rest l))) ++ back))) [
      | true ↦ λ e _. let label : m ≡ l = eqb-true m l e in ([], walk_forest rest, λ i. map (under (label i)) (own_entry n ++ walk_forest below) ++ walk_forest rest)
      | false ↦ λ e k.
          let later = walk_split rest l k in
          let own : List Entry = map (under m) (own_entry n ++ walk_forest below) in
          (own ++ later.0, later.1, ap (λ (x : List Entry). own ++ x) later.2 ∙ sym (append_assoc own later.0 (map (under l) (walk (subtree rest l)) ++ later.1)))
    ]) refl h

-- a key comes before its extensions
pub key_before_extension : (t : Tree) (k rest : List ℕ) (v w : ℤ) → IsSoundBelow t.children → 0 < length rest
    → number_at t k ≡ Some v → number_at t (k ++ rest) ≡ Some w → ComesBefore (walk t) (k, v) (k ++ rest, w)
key_before_extension t [] [] v w s long h g = absurd (omega arith)
key_before_extension t [] (m ∷ rest) v w s long h g =
    ([], walk_forest t.children, ap (λ n. own_entry n ++ walk_forest t.children) h, walk_from_held (record { number = None; children = t.children }) (m ∷ rest) w s g)
key_before_extension t (l ∷ k) rest v w s long h g =
    let u : Tree = subtree t.children l in
    let split = walk_split t.children l (held_label t.children l k v h) in
    let inner : ComesBefore (walk u) (k, v) (k ++ rest, w) = key_before_extension u k rest v w (sound_subtree t.children l s) long h g in
    let under_label : ComesBefore (map (under l) (walk u)) (l ∷ k, v) (l ∷ k ++ rest, w) = comes_before-map (under l) (walk u) (k, v) (k ++ rest, w) inner in
    let among : ComesBefore (walk_forest t.children) (l ∷ k, v) (l ∷ k ++ rest, w) =
    subst (λ (es : List Entry). ComesBefore es (l ∷ k, v) (l ∷ k ++ rest, w)) (sym split.2)
    (comes_before-after split.0 (map (under l) (walk u) ++ split.1) (l ∷ k, v) (l ∷ k ++ rest, w) (comes_before-with (map (under l) (walk u)) split.1 (l ∷ k, v) (l ∷ k ++ rest, w) under_label)) in
    comes_before-after (own_entry t.number) (walk_forest t.children) (l ∷ k, v) (l ∷ k ++ rest, w) among
