-- How a walk over all entries begins, and how it goes on.
use Rattle.std.proofs.Common.{◌≡◌, ℕ, ◌-◌, ◌==◌, cond, ℤ, List, [], ◌∷◌, ◌++◌, length, take, Option, Some, None, option_map, refl, sym, ap, subst, ◌∙◌, inl, inr}
use Rattle.std.specs.List.{cons_option, Contains}
use Rattle.std.proofs.lemmas.List.{nil_from_length}
use Rattle.std.proofs.lemmas.Bool.Decides.{eqb_tells}
use Rattle.cedar_tree.specs.Queries.{Entry, node_at, walk}
use Rattle.cedar_tree.specs.Tree.{number_at}
use Rattle.cedar_tree.specs.Walks.{visited_entries, visits_left}
use Rattle.cedar_tree.proofs.MemberLemmas.{contains_here, held_from_walk}
use Rattle.cedar_tree.proofs.OrderLemmas.{number_of_node}
use Rattle.cedar_tree.proofs.VisitLemmas.{walk_visits}
use Rattle.cedar_walk.specs.declared.visits.Numbered.{Numbered}
use Rattle.cedar_walk.specs.declared.visits.Visited.{Visited}
use Rattle.cedar_model.specs.Table.TableFields.{Fields}
use Rattle.cedar_walk.specs.Visits.{ComesTo, ComesToNumber, IsBelow, left_at, number_below, path_to}
use Rattle.cedar_model.specs.Meaning.WellFormed.{cells_in, IsWellFormed, tree_of}
use Rattle.cedar_walk.proofs.WalkLemmas.NextNode.{path_length}
use Rattle.cedarwood.specs.WalkPlaces.{ComesToEntry, entries_from, IsEntriesPlace}
use Rattle.cedarwood.proofs.DictionaryLemmas.{no_number}
use Rattle.cedar_model.proofs.UpdateLemmas.TrimUpwards.{root_path}

-- ---- the beginning

-- the walk begins at the root, whose path is empty
pub entries_place : (T : Fields) (key : List ℕ) → key ≡ [] → IsEntriesPlace T key 0
entries_place T key none_yet = subst (λ w. IsEntriesPlace T w 0) (sym none_yet) (record { below = (tt, refl); path = refl; number = λ other. absurd (other refl) })

all_of : (n : ℕ) (es : List Entry) → n ≡ length es → cond (n == 0) [] es ≡ es
all_of n es e = elim (eqb_tells n 0) [
  | inl z ↦ ap (λ b. cond b [] es) z.0 ∙ sym (nil_from_length es (sym e ∙ z.1))
  | inr some ↦ ap (λ b. cond b [] es) some.0
]

pub entries_begin : (slots : ℕ) (T : Fields) (key : List ℕ) (n : ℕ) → IsWellFormed slots T → key ≡ [] → n ≡ length (walk (tree_of T)) → entries_from T key 0 n ≡ walk (tree_of T)
entries_begin slots T key n k none_yet count =
    let whole : walk (tree_of T) ≡ visited_entries (left_at T [] 0 0) = walk_visits (tree_of T) ∙ ap (λ (o : Option ℤ). visited_entries (([], o) ∷ visits_left (tree_of T) [])) (no_number slots T k) in
    ap (λ w. entries_from T w 0 n) none_yet
    ∙ all_of n (visited_entries (left_at T [] 0 0)) (count ∙ ap length whole)
    ∙ sym whole

-- at the root all entries are left
pub all_left : (slots : ℕ) (T : Fields) (key : List ℕ) → IsWellFormed slots T → IsEntriesPlace T key 0 → visited_entries (left_at T [] (length key) 0) ≡ walk (tree_of T)
all_left slots T key k at =
    let none_yet : key ≡ [] = sym at.path ∙ root_path (cells_in T) (path_to T (length key) 0) 0 k.stands.root at.below refl in
    ap (λ w. visited_entries (left_at T [] (length w) 0)) none_yet
    ∙ sym (walk_visits (tree_of T) ∙ ap (λ (o : Option ℤ). visited_entries (([], o) ∷ visits_left (tree_of T) [])) (no_number slots T k))

-- ---- the first entry, node by node

-- the walk has been at slot s, at the end of a key
pub record StandsAt (T : Fields) (key : List ℕ) (s : ℕ) : Type 0 where
  pub below : IsBelow (cells_in T) [] (length key) s
  pub path : path_to T (length key) s ≡ key

-- and goes on to the next node, at the end of another key
pub record Stepped (T : Fields) (key : List ℕ) (s : ℕ) (next : Visited) (key' : List ℕ) : Type 0 where
  pub place : StandsAt T key' next.slot
  pub visits : left_at T [] (length key) s ≡ (key', next.number) ∷ left_at T [] (length key') next.slot

pub stepped : (T : Fields) (key : List ℕ) (s : ℕ) (next : Visited) (key' : List ℕ) → StandsAt T key s → ComesTo T [] (left_at T [] (length key) s) (path_to T (length key) s) next
    → key' ≡ take (next.depth - 1) key ++ next.label ∷ [] → Stepped T key s next key'
stepped T key s next key' at comes is =
    let path : path_to T next.depth next.slot ≡ key' = comes.way ∙ ap (λ w. take (next.depth - 1) w ++ next.label ∷ []) at.path ∙ sym is in
    let depth : next.depth ≡ length key' = sym (path_length T next.depth next.slot) ∙ ap length path in
    record {
      place = record {
        below = subst (λ d. IsBelow (cells_in T) [] d next.slot) depth comes.below;
        path = ap (λ d. path_to T d next.slot) (sym depth) ∙ path;
      };
      visits =
          comes.visits
          ∙ ap (λ w. (w, next.number) ∷ left_at T [] next.depth next.slot) path
          ∙ ap (λ d. (key', next.number) ∷ left_at T [] d next.slot) depth;
    }

pub passes : (T : Fields) (key : List ℕ) (s : ℕ) (next : Visited) (key' : List ℕ) → Stepped T key s next key' → next.number ≡ None → visited_entries (left_at T [] (length key) s) ≡ visited_entries (left_at T [] (length key') next.slot)
passes T key s next key' step is =
    ap visited_entries step.visits
    ∙ ap (λ (n : Option ℤ). cons_option (option_map (λ (x : ℤ). (key', x)) n) (visited_entries (left_at T [] (length key') next.slot))) is

-- where all entries are left, the first node with a number is the next place: the first entry has that number
pub comes_to : (slots : ℕ) (T : Fields) (left : List Entry) (key : List ℕ) (s : ℕ) (next : Visited) (key' : List ℕ) (v w : ℤ) → IsWellFormed slots T → left ≡ walk (tree_of T) → left ≡ visited_entries (left_at T [] (length key) s)
    → Stepped T key s next key' → next.number ≡ Some v → w ≡ v → ComesToEntry T left key' (next.slot, w)
comes_to slots T left key s next key' v w k all so_far step is same =
    let rest : List Entry = visited_entries (left_at T [] (length key') next.slot) in
    let first : left ≡ (key', v) ∷ rest = so_far ∙ ap visited_entries step.visits ∙ ap (λ (n : Option ℤ). cons_option (option_map (λ (x : ℤ). (key', x)) n) rest) is in
    let held : number_at (tree_of T) key' ≡ Some v = held_from_walk (tree_of T) key' v k.sound (subst (λ (es : List Entry). Contains es (key', v)) (sym first ∙ all) (contains_here (key', v) rest)) in
    record {
      place = record {
        below = step.place.below;
        path = step.place.path;
        number = λ _. (v, ap (λ path. (node_at (tree_of T) path).number) step.place.path ∙ sym (number_of_node (tree_of T) key') ∙ held);
      };
      entries = first ∙ ap (λ (x : ℤ). (key', x) ∷ rest) (sym same);
    }

-- what the next node is, by the length of the key
pub comes_here : (T : Fields) (key : List ℕ) (s d : ℕ) (next : Visited) → d ≡ length key → StandsAt T key s
    → ((start : List ℕ) → IsBelow (cells_in T) start d s → ComesTo T start (left_at T start d s) (path_to T d s) next)
    → ComesTo T [] (left_at T [] (length key) s) (path_to T (length key) s) next
comes_here T key s d next e at comes =
    subst (λ n. ComesTo T [] (left_at T [] n s) (path_to T n s) next) e (comes [] (subst (λ n. IsBelow (cells_in T) [] n s) (sym e) at.below))

pub ends_here : (T : Fields) (left : List Entry) (key : List ℕ) (s d : ℕ) → d ≡ length key → StandsAt T key s → left ≡ visited_entries (left_at T [] (length key) s)
    → ((start : List ℕ) → IsBelow (cells_in T) start d s → left_at T start d s ≡ []) → left ≡ []
ends_here T left key s d e at so_far ends =
    so_far ∙ ap (λ n. visited_entries (left_at T [] n s)) (sym e) ∙ ap visited_entries (ends [] (subst (λ n. IsBelow (cells_in T) [] n s) (sym e) at.below))

-- ---- one entry more

-- a node with a number, at the end of a key, is the next place
pub entry_there : (T : Fields) (left : List Entry) (key : List ℕ) (next : Numbered) (v : ℤ) → ComesToNumber T [] left next → key ≡ path_to T next.depth next.slot → v ≡ next.number → ComesToEntry T left key (next.slot, v)
entry_there T left key next v comes is same =
    let depth : next.depth ≡ length key = sym (path_length T next.depth next.slot) ∙ ap length (sym is) in
    record {
      place = record {
        below = subst (λ d. IsBelow (cells_in T) [] d next.slot) depth comes.below;
        path = ap (λ d. path_to T d next.slot) (sym depth) ∙ sym is;
        number = λ _. (next.number, ap (λ d. number_below T [] d next.slot) (sym depth) ∙ comes.number);
      };
      entries =
          comes.entries
          ∙ ap (λ w. (w, next.number) ∷ visited_entries (left_at T [] next.depth next.slot)) (sym is)
          ∙ ap (λ d. (key, next.number) ∷ visited_entries (left_at T [] d next.slot)) depth
          ∙ ap (λ n. (key, n) ∷ visited_entries (left_at T [] (length key) next.slot)) (sym same);
    }
